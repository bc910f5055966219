-- What the transactions of several repositories rest on: what each read, as it stood at its participants below its
-- requests, determines what it does, on every store that has the same there. It speaks of prefixes of histories alone,
-- so nothing that comes later changes it. This project's.
use Rattle.law_atomic_commit.specs.Several.{HasCommitted, Several, part}
use Rattle.class_defs.specs.Epochs.{schema_at, upgrade_to}
use Rattle.class_defs.specs.SchemaRules.{item_rules, schema_rules}
use Rattle.class_defs.specs.declared.store.Schema.{Schema}
use Rattle.law_ownership.specs.Checked.{RootsStand}
use Rattle.class_defs.specs.KeptOwnership.{AllKeepClasses}
use Rattle.class_defs.specs.Levels.{is_due}
use Rattle.class_defs.specs.Run.{Ran}
use Rattle.class_defs.specs.Stored.{Stored, bare, in_epoch}
use Rattle.class_defs.specs.UpgradeLinesAside.{upgrade_on_line_1}
use Rattle.class_defs.specs.declared.statements.Stmt.{Stmt}
use Rattle.class_defs.specs.declared.store.Plain.{Plain}
use Rattle.class_defs.specs.declared.store.Root.{Root}
use Rattle.class_defs.specs.declared.store.Schemas.{Schemas}
use Rattle.class_defs.specs.declared.upgrades.Upgrade.{Upgrade as UpgradeTree}
use Rattle.log_entries.specs.declared.request.Kind.TheVariants.{App, Transform, Upgrade}
use Rattle.log_entries.specs.declared.request.Kind.{Kind}
use Rattle.log_entries.specs.declared.request.Request.{Request}
use Rattle.spec_history.specs.History.{Known, objects_at}
use Rattle.spec_history.specs.Requests.{has_created, has_read, has_written}
use Rattle.serial_model.specs.History.{run_on}
use Rattle.serial_model.specs.declared.entries.What.TheVariants.{Tx, Upgrade as UpgradeItem}
use Rattle.serial_model.specs.declared.entries.What.{What}
use Rattle.std.specs.List.{Contains, IsDistinct}
use Rattle.std.specs.Option.{IsSome}
use Rattle.std.specs.Prelude.{IsSomeAnd, List, None, Some, [], false, length, option_map, true, ℕ, ◌+◌, ◌<◌, ◌≡◌, ◌≤◌, ◌↔◌, ◌⊎◌}
use Rattle.law_lazy_history.specs.Standing.{Brings, MapFits, left_at}
use Rattle.thor_value.specs.FiniteMap.{IsSorted, get}
use Rattle.thor_value.specs.Names.{same_oref}
use Rattle.thor_value.specs.declared.names.Oref.{Oref}
use Rattle.thor_value.specs.declared.names.Ts.{Ts}
use Rattle.thor_value.specs.declared.values.Obj.{Obj}
use Rattle.thor_value.specs.declared.values.Who.{Who}
use Rattle.law_serializability.specs.WholeHistory.{stored_map}
use Rattle.law_global_order.specs.Serial.{BeganWith, Joined, Joins, bases}
use Rattle.law_global_order.specs.Whole.{whole}

-- t read x, or created it, at one of its participants
abbrev pub HasRead : Several → Ts → Oref → Type 0
HasRead S t x = (r : ℕ) × (o : Known) × (part S r t ≡ Some o) × (has_read o.request x ≡ true)

-- The plain store M has what t met, whose request at its coordinator is q: it is of that epoch, has each object that t
-- read as it stood there, without its version, and none that t created.
pub record PlainMet (S : Several) (t : Ts) (q : Request) (M : Plain) : Type 0 where
  pub epoch : M.epoch ≡ q.epoch
  pub old : (r : ℕ) (o : Known) (x : Oref) → part S r t ≡ Some o → has_read o.request x ≡ true → has_created q x ≡ false
      → get M.objects x ≡ option_map bare (get (objects_at (S.base r) (S.history r) o.place) x)
  pub new : (x : Oref) → has_created q x ≡ true → get M.objects x ≡ None

-- The stored map N has what t met: it is of that epoch, and has at each name that t read what stood there.
pub record StoredMet (S : Several) (t : Ts) (q : Request) (N : Stored) : Type 0 where
  pub epoch : N.epoch ≡ q.epoch
  pub objects : (r : ℕ) (o : Known) (x : Oref) → part S r t ≡ Some o → has_read o.request x ≡ true
      → get N.objects x ≡ get (objects_at (S.base r) (S.history r) o.place) x

-- ---- application transactions

-- The run gave the answer of t, touched and wrote just what t read, and wrote what t wrote, in its epoch.
pub record RanAs (S : Several) (t : Ts) (q : Request) (r : Ran) : Type 0 where
  pub answer : r.answer ≡ q.answer
  pub reads : (x : Oref) → HasRead S t x ↔ (Contains r.touched x ⊎ IsSome (left_at r.written x))
  pub writes : (x : Oref) → left_at (whole S t q).writes x ≡ option_map (in_epoch q.epoch) (left_at r.written x)

-- The item of t runs so on every plain store that has what t met; t read nothing due; and it wrote each object that it
-- created, under names of which none stands twice.
pub record TxRests (s : Schemas) (items : Who → What) (S : Several) (t : Ts) (q : Request) : Type 0 where
  pub tx : List Stmt
  pub item : items q.who ≡ Tx tx
  pub runs : (M : Plain) → PlainMet S t q M → IsSomeAnd (run_on s M tx q.fresh) (RanAs S t q)
  pub undue : (r : ℕ) (o : Known) (x : Oref) (v : Obj) → part S r t ≡ Some o → has_read o.request x ≡ true
      → get (objects_at (S.base r) (S.history r) o.place) x ≡ Some v → is_due s q.epoch v ≡ false
  -- what it created wasn't there
  pub unborn : (r : ℕ) (o : Known) (x : Oref) → part S r t ≡ Some o → has_created q x ≡ true → has_written o.request x ≡ true
      → get (objects_at (S.base r) (S.history r) o.place) x ≡ None
  pub distinct : IsDistinct same_oref q.fresh
  pub created : (x : Oref) → has_created q x ≡ true → has_written (whole S t q) x ≡ true

-- ---- transforms and upgrades

-- On each map that fits and has what t met, the transform t brings one object, none of whose owners is due.
abbrev pub TransformRests : Schemas → List Root → Several → Ts → Request → Type 0
TransformRests s roots S t q = (N : Stored) → MapFits s N → N.roots ≡ roots → StoredMet S t q N → Brings s N (whole S t q).writes

-- the upgrade is its item, and the one that leads on from its epoch, lines aside
pub record UpgradeRests (s : Schemas) (items : Who → What) (q : Request) : Type 0 where
  pub upgrade : UpgradeTree
  pub item : items q.who ≡ UpgradeItem upgrade
  pub leads : option_map upgrade_on_line_1 (upgrade_to s (q.epoch + 1)) ≡ Some (upgrade_on_line_1 upgrade)

-- ---- all of them

-- a transaction of this kind rests on what it met
abbrev pub RestsAs : Schemas → (Who → What) → List Root → Several → Ts → Request → Kind → Type 0
RestsAs s items roots S t q App = TxRests s items S t q
RestsAs s items roots S t q Transform = TransformRests s roots S t q
RestsAs s items roots S t q (Upgrade text) = UpgradeRests s items q

-- each transaction that has committed does
abbrev pub EachRests : Schemas → (Who → What) → List Root → Several → Type 0
EachRests s items roots S = (t : Ts) (w : Known) → HasCommitted S t w → RestsAs s items roots S t w.request w.request.kind

-- each is an application transaction, and rests on what it met
abbrev pub EachIsTx : Schemas → (Who → What) → Several → Type 0
EachIsTx s items S = (t : Ts) (w : Known) → HasCommitted S t w → (w.request.kind ≡ App) × TxRests s items S t w.request

-- What was opened: L is what the repositories began with, one finite map, and they all began with its upgrades.
pub record IsOpening (S : Several) (L : Joined) : Type 0 where
  pub objects : Joins S.repos (bases S) L.objects
  pub sorted : IsSorted L.objects
  pub texts : BeganWith S L.texts

-- It fits the schemas of all epochs, which have the upgrades that were installed, and these keep who owns what.
pub record OpeningFits (s : Schemas) (roots : List Root) (L : Joined) : Type 0 where
  pub keeps : AllKeepClasses s (length s.upgraded)
  pub installed : length L.texts ≤ length s.upgraded
  pub fits : MapFits s (stored_map roots L)

-- The schemas of all epochs and the items under them break no rule, for this many repositories; the roots that they
-- declare are these; and no repository has the number of the stand-in names.
pub record AreChecked (s : Schemas) (items : Who → What) (roots : List Root) (repos : ℕ) : Type 0 where
  pub schemas_keep : (k : ℕ) (schema : Schema) → schema_at s k ≡ Some schema → schema_rules schema repos ≡ []
  pub items_keep : (who : Who) (tx : List Stmt) (k : ℕ) (schema : Schema) → items who ≡ Tx tx → schema_at s k ≡ Some schema → item_rules schema repos tx ≡ []
  pub roots_stand : (k : ℕ) (schema : Schema) → schema_at s k ≡ Some schema → RootsStand schema roots
  pub few : repos ≤ 255

-- the objects that were opened are those of the repositories
abbrev pub AreHere : Several → Joined → Type 0
AreHere S L = (x : Oref) (o : Obj) → get L.objects x ≡ Some o → x.repo < S.repos
