-- Whether repositories that are whole by themselves fit together (this project's). The tests come one behind the other, each over
-- all repositories, rising: of the first test that one of them doesn't pass, the first that doesn't is told.
use Rattle.class_defs.specs.SchemaRules.{schema_rules}
use Rattle.class_defs.specs.Stored.{Objects, Stored}
use Rattle.class_defs.specs.declared.store.Schemas.{Schemas}
use Rattle.commit_log.specs.Recovered.{threshold_after}
use Rattle.log_codec.specs.declared.state.State.{State}
use Rattle.log_entries.specs.declared.request.Request.{Request}
use Rattle.std.specs.List.{AllByRecursion, fold, list_all}
use Rattle.std.specs.Ordering.{is_lt}
use Rattle.std.specs.Prelude.{Bool, List, Some, [], length, nat_lt, not, suc, true, zero, ℕ, ◌&&◌, ◌++◌, ◌==◌, ◌||◌, ◌≡◌, ◌⊎◌, ◌∷◌}
use Rattle.store_check.specs.Fits.{TellsFit, stored_under}
use Rattle.store_check.specs.Spelled.{SpellSchemas}
use Rattle.store_check.specs.declared.fitting.Fitting.TheVariants.{Fits, Unfit}
use Rattle.store_opening.specs.OpenedStore.{committing, joined, keeps_decision, roots_of, upgrades_of}
use Rattle.thor_value.specs.FiniteMap.{keys}
use Rattle.thor_value.specs.Names.{ts_cmp}
use Rattle.thor_value.specs.declared.names.Oref.{Oref}
use Rattle.thor_value.specs.declared.names.Ts.{Ts}

-- a repository of a store, with its number
pub record Member : Type 0 where
  pub number : ℕ
  pub state : State

abbrev pub members_from : ℕ → List State → List Member
members_from r [] = []
members_from r (s ∷ states) = record { number = r; state = s } ∷ members_from (suc r) states

-- ---- texts

-- the texts of a repository spell these schemas: its classes, its roots, and its upgrades with those that commit
abbrev pub SpellFor : List State → State → Schemas → Type 0
SpellFor states s schemas = SpellSchemas s.classes s.roots (upgrades_of states s) (length states) schemas

-- those of the first of some repositories do
abbrev pub SpellsFrom : List State → List State → Schemas → Type 0
SpellsFrom states [] schemas = ⊥
SpellsFrom states (first ∷ others) schemas = SpellFor states first schemas

-- the schemas of a store: those that the texts of repository 0 spell
abbrev pub AreSchemasOf : List State → Schemas → Type 0
AreSchemasOf states schemas = SpellsFrom states states schemas

-- a repository has the text of classes and those of upgrades that another one has
pub record HasTextsOf (states : List State) (other s : State) : Type 0 where
  pub classes : other.classes ≡ s.classes
  pub upgrades : upgrades_of states other ≡ upgrades_of states s

-- its texts are those of repository 0, or spell schemas
abbrev pub IsRead : List State → State → Member → Type 0
IsRead states first m = HasTextsOf states first m.state ⊎ ((schemas : Schemas) × SpellFor states m.state schemas)

-- its texts and its roots are those of repository 0
pub record IsAlike (states : List State) (first : State) (m : Member) : Type 0 where
  pub texts : HasTextsOf states first m.state
  pub roots : first.roots ≡ m.state.roots

-- ---- what is prepared

-- its coordinator is in the store, and isn't this repository with the decision to commit it
abbrev pub has_coordinator : List State → Member → Request → Bool
has_coordinator states m q = nat_lt q.tx.repo (length states) && not ((q.tx.repo == m.number) && keeps_decision (Some m.state) q.tx)

abbrev pub HasCoordinators : List State → Member → Type 0
HasCoordinators states m = list_all (has_coordinator states m) m.state.prepared ≡ true

-- ---- decisions

-- the greatest timestamp of a transaction that committed in a repository, with what is prepared and commits
abbrev pub threshold_of : List State → State → Ts
threshold_of states s = fold (λ threshold q. threshold_after threshold q.kind q.tx) s.threshold (committing states s)

abbrev pub is_at_most : Ts → Ts → Bool
is_at_most threshold t = not (is_lt (ts_cmp threshold t))

-- no kept decision and no last transaction of a client is above it
pub record IsBelow (states : List State) (m : Member) : Type 0 where
  pub kept : list_all (is_at_most (threshold_of states m.state)) m.state.kept ≡ true
  pub alone : list_all (λ e. is_at_most (threshold_of states m.state) e.1) m.state.alone ≡ true

-- ---- names of objects

-- a name of this repository, on a page below the next one
abbrev pub is_own : Member → Oref → Bool
is_own m x = (x.repo == m.number) && nat_lt x.page m.state.next_page

-- one of another repository, or such a name
abbrev pub is_own_or_other : Member → Oref → Bool
is_own_or_other m x = not (x.repo == m.number) || nat_lt x.page m.state.next_page

-- its names on pages, those of its buffer, and those that what commits writes are its own
pub record HasOwnNames (states : List State) (names : List Oref) (m : Member) : Type 0 where
  pub pages : list_all (is_own_or_other m) names ≡ true
  pub buffer : list_all (λ w. is_own m w.0) m.state.mob ≡ true
  pub writes : list_all (λ q. list_all (λ w. is_own m w.0) q.writes) (committing states m.state) ≡ true

-- ---- all objects

-- the objects of all repositories as one map, in which all upgrades are installed
abbrev pub stored_of : List State → Objects → Schemas → Stored
stored_of states paged schemas = stored_under schemas (joined states paged) (roots_of states)

-- they don't fit, by a name of this repository; or they do, and the first schema breaks a rule with its roots
abbrev pub IsUnfitIn : List State → Stored → Schemas → ℕ → Type 0
IsUnfitIn states stored schemas r =
    ((x : Oref) × ((r ≡ x.repo) × TellsFit schemas stored (Unfit x)))
    ⊎ ((r ≡ 0) × (TellsFit schemas stored Fits × (schema_rules schemas.first (length states) ≡ [] → ⊥)))

abbrev pub IsUnfit : List State → Objects → Schemas → ℕ → Type 0
IsUnfit states paged schemas r = IsUnfitIn states (stored_of states paged schemas) schemas r

-- ---- all tests

-- this is the first of some repositories that doesn't pass a test
pub record IsFirstNot (Passes : Member → Type 0) (ms : List Member) (r : ℕ) : Type 0 where
  pub before : List Member
  pub member : Member
  pub behind : List Member
  pub parts : ms ≡ before ++ member ∷ behind
  pub each : AllByRecursion Passes before
  pub not : Passes member → ⊥
  pub number_is : r ≡ member.number

-- it is the first that doesn't; or each passes the test, and what comes then is so
abbrev pub IsFirstOr : (Member → Type 0) → List Member → ℕ → Type 0 → Type 0
IsFirstOr Passes ms r Then = IsFirstNot Passes ms r ⊎ (AllByRecursion Passes ms × Then)

-- the tests behind the texts of repository 0
abbrev pub FailsIn : List State → List Oref → State → List Member → List Member → ℕ → Type 0 → Type 0
FailsIn states names first others all r Then =
    IsFirstOr (IsRead states first) others r
    (IsFirstOr (IsAlike states first) others r
    (IsFirstOr (HasCoordinators states) all r
    (IsFirstOr (IsBelow states) all r
    (IsFirstOr (HasOwnNames states names) all r Then))))

-- the texts of repository 0 spell no schemas; or a test behind that isn't passed
abbrev pub FailsFrom : List State → List Oref → List State → ℕ → (Schemas → Type 0) → Type 0
FailsFrom states names [] r Then = ⊥
FailsFrom states names (first ∷ others) r Then =
    ((r ≡ 0) × ((schemas : Schemas) → SpellFor states first schemas → ⊥))
    ⊎ ((schemas : Schemas) × (SpellFor states first schemas × FailsIn states names first (members_from 1 others) (members_from 0 states) r (Then schemas)))

-- this repository doesn't fit, the first of all that are so; `paged` are the objects of all pages
abbrev pub IsMisfit : List State → Objects → ℕ → Type 0
IsMisfit states paged r = FailsFrom states (keys paged) states r (λ schemas. IsUnfit states paged schemas r)

-- ---- what fits

-- each repository passes each test by itself
pub record ArePassed (states : List State) (names : List Oref) (first : State) (others all : List Member) : Type 0 where
  pub read : AllByRecursion (IsRead states first) others
  pub alike : AllByRecursion (IsAlike states first) others
  pub coordinators : AllByRecursion (HasCoordinators states) all
  pub below : AllByRecursion (IsBelow states) all
  pub names_own : AllByRecursion (HasOwnNames states names) all

abbrev pub PassFrom : List State → List Oref → List State → Type 0
PassFrom states names [] = ⊥
PassFrom states names (first ∷ others) = ArePassed states names first (members_from 1 others) (members_from 0 states)

-- the repositories fit together, with these schemas
pub record FitTogether (states : List State) (paged : Objects) (schemas : Schemas) : Type 0 where
  pub spelled : AreSchemasOf states schemas
  pub passed : PassFrom states (keys paged) states
  pub fits : TellsFit schemas (stored_of states paged schemas) Fits
  pub keeps : schema_rules schemas.first (length states) ≡ []
