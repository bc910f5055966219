-- What a committed transaction met at its place in each history, and what the commits before it by timestamp
-- leave. Each is one statement, that a law of this crate has as its clause.
use Rattle.law_atomic_commit.specs.Several.{HasCommitted, Several, part}
use Rattle.spec_history.specs.History.{CommittedBelow, Known, objects_at, state}
use Rattle.spec_history.specs.Participants.{takes_part}
use Rattle.spec_history.specs.Requests.{has_created, has_read, has_written, is_upgrade, text_of}
use Rattle.std.specs.List.{fold}
use Rattle.std.specs.Prelude.{List, None, Some, length, take, true, ℕ, ◌++◌, ◌<◌, ◌∷◌, ◌≡◌, ◌≢◌, ◌↔◌}
use Rattle.thor_value.specs.FiniteMap.{get}
use Rattle.thor_value.specs.Names.{Before}
use Rattle.thor_value.specs.declared.names.Oref.{Oref}
use Rattle.thor_value.specs.declared.names.Ts.{Ts}
use Rattle.law_global_order.specs.Whole.{Commit, commits, finished, finished_texts, stored}

-- the committed transaction t, which stands at r as o, read x there
pub record ReadAt (S : Several) (r : ℕ) (t : Ts) (o : Known) (x : Oref) : Type 0 where
  pub w : Known
  pub committed : HasCommitted S t w
  pub there : part S r t ≡ Some o
  pub read : has_read o.request x ≡ true

-- Of the others that wrote x at r, those that committed below its request are those that have committed,
-- wherever, and are before it by timestamp.
abbrev pub WritersAgree : Several → Type 0
WritersAgree S = (r : ℕ) (t s : Ts) (o v : Known) (x : Oref) → ReadAt S r t o x → part S r s ≡ Some v → s ≢ t → has_written v.request x ≡ true
    → CommittedBelow o.place v.fate ↔ ((w : Known) × HasCommitted S s w × Before s t)

-- The commit e stands at its turn: those of done are before it, by timestamp, and no others.
abbrev pub IsTurn : Several → List Commit → Commit → Type 0
IsTurn S done e = (rest : List Commit) × ((commits S).pairs ≡ done ++ e ∷ rest)

-- What a transaction met at its place is what the commits before it leave.
abbrev pub JoinedAtTurn : Several → Type 0
JoinedAtTurn S = (done : List Commit) (e : Commit) → IsTurn S done e → (r : ℕ) (o : Known) (x : Oref) → part S r e.0 ≡ Some o → has_read o.request x ≡ true
    → get (stored S done r) x ≡ get (objects_at (S.base r) (S.history r) o.place) x

-- A name that a transaction gave to a new object has nothing at its turn, where it had nothing at its place.
abbrev pub FreshAtTurn : Several → Type 0
FreshAtTurn S = (done : List Commit) (e : Commit) → IsTurn S done e → (r : ℕ) (o : Known) (x : Oref) → part S r e.0 ≡ Some o
    → has_created o.request x ≡ true → has_written o.request x ≡ true
    → get (objects_at (S.base r) (S.history r) o.place) x ≡ None → get (stored S done r) x ≡ None

-- Of the upgrades other than t, those that committed below the request of t at r are those that have
-- committed, wherever, and are before it by timestamp.
abbrev pub UpgradesAgree : Several → Type 0
UpgradesAgree S = (r : ℕ) (t u : Ts) (w o v : Known) → HasCommitted S t w → part S r t ≡ Some o → part S r u ≡ Some v → u ≢ t → is_upgrade v.request ≡ true
    → CommittedBelow o.place v.fate ↔ ((c : Known) × HasCommitted S u c × Before u t)

-- these texts, and those of the upgrades among these transactions
abbrev pub texts_after : List (List ℕ) → List Commit → List (List ℕ)
texts_after ts es = fold (λ us e. us ++ text_of e.1.kind) ts es

-- The upgrades that a transaction met at its place, and had seen, are those of the commits before it.
abbrev pub EpochAtTurn : Several → Type 0
EpochAtTurn S = (done : List Commit) (e : Commit) → IsTurn S done e → (r : ℕ) (o : Known) → part S r e.0 ≡ Some o
    → ((state (S.base r) (take o.place (S.history r))).texts ≡ texts_after (S.base r).texts done) × (o.request.epoch ≡ length (texts_after (S.base r).texts done))

-- What all commits leave at r is what its history comes to, with the writes of those that have committed and
-- are undecided there: those that the next opening settles.
abbrev pub JoinedAtEnd : Several → Type 0
JoinedAtEnd S = (r : ℕ) (x : Oref) → get (stored S (commits S).pairs r) x ≡ get (finished S (commits S).pairs r) x

-- The same of the upgrades.
abbrev pub TextsAtEnd : Several → Type 0
TextsAtEnd S = (r : ℕ) → r < S.repos → texts_after (S.base r).texts (commits S).pairs ≡ finished_texts S (commits S).pairs r

-- Each participant of t has prepared it.
pub record IsPrepared (S : Several) (t : Ts) (w : Known) : Type 0 where
  pub there : part S t.repo t ≡ Some w
  pub everywhere : (n : ℕ) → takes_part t.repo w.request n ≡ true → (o : Known) × (part S n t ≡ Some o)
