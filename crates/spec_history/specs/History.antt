-- The history of one repository as the list of its entries, and what it means: a left fold over the
-- entries. A history grows only at its end, so each growth is one step of the fold. That a
-- transaction's changes count from its commit on, and that a repository which was opened anew has
-- lost the transactions it coordinated and hadn't decided, is Thor's (Liskov and others, SIGMOD
-- 1996); the fold is this project's.
use Rattle.log_entries.specs.declared.entry.Entry.TheVariants.{Life, One, Prepared, Decided, Finished, Upgraded}
use Rattle.log_entries.specs.declared.entry.Entry.{Entry}
use Rattle.log_entries.specs.declared.request.Request.{Request}
use Rattle.spec_history.specs.Requests.{text_of, written, has_written}
use Rattle.std.specs.List.{filter, fold}
use Rattle.std.specs.Option.{option_map}
use Rattle.std.specs.Ordering.{nat_cmp}
use Rattle.std.specs.Prelude.{Bool, true, false, cond, ◌&&◌, List, [], ◌∷◌, ◌++◌, ℕ, ◌+◌, length, take, nat_eq, nat_lt, not, Option, Some, None, ◌<◌}
use Rattle.thor_value.specs.FiniteMap.{Map, Set, add, empty, get, insert, keep, overwrite}
use Rattle.thor_value.specs.Names.{oref_cmp, same_ts, ts_cmp, later_of}
use Rattle.thor_value.specs.declared.names.Oref.{Oref}
use Rattle.thor_value.specs.declared.names.Ts.{Ts}
use Rattle.thor_value.specs.declared.values.Obj.{Obj}

-- A transaction that an earlier run left prepared, under another coordinator: its request here, and
-- whether the coordinator kept its decision to commit it.
pub record LeftOver : Type 0 where
  pub request : Request
  pub commits : Bool

-- What a repository began with in this run: what stands once its opening has settled the
-- transactions that earlier runs left prepared.
pub record Base : Type 0 where
  -- its number, and how many repositories there are
  pub repo : ℕ
  pub repos : ℕ
  -- how often it had been opened or restarted before
  pub life : ℕ
  -- how many entries the earlier runs have written
  pub count : ℕ
  -- the limit of its buffer of modified objects, in bytes
  pub limit : ℕ
  -- its objects
  pub objects : Map oref_cmp Obj
  -- the greatest timestamp of a transaction that committed here, or the zero timestamp
  pub top : Ts
  -- the objects that the roots of the store name, of every repository
  pub roots : List Oref
  -- the texts of the installed upgrades, in order
  pub texts : List (List ℕ)
  -- the least page that was never granted
  pub next_page : ℕ
  -- for each client, its last transaction that committed here with no other participant
  pub alone : Map nat_cmp Ts
  -- the transactions that the opening settles
  pub left : Map ts_cmp LeftOver
  -- how many messages a session may leave unacknowledged, where sessions are retired at all
  pub silence : Option ℕ
  -- whether its disk of pages tells what it holds. Where it doesn't, a page may bring anything
  pub tells : Bool

-- What became of a transaction: it is undecided, or its writes count from a place on, or it counts
-- for nothing.
pub data Fate : Type 0 where
  Open : Fate
  Committed : ℕ → Fate
  Aborted : Fate

-- How a transaction stands at a repository: the place of its request there, the request, and what
-- became of it.
pub record Known : Type 0 where
  pub place : ℕ
  pub request : Request
  pub fate : Fate

abbrev pub is_open : Fate → Bool
is_open Open = true
is_open (Committed at) = false
is_open Aborted = false

-- the transaction isn't aborted
abbrev pub Lives : Fate → Type 0
Lives Open = Unit {0}
Lives (Committed at) = Unit {0}
Lives Aborted = ⊥

-- the transaction committed
abbrev pub IsCommitted : Fate → Type 0
IsCommitted Open = ⊥
IsCommitted (Committed at) = Unit {0}
IsCommitted Aborted = ⊥

-- the transaction committed at a place below n
abbrev pub CommittedBelow : ℕ → Fate → Type 0
CommittedBelow n Open = ⊥
CommittedBelow n (Committed at) = at < n
CommittedBelow n Aborted = ⊥

-- What a history comes to.
pub record State : Type 0 where
  -- the repository's present life, and the place at which it began
  pub life : ℕ
  pub last_life : ℕ
  -- how many entries there are
  pub length : ℕ
  -- the objects, with the writes of the commits
  pub objects : Map oref_cmp Obj
  -- the transactions whose requests are here. A Life changes none of them: see `standing`
  pub known : Map ts_cmp Known
  -- the greatest timestamp of a transaction that committed here, earlier runs included
  pub top : Ts
  -- the texts of the installed upgrades, in order
  pub texts : List (List ℕ)
  -- the transactions that were decided here to commit
  pub kept : Set ts_cmp
  -- for each client, its last transaction that committed here with no other participant
  pub alone : Map nat_cmp Ts
  -- of the transactions that earlier runs left prepared, those that have still to be settled
  pub left : Map ts_cmp LeftOver

abbrev pub is_life : Entry → Bool
is_life (Life n) = true
is_life (One q) = false
is_life (Prepared q) = false
is_life (Decided t c) = false
is_life (Finished t c) = false
is_life (Upgraded q) = false

-- how many upgrades are installed
abbrev pub epoch_of : State → ℕ
epoch_of S = length S.texts

-- the state before the first entry
abbrev pub start : Base → State
start b = record {
  life = b.life;
  last_life = 0;
  length = 0;
  objects = b.objects;
  known = empty;
  top = b.top;
  texts = b.texts;
  kept = empty;
  alone = b.alone;
  left = b.left;
}

-- an undecided transaction whose coordinator has lost it is aborted
abbrev pub lapse : Fate → Bool → Fate
lapse Open lost = cond lost Aborted Open
lapse (Committed at) lost = Committed at
lapse Aborted lost = Aborted

-- whether a Life has come since the place p at which this repository, as the coordinator of t,
-- prepared t
abbrev pub is_lost : Base → State → Ts → ℕ → Bool
is_lost b S t p = nat_eq t.repo b.repo && nat_lt p S.last_life

-- o, but aborted where t is lost
abbrev pub or_lost : Base → State → Ts → Known → Known
or_lost b S t o = record o { fate = lapse o.fate (is_lost b S t o.place) }

-- How the transaction t stands, or None where its request isn't here. One that this repository
-- coordinates and hadn't decided is aborted by a Life.
abbrev pub known_in : Base → State → Ts → Option Known
known_in b S t = option_map (or_lost b S t) (get S.known t)

-- t, whose request q stands at p, commits at the next place: its writes count from there on
abbrev pub commit : State → Ts → ℕ → Request → State
commit S t p q = record S {
  objects = overwrite S.objects q.writes;
  known = insert S.known t (record { place = p; request = q; fate = Committed S.length });
  top = later_of S.top q.tx;
  texts = S.texts ++ text_of q.kind;
}

abbrev pub settle_by : State → Ts → Bool → Known → Fate → State
settle_by S t c o Open = cond c (commit S t o.place o.request) (record S { known = insert S.known t (record o { fate = Aborted }) })
settle_by S t c o (Committed at) = S
settle_by S t c o Aborted = S

-- t, which stands so, is decided: an undecided one commits or is aborted, and another stays as it is
abbrev pub settle : State → Ts → Bool → Option Known → State
settle S t c None = S
settle S t c (Some o) = settle_by S t c o o.fate

-- whether a transaction that stands so is undecided
abbrev pub is_undecided : Option Known → Bool
is_undecided None = false
is_undecided (Some o) = is_open o.fate

-- the transactions that are undecided
abbrev pub undecided_in : Base → State → Map ts_cmp Known
undecided_in b S = keep S.known (λ t. is_undecided (known_in b S t))

-- what an entry changes, but for the number of entries
abbrev pub change : Base → State → Entry → State
change b S (Life n) = record S { life = n; last_life = S.length }
change b S (Prepared q) = record S { known = insert S.known q.tx (record { place = S.length; request = q; fate = Open }) }
change b S (One q) = record (commit S q.tx S.length q) { alone = insert S.alone q.who.client q.tx }
change b S (Upgraded q) = record (commit S q.tx S.length q) { alone = insert S.alone q.who.client q.tx }
change b S (Decided t c) = record (settle S t c (known_in b S t)) { kept = cond (c && is_undecided (known_in b S t)) (add S.kept t) S.kept }
change b S (Finished t c) = record (settle S t c (known_in b S t)) { left = keep S.left (λ u. not (same_ts u t)) }

-- the state behind one more entry
abbrev pub put : Base → State → Entry → State
put b S e = record (change b S e) { length = S.length + 1 }

-- the state behind all entries
abbrev pub state : Base → List Entry → State
state b H = fold (put b) (start b) H

-- how t stands behind all entries
abbrev pub known_by : Base → List Entry → Ts → Option Known
known_by b H t = known_in b (state b H) t

-- the objects at the place n: with the commits below it
abbrev pub objects_at : Base → List Entry → ℕ → Map oref_cmp Obj
objects_at b H n = (state b (take n H)).objects

abbrev pub commit_by : State → Bool → Option Known → List (ℕ × Request)
commit_by S c None = []
commit_by S c (Some o) = cond (c && is_open o.fate) ((S.length, o.request) ∷ []) []

-- the commit that an entry is, with its place, or nothing
abbrev pub commit_of : Base → State → Entry → List (ℕ × Request)
commit_of b S (Life n) = []
commit_of b S (Prepared q) = []
commit_of b S (One q) = (S.length, q) ∷ []
commit_of b S (Upgraded q) = (S.length, q) ∷ []
commit_of b S (Decided t c) = commit_by S c (known_in b S t)
commit_of b S (Finished t c) = commit_by S c (known_in b S t)

abbrev pub commits_from : Base → State → List Entry → List (ℕ × Request)
commits_from b S [] = []
commits_from b S (e ∷ es) = commit_of b S e ++ commits_from b (put b S e) es

-- the commits of a history, each with its place, in the order of their places
abbrev pub commits : Base → List Entry → List (ℕ × Request)
commits b H = commits_from b (start b) H

-- the commits that wrote x, in the order of their places
abbrev pub writers : Base → List Entry → Oref → List (ℕ × Request)
writers b H x = filter (λ c. has_written c.1 x) (commits b H)

-- what the last of these commits wrote at x, and d where there is none
abbrev pub last_write : Oref → Option Obj → List (ℕ × Request) → Option Obj
last_write x d ws = fold (λ v c. get (written c.1) x) d ws
