-- When a copy that a client keeps is current, as far as its repository's history tells. (That a copy is
-- right or is about to be called invalid is the invariant of the invalid sets of Adya and others,
-- SIGMOD 1995. The form that keeps the place at which the copy was right is this project's: it is the
-- one that each growth of the history and each message keep.)
use Rattle.log_entries.specs.declared.entry.Entry.{Entry}
use Rattle.log_entries.specs.declared.request.Request.{Request}
use Rattle.spec_history.specs.History.{Base, Lives, Open, Known, commit_of, objects_at, known_by, state, writers}
use Rattle.spec_history.specs.Requests.{has_written, is_upgrade, written}
use Rattle.spec_trace.specs.Session.{Grant, Invalid, Notice, Page, Session, Upgrade, invalid, session, session_lives, upto_of}
use Rattle.spec_trace.specs.Trace.{E, Item, M}
use Rattle.spec_trace.specs.declared.mark.Mark.TheVariants as the
use Rattle.std.specs.List.{All, list_any, slice_get}
use Rattle.std.specs.Option.{IsSomeAnd}
use Rattle.std.specs.Prelude.{Bool, List, Some, [], false, length, nat_eq, true, ℕ, ◌++◌, ◌≡◌, ◌≤◌, ◌⊎◌, ◌∷◌}
use Rattle.thor_value.specs.FiniteMap.{get}
use Rattle.thor_value.specs.Names.{same_oref}
use Rattle.thor_value.specs.declared.names.Oref.{Oref}
use Rattle.thor_value.specs.declared.names.Ts.{Ts}
use Rattle.thor_value.specs.declared.values.Obj.{Obj}

-- The client's calls and its session agree: it has taken messages that it was sent, and acknowledges
-- no more than it knows.
pub record InStep (v : Session) : Type 0 where
  pub taken : v.taken ≤ length v.sent
  pub acked : v.acked ≤ upto_of v

-- each of these commits from the place m on is another session's than s
abbrev pub OthersSince : ℕ → ℕ → List (ℕ × Request) → Type 0
OthersSince s m cs = All (λ c. m ≤ c.0 → nat_eq c.1.session s ≡ false) cs

-- each of these commits that wrote x is another session's than s
abbrev pub OthersWrite : ℕ → Oref → List (ℕ × Request) → Type 0
OthersWrite s x cs = All (λ c. has_written c.1 x ≡ true → nat_eq c.1.session s ≡ false) cs

-- each page of x that waits was read at the place n or after it
abbrev pub IsBefore : Session → Oref → ℕ → Type 0
IsBefore v x n = (i k : ℕ) → v.taken ≤ i → slice_get v.sent i ≡ Some (Page x.page k) → n ≤ k

-- no page of x waits
abbrev pub NoPageWaits : Session → Oref → Type 0
NoPageWaits v x = (i k : ℕ) → v.taken ≤ i → slice_get v.sent i ≡ Some (Page x.page k) → ⊥

-- The copy o of x was right at the place m, which the client doesn't know to be passed, and from there
-- on other sessions alone wrote x. The page of x is one that the session has, and no page of x that waits is
-- older than the copy.
pub record RightAt (b : Base) (H : List Entry) (s : ℕ) (v : Session) (x : Oref) (o : Obj) (m : ℕ) : Type 0 where
  pub unknown : upto_of v ≤ m
  pub there : m ≤ length H
  pub cached : IsSomeAnd (get v.pages x.page) (λ c. c ≤ m)
  pub value : get (objects_at b H m) x ≡ Some o
  pub others : OthersSince s m (writers b H x)
  pub before : IsBefore v x m

-- The copy o of x is a write of the transaction t of the session s, which is undecided here and has
-- committed at its coordinator.
pub record IsOwnWrite (b : Base) (H : List Entry) (s : ℕ) (committed : Ts → Bool) (x : Oref) (o : Obj) (t : Ts) (w : Known) : Type 0 where
  pub there : known_by b H t ≡ Some w
  pub open' : w.fate ≡ Open
  pub own : w.request.session ≡ s
  pub wrote : get (written w.request) x ≡ Some o
  pub settled : committed t ≡ true

-- a copy that is current: the form that is kept
abbrev pub IsCurrent : Base → List Entry → ℕ → Session → (Ts → Bool) → Oref → Obj → Type 0
IsCurrent b H s v committed x o = ((m : ℕ) × RightAt b H s v x o m) ⊎ ((t : Ts) × (w : Known) × IsOwnWrite b H s committed x o t w)

-- The three cases of a current copy: it is what stands there now, or its object is in the invalid set
-- at a place that the client doesn't know, or it is a write of the session's own.
abbrev pub IsRightOrStale : Base → List Entry → ℕ → Session → (Ts → Bool) → Oref → Obj → Type 0
IsRightOrStale b H s v committed x o =
    (get (state b H).objects x ≡ Some o)
    ⊎ (IsSomeAnd (invalid b H s v x) (λ k. upto_of v ≤ k)
    ⊎ ((t : Ts) × (w : Known) × IsOwnWrite b H s committed x o t w))

-- whether the session s takes a message at the item, or begins at it
abbrev pub is_taking : ℕ → Item → Bool
is_taking s (M (the.Took n place)) = nat_eq n s
is_taking s (M (the.Connected n client)) = nat_eq n s
is_taking s (M m) = false
is_taking s (E e) = false

-- the commits that an item is, where H is the history before it
abbrev pub commits_in : Base → List Entry → Item → List (ℕ × Request)
commits_in b H (E e) = commit_of b (state b H) e
commits_in b H (M m) = []

-- x is among the objects of an invalidation of the place k that was sent
pub record IsTold (sent : List Notice) (x : Oref) (k : ℕ) : Type 0 where
  pub at : ℕ
  pub names : List Oref
  pub message : slice_get sent at ≡ Some (Invalid names k)
  pub named : list_any (same_oref x) names ≡ true

-- The session s was told of the commit c of x: where the page of x was there, and the commit is another
-- session's and no upgrade's.
abbrev pub WasToldOf : ℕ → Session → Oref → ℕ × Request → Type 0
WasToldOf s v x c = (p : ℕ) → get v.pages x.page ≡ Some p → p ≤ c.0 → nat_eq c.1.session s ≡ false → is_upgrade c.1 ≡ false → IsTold v.sent x c.0

-- the message names x as invalid
abbrev pub names_invalid : Oref → Notice → Bool
names_invalid x (Page page k) = false
names_invalid x (Grant page k) = false
names_invalid x (Invalid names k) = list_any (same_oref x) names
names_invalid x (Upgrade number k) = false

-- The session v takes the message m, and is w then.
pub record Takes (b : Base) (T : List Item) (s : ℕ) (v w : Session) (place : ℕ) (m : Notice) : Type 0 where
  pub before : session b T s ≡ Some v
  pub live : session_lives v ≡ true
  pub message : slice_get v.sent v.taken ≡ Some m
  pub after : session b (T ++ M (the.Took s place) ∷ []) s ≡ Some w

-- ---- what growth owes to a current copy

-- The session v, which is live, is w behind the item i, at which its client takes no message.
pub record PassesItem (b : Base) (T : List Item) (i : Item) (s : ℕ) (v w : Session) : Type 0 where
  pub before : session b T s ≡ Some v
  pub live : session_lives v ≡ true
  pub quiet : is_taking s i ≡ false
  pub after : session b (T ++ i ∷ []) s ≡ Some w

-- No transaction that has committed at its coordinator is aborted here. (That is what two-phase commit
-- promises.)
abbrev pub NoneAborted : Base → List Entry → (Ts → Bool) → Type 0
NoneAborted b H committed = (t : Ts) (w : Known) → known_by b H t ≡ Some w → committed t ≡ true → Lives w.fate

-- each of these commits that wrote x is another session's than s, or it wrote the copy o there while no page
-- of x waits for the session, which stands as v
abbrev pub OthersOrSame : ℕ → Session → Oref → Obj → List (ℕ × Request) → Type 0
OthersOrSame s v x o cs = All (λ c. has_written c.1 x ≡ true → (nat_eq c.1.session s ≡ false) ⊎ ((get (written c.1) x ≡ Some o) × NoPageWaits v x)) cs
