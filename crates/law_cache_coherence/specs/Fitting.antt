-- What a client keeps of a repository in a session there, against the trace that it has seen: the relation
-- that each call keeps, and that what others do keeps too.
use Rattle.log_entries.specs.declared.entry.Entry.{Entry}
use Rattle.log_entries.specs.declared.request.Request.{Request}
use Rattle.spec_history.specs.History.{Base, IsCommitted, Known, Open, known_by, objects_at, writers}
use Rattle.spec_history.specs.Requests.{written}
use Rattle.client_port.specs.Views.{Calm, Unsettled}
use Rattle.spec_trace.specs.Current.{InStep, IsCurrent, IsOwnWrite, NoneAborted, OthersSince}
use Rattle.spec_trace.specs.Notices.{is_unended}
use Rattle.spec_trace.specs.Session.{Grant, Invalid, Notice, Page, Session, Upgrade, is_news, session, session_lives, upto_of, waiting}
use Rattle.spec_trace.specs.Trace.{Item, entries}
use Rattle.std.specs.List.{All, filter, list_any}
use Rattle.std.specs.Option.{option_or}
use Rattle.std.specs.Prelude.{Bool, List, None, Option, Some, cond, false, length, nat_eq, not, true, ℕ, ◌&&◌, ◌≡◌, ◌≤◌}
use Rattle.thor_value.specs.FiniteMap.{get, has}
use Rattle.thor_value.specs.Names.{same_oref}
use Rattle.thor_value.specs.declared.names.Oref.{Oref}
use Rattle.thor_value.specs.declared.names.Ts.{Ts}
use Rattle.thor_value.specs.declared.values.Obj.{Obj}

-- the copies that a client holds, by the names of their objects
abbrev pub Copies : Type 0
Copies = Oref → Option Obj

-- What a client keeps of a repository in a session there.
pub record Kept : Type 0 where
  pub session : ℕ
  -- the places below this one are known to it
  pub upto : ℕ
  -- whether it has asked for a page, or for a page of names, that hasn't come
  pub awaits : Bool
  -- those of other repositories' objects count for nothing here
  pub copies : Copies

-- ---- outcomes

-- `committed` tells which transactions have committed at their coordinators. It agrees with the history H of
-- a repository as far as the session s there is concerned.
pub record Agrees (b : Base) (H : List Entry) (s : ℕ) (committed : Ts → Bool) : Type 0 where
  -- what has committed at its coordinator is aborted nowhere
  pub kept : NoneAborted b H committed
  -- the session's own commit here only where they have committed there
  pub led : (t : Ts) (o : Known) → known_by b H t ≡ Some o → o.request.session ≡ s → IsCommitted o.fate → committed t ≡ true

-- It agrees so with the trace T, where the second is asked only of a session that hasn't ended, while nothing is unsettled: a
-- decision that came while its call stopped isn't counted before the client is told.
pub record AgreesStanding (b : Base) (u : Unsettled) (T : List Item) (s : ℕ) (committed : Ts → Bool) : Type 0 where
  pub kept : NoneAborted b (entries T) committed
  pub led : u ≡ Calm → is_unended (session b T s) ≡ true → (t : Ts) (o : Known) → known_by b (entries T) t ≡ Some o → o.request.session ≡ s → IsCommitted o.fate → committed t ≡ true

-- ---- copies

-- each copy is current, and its page is the session's
abbrev pub AreCurrent : Base → List Entry → ℕ → Session → (Ts → Bool) → Copies → Type 0
AreCurrent b H s v committed copies = (x : Oref) (o : Obj) → x.repo ≡ b.repo → copies x ≡ Some o → IsCurrent b H s v committed x o × (has v.pages x.page ≡ true)

-- Where a transaction of the session's own is undecided here and has committed at its coordinator, a copy
-- of what it wrote is what it wrote.
abbrev pub OwnAreCopies : Base → List Entry → ℕ → (Ts → Bool) → Copies → Type 0
OwnAreCopies b H s committed copies = (x : Oref) (o d : Obj) (t : Ts) (w : Known) → x.repo ≡ b.repo → IsOwnWrite b H s committed x d t w → copies x ≡ Some o → o ≡ d

-- The page that a message brings stays right: other sessions alone have written its objects since its place,
-- and no such transaction of the session's own wrote one.
abbrev pub StaysRight : Base → List Entry → ℕ → (Ts → Bool) → Notice → Type 0
StaysRight b H s committed (Page page k) = (x : Oref) → x.page ≡ page → OthersSince s k (writers b H x) × ((d : Obj) (t : Ts) (w : Known) → ¬ IsOwnWrite b H s committed x d t w)
StaysRight b H s committed (Grant page k) = Unit {0}
StaysRight b H s committed (Invalid names k) = Unit {0}
StaysRight b H s committed (Upgrade number k) = Unit {0}

-- What holds of the copies of a client whose session v is live.
pub record CopiesFit (b : Base) (H : List Entry) (s : ℕ) (v : Session) (committed : Ts → Bool) (copies : Copies) : Type 0 where
  pub current : AreCurrent b H s v committed copies
  pub own : OwnAreCopies b H s committed copies
  pub pages : All (StaysRight b H s committed) (waiting v)

-- ---- a client and its session

-- the answers to calls among the messages that wait
abbrev pub replies : Session → List Notice
replies v = filter (λ m. not (is_news m)) (waiting v)

abbrev pub one_if : Bool → ℕ
one_if asked = cond asked 1 0

-- A client keeps up with its session v, which is live: it knows what it has taken, is in step with it, has no
-- more answers to come than it asked for, and, where the repository's disk tells what it holds, its copies
-- are current.
pub record KeepsUp (b : Base) (T : List Item) (committed : Ts → Bool) (v : Session) (kept : Kept) : Type 0 where
  pub known : kept.upto ≡ upto_of v
  pub step : InStep v
  pub asked : length (replies v) ≤ one_if kept.awaits
  pub copies : b.tells ≡ true → CopiesFit b (entries T) kept.session v committed kept.copies

-- What the client c keeps fits the trace T: its session is there and is its own, and while that is live and
-- nothing of the client's is unsettled, it keeps up with it.
pub record FitsAt (c : ℕ) (b : Base) (u : Unsettled) (T : List Item) (committed : Ts → Bool) (kept : Kept) : Type 0 where
  pub v : Session
  pub there : session b T kept.session ≡ Some v
  pub own : v.client ≡ c
  pub keeps : u ≡ Calm → session_lives v ≡ true → KeepsUp b T committed v kept

-- ---- what is asked of a client beside

-- nothing is held of the repository's objects
abbrev pub HoldsNone : Base → Copies → Type 0
HoldsNone b copies = (x : Oref) → x.repo ≡ b.repo → copies x ≡ None

-- Of the session's own transactions none that has committed at its coordinator is undecided here: what was
-- decided has been handed on.
abbrev pub NoneToFinish : Base → List Entry → ℕ → (Ts → Bool) → Type 0
NoneToFinish b H s committed = (t : Ts) (o : Known) → known_by b H t ≡ Some o → o.fate ≡ Open → o.request.session ≡ s → committed t ≡ false

-- ---- what becomes of copies

-- the copies with what q wrote
abbrev pub with_writes : Request → Copies → Copies
with_writes q copies x = option_or (get (written q) x) (copies x)

-- The copies behind a message: a page brings its objects as they stood at its place, and a page of names none;
-- of what others wrote no copy is left.
abbrev pub behind_message : Base → List Entry → Notice → Copies → Copies
behind_message b H (Page page k) copies x = cond (nat_eq x.page page) (get (objects_at b H k) x) (copies x)
behind_message b H (Grant page k) copies x = cond (nat_eq x.page page) None (copies x)
behind_message b H (Invalid names k) copies x = cond (list_any (same_oref x) names) None (copies x)
behind_message b H (Upgrade number k) copies x = copies x

-- both are the same copies of the repository's objects
abbrev pub SameCopies : Base → Copies → Copies → Type 0
SameCopies b new old = (x : Oref) → x.repo ≡ b.repo → new x ≡ old x

-- whether an answer is still to come behind a message
abbrev pub awaits_behind : Notice → Bool → Bool
awaits_behind m awaits = is_news m && awaits
