-- How many upgrades are installed: counted in a history, and told by the messages to a session.
use Rattle.log_entries.specs.declared.entry.Entry.{Entry}
use Rattle.log_entries.specs.declared.request.Request.{Request}
use Rattle.spec_history.specs.History.{Base, IsCommitted, Lives, Known, commits, epoch_of, objects_at, known_by, state}
use Rattle.spec_history.specs.Requests.{is_upgrade}
use Rattle.spec_trace.specs.Session.{Grant, Invalid, Notice, Page, Session, Upgrade, place_of, session_lives}
use Rattle.repo_refusals.specs.Window.{window}
use Rattle.std.specs.List.{filter, fold, slice_get}
use Rattle.std.specs.Option.{IsSomeAnd}
use Rattle.std.specs.Prelude.{List, Some, length, nat_lt, take, true, ℕ, ◌&&◌, ◌+◌, ◌≡◌, ◌≤◌, ◌⊎◌}
use Rattle.thor_value.specs.FiniteMap.{get}
use Rattle.thor_value.specs.declared.names.Oref.{Oref}
use Rattle.thor_value.specs.declared.names.Ts.{Ts}
use Rattle.thor_value.specs.declared.values.Obj.{Obj}
use Rattle.validation_queue.specs.Clashes.{is_before}

-- how many of these commits are upgrades at places below n
abbrev pub upgrades_below : ℕ → List (ℕ × Request) → ℕ
upgrades_below n cs = length (filter (λ c. is_upgrade c.1 && nat_lt c.0 n) cs)

-- how many of them are upgrades before t by timestamp
abbrev pub upgrades_before : Ts → List (ℕ × Request) → ℕ
upgrades_before t cs = length (filter (λ c. is_upgrade c.1 && is_before c.1.tx t) cs)

-- Fences count: the epoch of a request is the base's and the upgrades that committed below it, which are
-- those before it by timestamp.
pub record FencesCount (b : Base) (H : List Entry) : Type 0 where
  pub now : epoch_of (state b H) ≡ length b.texts + length (filter (λ c. is_upgrade c.1) (commits b H))
  pub below : (t : Ts) (o : Known) → known_by b H t ≡ Some o → o.request.epoch ≡ length b.texts + upgrades_below o.place (commits b H)
  pub before : (t : Ts) (o : Known) → known_by b H t ≡ Some o → Lives o.fate → o.request.epoch ≡ length b.texts + upgrades_before t (commits b H)

-- the epoch behind one more message
abbrev pub epoch_after : ℕ → Notice → ℕ
epoch_after e (Page page k) = e
epoch_after e (Grant page k) = e
epoch_after e (Invalid names k) = e
epoch_after e (Upgrade number k) = number

-- the epoch that a client knows which knew e and has taken these messages
abbrev pub epoch_told : ℕ → List Notice → ℕ
epoch_told e ms = fold epoch_after e ms

-- the epoch when the session began, which its client is told first
abbrev pub first_epoch : Base → List Entry → Session → ℕ
first_epoch b H v = epoch_of (state b (take v.began H))

-- What the messages to the session v tell of epochs, where H is its repository's history.
pub record TellsEpochs (b : Base) (H : List Entry) (v : Session) : Type 0 where
  -- of a live session they tell the present one
  pub now : session_lives v ≡ true → epoch_told (first_epoch b H v) v.sent ≡ epoch_of (state b H)
  -- those before a message tell the epoch of its place
  pub at : (i : ℕ) (m : Notice) → slice_get v.sent i ≡ Some m → epoch_told (first_epoch b H v) (take i v.sent) ≡ epoch_of (state b (take (place_of m) H))

-- the versions on a page that is brought are at most the epoch that was told before it
abbrev pub BringsOldVersions : Base → List Entry → Session → Type 0
BringsOldVersions b H v =
    (i page k : ℕ) (x : Oref) (o : Obj) → slice_get v.sent i ≡ Some (Page page k) → get (objects_at b H k) x ≡ Some o
    → o.ver ≤ epoch_told (first_epoch b H v) (take i v.sent)

-- t is the base's greatest timestamp, or that of a transaction that committed
abbrev pub IsOfCommit : Base → List Entry → Ts → Type 0
IsOfCommit b H t = (t ≡ b.top) ⊎ IsSomeAnd (known_by b H t) (λ o. IsCommitted o.fate)

-- The threshold of the window, and the greatest timestamp that committed, are such ones.
pub record ThresholdsCommit (b : Base) (H : List Entry) : Type 0 where
  pub threshold : IsOfCommit b H (window b H).threshold
  pub top : IsOfCommit b H (state b H).top
