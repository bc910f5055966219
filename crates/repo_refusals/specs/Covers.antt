-- What the window has of a history.
use Rattle.log_entries.specs.declared.entry.Entry.{Entry}
use Rattle.spec_history.specs.History.{Aborted, Base, Committed, Fate, IsCommitted, Open, Known, known_by, state, undecided_in}
use Rattle.spec_history.specs.Requests.{is_upgrade}
use Rattle.repo_refusals.specs.Window.{Member, window}
use Rattle.std.specs.Option.{IsSome, IsSomeAnd}
use Rattle.std.specs.Prelude.{Bool, IsTrue, List, Some, false, true, ◌≡◌, ◌≤◌, ◌⊎◌}
use Rattle.thor_value.specs.FiniteMap.{get, len}
use Rattle.thor_value.specs.Names.{AtMost}
use Rattle.thor_value.specs.declared.names.Ts.{Ts}
use Rattle.validation_queue.specs.Contents.{room_for}

-- a decided member committed, and the others are undecided
abbrev pub MemberFits : Bool → Fate → Type 0
MemberFits true Open = ⊥
MemberFits true (Committed at) = Unit {0}
MemberFits true Aborted = ⊥
MemberFits false Open = Unit {0}
MemberFits false (Committed at) = ⊥
MemberFits false Aborted = ⊥

-- The window of H has what a request has to be validated against.
pub record Covers (b : Base) (H : List Entry) : Type 0 where
  -- its members stand in H with their requests, and none is aborted
  pub members : (t : Ts) (m : Member) → get (window b H).members t ≡ Some m → IsSomeAnd (known_by b H t) (λ o. (o.request ≡ m.request) × MemberFits m.decided o.fate)
  -- each undecided transaction is a member
  pub undecided : (t : Ts) (o : Known) → known_by b H t ≡ Some o → o.fate ≡ Open → IsSome (get (window b H).members t)
  -- each that committed is a member or isn't above the threshold
  pub committed : (t : Ts) (o : Known) → known_by b H t ≡ Some o → IsCommitted o.fate → IsSome (get (window b H).members t) ⊎ AtMost t (window b H).threshold
  -- no upgrade that committed is above the threshold
  pub upgrades : (t : Ts) (o : Known) → known_by b H t ≡ Some o → IsCommitted o.fate → IsTrue (is_upgrade o.request) → AtMost t (window b H).threshold
  -- the threshold isn't above the greatest timestamp that committed, and no commit is
  pub threshold : AtMost (window b H).threshold (state b H).top
  pub top : (t : Ts) (o : Known) → known_by b H t ≡ Some o → IsCommitted o.fate → AtMost t (state b H).top

-- The undecided transactions of a history, and the members of its window, are at most as many as a
-- validation queue holds.
pub record HasRoom (b : Base) (H : List Entry) : Type 0 where
  pub undecided : len (undecided_in b (state b H)) ≤ room_for
  pub members : len (window b H).members ≤ room_for
