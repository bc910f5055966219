-- How far a client has come in its items, and what a step makes of that (this project's).
use Rattle.std.specs.Prelude.{◌≡◌, ◌<◌, ◌≤◌, ◌+◌, ◌-◌, ◌^◌, ◌⊎◌, ℕ, Bool, true, false, List, [], ◌∷◌, ◌++◌, length, Option, Some, None, min, slice_get, slice_set}
use Rattle.thor_value.specs.declared.names.Ts.{Ts}
use Rattle.thor_value.specs.declared.values.Who.{Who}
use Rattle.serial_model.specs.declared.outcomes.Cause.TheVariants as cause
use Rattle.serial_model.specs.declared.outcomes.Ended.{Ended}
use Rattle.serial_model.specs.declared.outcomes.ItemOutcome.{ItemOutcome}
use Rattle.serial_model.specs.declared.outcomes.ItemOutcome.TheVariants.{Done, Upgraded, Faulted, Refused, Unknown}

-- which client it is, how many items it has, and how those ended that have
pub record Course : Type 0 where
  pub client : ℕ
  pub count : ℕ
  pub ended : List Ended

-- who the item behind n others is
abbrev pub who_behind : ℕ → ℕ → Who
who_behind client n = record { client = client; index = n + 1 }

-- who the present item is; where none is left, the one behind the last, as far as an index tells it
abbrev pub who_next : Course → Who
who_next c = record { client = c.client; index = min (length c.ended + 1) (2 ^ 32 - 1) }

-- The outcomes are those of the first items, one each, in their order.
pub record IsInOrder (c : Course) : Type 0 where
  pub few : c.count < 2 ^ 32
  pub within : length c.ended ≤ c.count
  pub whose : (n : ℕ) (e : Ended) → slice_get c.ended n ≡ Some e → e.who ≡ who_behind c.client n

-- the next item has ended
pub record Ends (old new : Course) : Type 0 where
  pub left : length old.ended < old.count
  pub last : Ended
  pub who : last.who ≡ who_behind old.client (length old.ended)
  pub grown : new ≡ record old { ended = old.ended ++ last ∷ [] }

-- The transaction by which an item ends whose verdict is learnt late; nothing where it can't end so. One that was
-- aborted ends as refused, since its coordinator was down.
abbrev pub late_tx : Ts → ItemOutcome → Option Ts
late_tx t (Done ts answer) = Some ts
late_tx t (Upgraded ts number) = Some ts
late_tx t (Faulted ts fault) = Some ts
late_tx t (Refused (cause.Down repo)) = Some t
late_tx t (Refused c) = None
late_tx t (Unknown tx) = None

-- the item may end so
abbrev pub IsLateOutcome : Ts → ItemOutcome → Type 0
IsLateOutcome t o = late_tx t o ≡ Some t

-- where the item is refused since a repository was down, it is this one
abbrev pub IsDownAt : ℕ → ItemOutcome → Type 0
IsDownAt r (Done ts answer) = Unit {0}
IsDownAt r (Upgraded ts number) = Unit {0}
IsDownAt r (Faulted ts fault) = Unit {0}
IsDownAt r (Refused (cause.Down repo)) = repo ≡ r
IsDownAt r (Refused (cause.Reason reason)) = Unit {0}
IsDownAt r (Refused (cause.Missing oref)) = Unit {0}
IsDownAt r (Refused cause.Calls) = Unit {0}
IsDownAt r (Unknown tx) = Unit {0}

-- the item's transaction stands
abbrev pub is_committed : ItemOutcome → Bool
is_committed (Done ts answer) = true
is_committed (Upgraded ts number) = true
is_committed (Faulted ts fault) = true
is_committed (Refused c) = false
is_committed (Unknown tx) = false

-- an item that was Unknown has ended, in the try that was sent
pub record Settles (old new : Course) : Type 0 where
  pub place : ℕ
  pub was : Ended
  pub tx : Ts
  pub there : slice_get old.ended place ≡ Some was
  pub unknown : was.outcome ≡ Unknown tx
  pub outcome : ItemOutcome
  pub late : IsLateOutcome tx outcome
  pub set : new ≡ record old { ended = slice_set old.ended place (record was { outcome = outcome }) }

-- What a step does to a client's course: nothing, or one item has ended.
abbrev pub Goes : Course → Course → Type 0
Goes old new = (new ≡ old) ⊎ (Ends old new ⊎ Settles old new)

-- the same for a call that learns verdicts alone
abbrev pub Learns : Course → Course → Type 0
Learns old new = (new ≡ old) ⊎ Settles old new
