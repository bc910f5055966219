-- Which events break the rule on events: one that is none of the seven, or names a client that the script
-- lacks or a repository that isn't there. This project's.
use Rattle.std.specs.Prelude.{◌≡◌, ◌≤◌, ◌⊎◌, ℕ, Bool, true, false, ◌&&◌, nat_le, nat_lt, List, [], ◌∷◌, Option, Some, None, fold, min, if◌then◌else◌}
use Rattle.std.specs.List.{AllByRecursion}
use Rattle.schedule.specs.declared.events.Event.{Event}
use Rattle.schedule.specs.declared.events.EventKind.{EventKind}
use Rattle.schedule.specs.declared.events.EventKind.TheVariants.{Step, Deliver, Flush, Checkpoint, Stop, Restart, Settle, Unknown}

-- clients are numbered from 1, and there are so many
abbrev pub is_client : ℕ → ℕ → Bool
is_client clients c = nat_le 1 c && nat_le c clients

-- repositories are numbered from 0, and there are so many
abbrev pub is_repo : ℕ → ℕ → Bool
is_repo repos r = nat_lt r repos

abbrev pub keeps : ℕ → ℕ → EventKind → Bool
keeps clients repos (Step c) = is_client clients c
keeps clients repos (Deliver c r) = is_client clients c && is_repo repos r
keeps clients repos (Flush r) = is_repo repos r
keeps clients repos (Checkpoint r) = is_repo repos r
keeps clients repos (Stop r calls) = is_repo repos r
keeps clients repos (Restart r pick) = is_repo repos r
keeps clients repos (Settle r) = is_repo repos r
keeps clients repos Unknown = false

-- each event keeps the rule
abbrev pub AllKeep : ℕ → ℕ → List Event → Type 0
AllKeep clients repos events = AllByRecursion (λ event. keeps clients repos event.kind ≡ true) events

-- an event on the line breaks the rule
abbrev pub BreaksAt : ℕ → ℕ → List Event → ℕ → Type 0
BreaksAt clients repos [] line = ⊥
BreaksAt clients repos (event ∷ events) line =
    ((keeps clients repos event.kind ≡ false) × (event.line ≡ line)) ⊎ BreaksAt clients repos events line

-- the line is the least of an event that breaks the rule
pub record IsLeastBreach (clients repos : ℕ) (events : List Event) (line : ℕ) : Type 0 where
  pub breach : BreaksAt clients repos events line
  pub least : AllByRecursion (λ event. keeps clients repos event.kind ≡ false → line ≤ event.line) events

-- the lesser of the lines
abbrev pub with_line : Option ℕ → ℕ → Option ℕ
with_line None line = Some line
with_line (Some least) line = Some (min least line)

abbrev pub with_event : ℕ → ℕ → Option ℕ → Event → Option ℕ
with_event clients repos least event = if keeps clients repos event.kind then least else with_line least event.line

-- the least line of an event that breaks the rule, if any
unfoldable pub least_breach : ℕ → ℕ → List Event → Option ℕ
least_breach clients repos events = fold (with_event clients repos) None events
