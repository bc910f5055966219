-- What falls at each step of a client that moves on: so it comes to an end (this project's).
use Rattle.client_items.specs.Courses.{Course}
use Rattle.client_items.specs.declared.attempts.Attempts.{Attempts}
use Rattle.std.specs.Prelude.{length, ℕ, ◌-◌, ◌<◌, ◌^◌, ◌≡◌, ◌⊎◌}

-- how many calls of a try are counted at most
abbrev pub most_calls : ℕ
most_calls = 2 ^ 32 - 1

-- What is left for a client to do: items, tries of the present item, calls of the present try that may still be counted,
-- and calls that aren't counted: what it owes, and how often it may still ask for its own verdict.
pub record Left : Type 0 where
  pub items : ℕ
  pub tries : ℕ
  pub calls : ℕ
  pub uncounted : ℕ

-- The first of them that changes falls.
abbrev pub Falls : Left → Left → Type 0
Falls old new =
    (new.items < old.items)
    ⊎ (((new.items ≡ old.items) × (new.tries < old.tries))
    ⊎ (((new.items ≡ old.items) × (new.tries ≡ old.tries) × (new.calls < old.calls))
    ⊎ ((new.items ≡ old.items) × (new.tries ≡ old.tries) × (new.calls ≡ old.calls) × (new.uncounted < old.uncounted))))

-- how far a client has come in its items, and in the tries of the present one
pub record Standing : Type 0 where
  pub course : Course
  pub attempts : Attempts

-- what is left by a client's standing, with so many calls that aren't counted
abbrev pub left_by : Standing → ℕ → Left
left_by s n = record { items = s.course.count - length s.course.ended; tries = s.attempts.each - s.attempts.tried; calls = most_calls - s.attempts.calls; uncounted = n }

-- What is counted has fallen: whatever the calls are that aren't counted, what is left falls.
pub record CountsDown (old new : Standing) : Type 0 where
  pub falls : (n m : ℕ) → Falls (left_by old n) (left_by new m)

-- nothing of what is counted has changed
pub record StandsStill (old new : Standing) : Type 0 where
  pub same : (n : ℕ) → left_by new n ≡ left_by old n

-- nothing of what is counted has changed, or it has fallen
abbrev pub NeverRises : Standing → Standing → Type 0
NeverRises old new = StandsStill old new ⊎ CountsDown old new

-- an item is left
abbrev pub IsLeft : Course → Type 0
IsLeft c = length c.ended < c.count
