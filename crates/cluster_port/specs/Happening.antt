-- What an event does to the repository at a place.
use Rattle.repo_site.specs.Shown.{Shown}
use Rattle.repo_site.specs.Happening.{Stops}
use Rattle.repo_site.specs.Sited.{Sited}
use Rattle.std.specs.List.{slice_get}
use Rattle.std.specs.Prelude.{List, Some, true, ℕ, ◌≡◌}

-- where there is a repository at the place r, it was changed so
abbrev pub HappenedAt : (Shown → Shown → Type 0) → ℕ → List Sited → List Sited → Type 0
HappenedAt Does r old new = (x : Sited) → slice_get old r ≡ Some x → (y : Sited) × (slice_get new r ≡ Some y) × Does x.shown y.shown

-- one that was up was stopped so
abbrev pub IsStopped : ℕ → Shown → Shown → Type 0
IsStopped calls x y = x.is_up ≡ true → Stops calls x y
