-- How often the disks of the repositories of a run have failed.
use Rattle.repo_site.specs.Failing.{HasFailed}
use Rattle.repo_site.specs.Shown.{faults_of}
use Rattle.repo_site.specs.Sited.{Sited}
use Rattle.std.specs.List.{AllZip, slice_get}
use Rattle.std.specs.Prelude.{List, Some, ℕ, ◌≡◌}

-- each has counted as many faults as before
abbrev pub HaveSameFaults : List Sited → List Sited → Type 0
HaveSameFaults old new = AllZip (λ x y. y.shown.faults ≡ x.shown.faults) old new

-- a disk of the repository at the place r failed
pub record FailedAt (r : ℕ) (old new : List Sited) : Type 0 where
  pub before : Sited
  pub behind : Sited
  pub was : slice_get old r ≡ Some before
  pub is : slice_get new r ≡ Some behind
  pub failed : HasFailed (faults_of before.shown) (faults_of behind.shown)
