-- What is told of the repositories of a run.
use Rattle.cluster_core.specs.Seated.{AreLeft, AreRight, IsFound, run_of}
use Rattle.cluster_core.specs.declared.plan.Start.{Start}
use Rattle.disk_trait.specs.Disks.{Disks}
use Rattle.repo_trace.specs.declared.trace.Trace.{Trace}
use Rattle.std.specs.Prelude.{List, [], length, ℕ, ◌≡◌, ◌⊎◌}
use Rattle.store_opening.specs.Seated.{AreSeated}
use Rattle.store_opening.specs.declared.closed.Closed.{Closed}

-- The traces of a run on these parts, one for each. Of each repository is known what was found on its disks: where the store was opened as
-- it is stored, what their log stands for, of each; else the repository 0 is fresh, and the store new. By the base that is read off it the
-- repository's history is sound, and each item of its trace is exact, where nothing had still to be settled of any of them.
pub record AreHistories {P : Type 0} (disks : P → Disks) (given : List P) (traces : List Trace) : Type 0 where
  pub places : List (Closed P)
  pub mob : ℕ
  pub start : Start
  pub count : length traces ≡ length given
  pub seated : AreSeated disks given places
  pub found : IsFound disks places start
  pub right : AreRight (run_of places mob start) 0 traces

-- the same, where a run was made
abbrev pub AreHistoriesIf : {P : Type 0} → (P → Disks) → List P → List Trace → Type 0
AreHistoriesIf disks given traces = (traces ≡ []) ⊎ AreHistories disks given traces

-- The same, and what the disks of these parts say, with which the run ends, is what was recorded at each repository.
pub record EndsAs {P : Type 0} (disks : P → Disks) (given ended : List P) (traces : List Trace) : Type 0 where
  pub histories : AreHistories disks given traces
  pub left : AreLeft disks (run_of histories.places histories.mob histories.start) 0 ended traces
