-- What events do to a repository that are no client's.
use Rattle.mob_flusher.specs.declared.store.Flushed.{Flushed}
use Rattle.repo_core.specs.Behind.{IsRecovered, IsRestarted, Stands}
use Rattle.repo_core.specs.Refusing.{CanRefuse, HasNoReason}
use Rattle.repo_core.specs.Shown.{Shown, ShowsPages, faults_of}
use Rattle.repo_durable.specs.Failing.{HasFailed}
use Rattle.repo_durable.specs.Flushes.{IsOldest, left_by}
use Rattle.repo_refusals.specs.declared.refusal.Refusal.{Refusal}
use Rattle.std.specs.Prelude.{IfErr, IfOk, Result, cond, false, nat_eq, true, ℕ, ◌≡◌, ◌⊎◌}

-- A flush, with its answer: the page of the oldest buffered object was installed, and its objects have left the buffer; or it was
-- refused, with cause.
pub record Flushes (x y : Shown) : Type 0 where
  pub answer : Result Flushed Refusal
  pub stands : Stands x.is_up answer y.is_up
  pub buffer : IfOk answer (λ f. y.held.objects.mob.objects ≡ left_by x.held.objects.mob.objects f)
  pub oldest : IfOk answer (IsOldest x.held.objects.mob.objects)
  pub why : IfErr answer (CanRefuse x HasNoReason (Unit {0}))

-- A stop before so many disk calls: before none it goes down at once.
pub record Stops (calls : ℕ) (x y : Shown) : Type 0 where
  pub up : y.is_up ≡ cond (nat_eq calls 0) false x.is_up
  pub trace : y.trace ≡ x.trace

-- A restart: the repository is up, and its trace goes on by a Life; or it is down, and its trace by what was recovered at most.
abbrev pub GoesOn : Shown → Shown → Type 0
GoesOn x y = ((y.is_up ≡ true) × IsRestarted x.trace y.trace) ⊎ ((y.is_up ≡ false) × IsRecovered x.trace y.trace)

-- A restart that had memory: where each disk tells its bytes and each side in use is a page of objects, the repository is up, or a disk
-- failed in it.
abbrev pub ComesBack : Shown → Shown → Type 0
ComesBack x y = ShowsPages x → (y.is_up ≡ true) ⊎ HasFailed (faults_of x) (faults_of y)
