-- Why a try ends that a repository refused (this project's).
use Rattle.serial_model.specs.declared.outcomes.Cause.TheVariants as cause
use Rattle.serial_model.specs.declared.outcomes.Cause.{Cause}
use Rattle.std.specs.Prelude.{None, Option, Some, ℕ}
use Rattle.repo_refusals.specs.declared.refusal.Refusal.TheVariants as refused
use Rattle.repo_refusals.specs.declared.refusal.Refusal.{Refusal}

-- The cause of a try that a repository refused: its reason, with the same names and places. A repository that stopped in
-- the call, or whose disks are damaged, was down. Want of memory is no cause.
abbrev pub cause_behind : Refusal → ℕ → Option Cause
cause_behind (refused.Reason reason) repo = Some (cause.Reason reason)
cause_behind (refused.Down n) repo = Some (cause.Down repo)
cause_behind (refused.Stopped n) repo = Some (cause.Down repo)
cause_behind (refused.Damaged n place) repo = Some (cause.Down repo)
cause_behind refused.NoMemory repo = None
