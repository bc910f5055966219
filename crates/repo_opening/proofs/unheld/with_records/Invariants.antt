use Rattle.std.proofs.Common.{Some, take, ◌≡◌}
use Rattle.std.specs.List.{fold}
use Rattle.repo_opening.specs.Unsound.{sides_behind}
use Rattle.repo_opening.proofs.unheld.with_records.Given as goal

-- the sides in use behind the records so far
abbrev pub invariant-loop-spelled : goal.invariant-loop-spelled
invariant-loop-spelled l = l.sides ≡ fold sides_behind (Some l.fn.installed) (take l.spelled-index l.records)
