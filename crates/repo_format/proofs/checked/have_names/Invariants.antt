use Rattle.std.proofs.Common.{take}
use Rattle.std.specs.List.{AllByRecursion}
use Rattle.log_codec.specs.Checkpoint.{RootFits}
use Rattle.repo_format.proofs.checked.have_names.Given as goal

-- the roots so far have such names
abbrev pub invariant-loop-root : goal.invariant-loop-root
invariant-loop-root l = AllByRecursion RootFits (take l.root-index l.roots)
