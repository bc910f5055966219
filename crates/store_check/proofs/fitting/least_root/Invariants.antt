use Rattle.store_check.specs.Tests.{least_root}
use Rattle.store_check.proofs.fitting.least_root.Given as goal
use Rattle.std.proofs.Common.{◌≡◌, take}

-- the lesser of what was found before and the least root so far
abbrev pub invariant-loop-root : goal.invariant-loop-root
invariant-loop-root l = l.found ≡ least_root l.known.schemas.now l.known.objects.now (take l.root-index l.roots) l.fn.found
