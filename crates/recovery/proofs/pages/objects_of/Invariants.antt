use Rattle.recovery.specs.Paged.{IsPaged}
use Rattle.std.proofs.Common.{take}
use Rattle.std.specs.List.{AllZip}
use Rattle.recovery.proofs.pages.objects_of.Given as goal

-- the objects of the slots so far
abbrev pub invariant-loop-rank : goal.invariant-loop-rank
invariant-loop-rank l = AllZip (IsPaged l.repo l.page.number) (take l.rank l.page.objects.pairs) l.objects
