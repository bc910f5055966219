use Rattle.std.proofs.Common.{◌≡◌, List, Some, take, ℕ}
use Rattle.page_format.specs.declared.format.StoreFormat.TheVariants.{One}
use Rattle.recovery.specs.Paged.{IsOnSide, Stays}
use Rattle.recovery.proofs.PagedObjects.{AreAll, OnNamed}
use Rattle.recovery.proofs.migrating.read_paged.Given as goal

-- the disk of pages was read alone, and didn't fail; these are the objects of the pages so far
abbrev pub invariant-loop-page : goal.invariant-loop-page
invariant-loop-page g l = Stays (g.P.Parts.disks l.fn.parts) (g.P.Parts.disks l.parts)
    × ((g.P.Parts.disks l.parts).faults 2 ≡ (g.P.Parts.disks l.fn.parts).faults 2)
    × ((disk : List ℕ) → (g.P.Parts.disks l.fn.parts).content 2 ≡ Some disk → AreAll (IsOnSide One l.repo disk) (take l.page-index l.installed) l.paged)
    × AreAll (OnNamed l.repo) (take l.page-index l.installed) l.paged
