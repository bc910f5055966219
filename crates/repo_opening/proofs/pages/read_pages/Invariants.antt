use Rattle.recovery.specs.Paged.{HasSide, Stays}
use Rattle.std.proofs.Common.{List, Some, take, ◌≡◌, ℕ}
use Rattle.std.specs.List.{AllByRecursion}
use Rattle.repo_opening.specs.Paged.{PutsPaged}
use Rattle.repo_opening.specs.Recovered.{HasBytes}
use Rattle.repo_opening.proofs.pages.read_pages.Given as goal

-- the disk of pages was read alone, it has as many bytes as was told and room for the sides so far, and the objects of these
-- pages were put
abbrev pub invariant-loop-page : goal.invariant-loop-page
invariant-loop-page g l = Stays (g.P.Parts.disks l.fn.parts) (g.P.Parts.disks l.parts) × HasBytes (g.P.Parts.disks l.parts) l.size
    × ((disk : List ℕ) → (g.P.Parts.disks l.fn.parts).content 2 ≡ Some disk → PutsPaged l.format l.repo disk (take l.page-index l.installed) l.fn.objects l.objects)
    × ((disk : List ℕ) → (g.P.Parts.disks l.parts).content 2 ≡ Some disk → AllByRecursion (HasSide l.format disk) (take l.page-index l.installed))
