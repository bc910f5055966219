use Rattle.disk_trait.specs.Disks.{IsSettled, OnDisk, WhereTold}
use Rattle.page_store.specs.Store.{Agrees}
use Rattle.repo_format.proofs.pages.put_roots.Given as goal
use Rattle.repo_format.specs.Pages.{HasRootsTo}

-- the disk of pages alone was called; it is settled, the store agrees with it, and the pages so far have their roots
abbrev pub invariant-loop-page : goal.invariant-loop-page
invariant-loop-page g l =
    OnDisk (g.P.Parts.disks l.fn.parts) (g.P.Parts.disks l.parts) 2 × IsSettled (g.P.Parts.disks l.parts) 2 × WhereTold (g.P.Parts.disks l.parts) 2 (Agrees l.store) × WhereTold (g.P.Parts.disks l.parts) 2 (HasRootsTo l.page l.repo l.setup l.store.sides)
