use Rattle.page_store.specs.Objects.{HasObjects, empty_page}
use Rattle.std.proofs.Common.{take, ◌≡◌}
use Rattle.std.specs.List.{fold}
use Rattle.repo_format.proofs.pages.page_of_roots.Given as goal
use Rattle.repo_format.specs.Pages.{with_own_root}

-- a page of objects: the roots so far that lie on it
abbrev pub invariant-loop-root : goal.invariant-loop-root
invariant-loop-root l = HasObjects l.made × (l.made.number ≡ l.page) × (l.made ≡ fold (with_own_root l.setup.schema.classes l.repo l.page) (empty_page l.page) (take l.root-index l.setup.roots))
