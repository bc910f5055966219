use Rattle.disk_trait.proofs.Several.{goes_one, goes_then, tells_on}
use Rattle.recovery.proofs.FoundLaws.{if_ok}
use Rattle.repo_durable.proofs.Returning.{on_ok_any}
use Rattle.std.proofs.Common.{List, subst, sym, ◌∙◌, ℕ}
use Rattle.repo_format.proofs.formatting.put_store.Goals as goal
use Rattle.repo_format.specs.Pages.{HasRoots}

pub returns-clause-roots : goal.returns-clause-roots
returns-clause-roots g c =
    if_ok _ _ c.begin_log.result
    (λ r sides disk told. subst (λ (s : List (ℕ × ℕ)). HasRoots c.args.repo c.args.setup.now s disk) (sym sides) (c.in_ok-installed.ensures.roots disk (sym c.begin_log.ensures.stays ∙ told)))
    c.begin_log.ensures.sides

pub returns-clause-told : goal.returns-clause-told
returns-clause-told g c =
    let old = g.P.Parts.disks c.args.parts.now in
    let one = g.P.Parts.disks c.close_header.new.parts in
    let two = g.P.Parts.disks c.close_header-2.new.parts in
    let put = g.P.Parts.disks c.put_roots.new.parts in
    let new = g.P.Parts.disks c.begin_log.new.parts in
    let closed = goes_then old one two (goes_one old one 0 c.close_header.ensures.alone) (goes_one one two 1 c.close_header-2.ensures.alone) in
    on_ok_any c.begin_log.result _ (tells_on old new (goes_then old put new (goes_then old two put closed (goes_one two put 2 c.put_roots.ensures.alone)) c.begin_log.ensures.goes))
