use Rattle.repo_state.specs.declared.held.Held.{Held}
use Rattle.std.proofs.Common.{subst, sym, ◌∙◌}
use Rattle.repo_format.proofs.Roots.{ok_of_two, roots_pages}
use Rattle.repo_durable.proofs.Failing.{failed_after, fell_then}
use Rattle.repo_durable.proofs.Returning.{if_ok_on}
use Rattle.repo_format.proofs.Roots.{err_on}
use Rattle.repo_format.proofs.formatting.format.Goals as goal
use Rattle.repo_format.specs.Pages.{HasRoots}

pub returns-in-Ok-clause-roots : goal.returns-in-Ok-clause-roots
returns-in-Ok-clause-roots g c =
    ok_of_two _ _ _ c.open.result
    (λ stable content held disk told. subst (λ (h : Held). HasRoots c.args.repo c.args.setup.now h.objects.pages.sides disk) (sym held) (c.in-Ok.ensures.roots disk (sym (content 2) ∙ told)))
    c.open.ensures.content c.open.ensures.held

pub returns-in-Ok-clause-readable : goal.returns-in-Ok-clause-readable
returns-in-Ok-clause-readable g c = λ tells.
    c.open.ensures.readable (c.in-Ok.ensures.told tells) (λ disk told. roots_pages c.args.repo c.args.setup.now c.in-Ok.recovered.state.objects.pages.sides disk (c.in-Ok.ensures.roots disk told))

pub returns-in-Ok-clause-fell : goal.returns-in-Ok-clause-fell
returns-in-Ok-clause-fell g c = if_ok_on c.open.result _ _ (λ stable fell. fell_then _ _ _ c.in-Ok.ensures.fell fell) c.open.ensures.fell

pub returns-in-Ok-clause-failed : goal.returns-in-Ok-clause-failed
returns-in-Ok-clause-failed g c = err_on c.open.result _ _ (λ fault failed. λ is. failed_after _ _ _ c.in-Ok.ensures.fell (failed is)) c.open.ensures.failed
