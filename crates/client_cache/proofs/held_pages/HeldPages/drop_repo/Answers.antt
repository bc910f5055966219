use Rattle.std.proofs.Common.{◌∙◌}
use Rattle.client_cache.proofs.Leaving.{one-fewer, still-elsewhere}
use Rattle.client_cache.proofs.held_pages.HeldPages.drop_repo.Goals as goal

pub loop-page-smaller : goal.loop-page-smaller
loop-page-smaller c = rw c.remove.ensures (one-fewer c.in-Some.page c.loop-page.self c.in-Some.ensures.1)

pub loop-page-preserved : goal.loop-page-preserved
loop-page-preserved c = rw c.remove.ensures (still-elsewhere c.args.repo c.in-Some.page c.loop-page.self c.in-Some.ensures.0 ∙ c.loop-page.invariant)
