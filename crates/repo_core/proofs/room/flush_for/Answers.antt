use Rattle.repo_durable.proofs.Counting.{err_behind, err_through}
use Rattle.repo_durable.specs.Kept.{disks_of}
use Rattle.std.proofs.Common.{rules}
use Rattle.repo_core.proofs.room.flush_for.Goals as goal

pub returns-in_err-flush_page-clause-quiet : goal.returns-in_err-flush_page-clause-quiet
returns-in_err-flush_page-clause-quiet g c =
    err_behind c.from_residual.result (disks_of g.P.Parts.disks c.args.stable.now) (disks_of g.P.Parts.disks c.loop.stable) (disks_of g.P.Parts.disks c.flush_page.new.self) c.loop.invariant.counts
    (err_through c.flush_page.result c.from_residual.result _ (λ r wrong. search rules) c.flush_page.ensures.quiet)
