use Rattle.repo_site.proofs.Idle.{finish_idle}
use Rattle.repo_site.proofs.calls.finish.Goals as goal
use Rattle.std.proofs.Common.{false, subst, sym, ◌∙◌, ◌≡◌}
use Rattle.std.specs.Prelude.{is_some}
use Rattle.thor_value.specs.declared.names.Ts.{Ts}
use Rattle.two_phase.specs.Contents.{open_at}

pub returns-then-not-is_open-clause-works : goal.returns-then-not-is_open-clause-works
returns-then-not-is_open-clause-works g c = finish_idle c.args.repo.now c.args.verdict.now.tx c.args.verdict.now.commit c.requires.up (subst (λ (t : Ts). is_some (open_at c.args.repo.now.held.table t) ≡ false) c.tx.ensures (sym c.is_open.ensures.open ∙ c.if-not-is_open.true))
