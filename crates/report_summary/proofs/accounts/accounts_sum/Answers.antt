use Rattle.std.proofs.Common.{◌≡◌, IfOk, subst}
use Rattle.report_summary.specs.Summary.{accounts_sum, sum_of}
use Rattle.report_summary.proofs.accounts.accounts_sum.Goals as goal

pub returns : goal.returns
unfolding accounts_sum
returns c = subst (λ classes. IfOk c.sum_of.result (λ sum. sum ≡ sum_of classes c.args.store.now 16)) c.classes_at.ensures c.sum_of.ensures
