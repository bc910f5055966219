use Rattle.std.proofs.Common.{subst, sym}
use Rattle.std.proofs.lemmas.Result.{on_ok_weaker}
use Rattle.thor_value.proofs.FiniteMap.{IsSorted-insert}
use Rattle.thor_value.proofs.NameOrders.{oref_total}
use Rattle.thor_value.specs.FiniteMap.{IsSorted}
use Rattle.store_opening.proofs.eager.put.Goals as goal

pub returns-clause-sorted : goal.returns-clause-sorted
returns-clause-sorted c = λ sorted. on_ok_weaker c.insert.result (λ put. subst IsSorted (sym put) (IsSorted-insert oref_total c.args.objects.now c.args.oref c.args.object sorted)) c.insert.ensures.ok
