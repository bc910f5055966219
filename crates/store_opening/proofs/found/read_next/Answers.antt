use Rattle.repo_opening.specs.Paged.{PutsStored}
use Rattle.std.proofs.Common.{inr}
use Rattle.std.specs.Prelude.{IsOk}
use Rattle.store_opening.proofs.Holding.{both_ok, ok_is}
use Rattle.store_opening.proofs.found.read_next.Goals as goal

pub returns-in-Ok-clause-put : goal.returns-in-Ok-clause-put
returns-in-Ok-clause-put g c = λ images reads.
    both_ok c.read_behind.result.1 (IsOk c.args.before) (PutsStored images c.args.objects.now c.read_behind.new.objects) (ok_is c.args.before c.in-Ok.field-0 c.in-Ok.is) (c.read_behind.ensures.put images reads)

pub returns-in-Ok-clause-damaged : goal.returns-in-Ok-clause-damaged
returns-in-Ok-clause-damaged g c = λ image r d place reads is. inr (c.read_behind.ensures.damaged image r d place reads is)

pub returns-in-Ok-clause-failed : goal.returns-in-Ok-clause-failed
returns-in-Ok-clause-failed g c = λ r is. inr (c.read_behind.ensures.failed r is)
