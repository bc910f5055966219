use Rattle.std.proofs.Common.{IsErrOf, rules}
use Rattle.recovery.specs.declared.fault.RecoverFault.TheVariants.{Damaged}
use Rattle.recovery.proofs.migrating.put_page.Goals as goal

pub returns-clause-put : goal.returns-clause-put
returns-clause-put g c = record {
  objects = c.in_ok-objects.objects;
  put = c.in_ok-append.ensures.ok;
  small = c.in_ok-objects.ensures.small;
  on_page = c.in_ok-objects.ensures.page;
  on_side = c.in_ok-objects.ensures.found;
}

pub returns-in_err-objects-clause-damaged : goal.returns-in_err-objects-clause-damaged
returns-in_err-objects-clause-damaged g c = λ d place is.
    let wrong : IsErrOf c.read_page.result (Damaged d place) = search rules in
    c.read_page.ensures.damaged d place wrong
