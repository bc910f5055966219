use Rattle.std.proofs.Common.{IsErrOf, rules}
use Rattle.page_store.specs.declared.fault.StoreFault.TheVariants.{Damaged}
use Rattle.recovery.proofs.pages.read_objects.Goals as goal

pub returns-clause-found : goal.returns-clause-found
returns-clause-found g c = λ disk told. record { page = c.in_ok-page.page; spelled = c.in_ok-page.ensures.found disk told; each = c.in_ok-objects.ensures }

pub returns-clause-page : goal.returns-clause-page
returns-clause-page g c = record { page = c.in_ok-page.page; number_is = c.in_ok-page.ensures.number; has = c.in_ok-page.ensures.objects; each = c.in_ok-objects.ensures }

pub returns-in_err-page-clause-damaged : goal.returns-in_err-page-clause-damaged
returns-in_err-page-clause-damaged g c = λ place is disk told objects on.
    let wrong : IsErrOf c.read_side_in.result (Damaged place) = search rules in
    c.read_side_in.ensures.damaged place wrong disk told on.page on.spelled
