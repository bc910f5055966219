use Rattle.spec_trace.proofs.Exactness.{base-page, granted-page, pages-rise, sessions-rise}
use Rattle.spec_trace.proofs.item_laws.next_numbers_rise.Goals as goal

pub returns : goal.returns
returns c = record { sessions = sessions-rise; pages = pages-rise; base = base-page; granted = granted-page }
