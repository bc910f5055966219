use Rattle.std.proofs.Common.{ap}
use Rattle.two_phase.proofs.table.Table.open.Goals as goal

pub returns-clause-ok : goal.returns-clause-ok
returns-clause-ok c = rw (← c.self.view_is) (ap (λ es. record { transactions = record { pairs = es }; alone = record { pairs = c.self.inside.alone.entries } }) c.in_ok-insert.ensures.entries)
