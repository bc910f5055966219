use Rattle.thor_value.proofs.NameOrders.{ts_total, ts_exact, none_before_zero, not_before_itself}
use Rattle.thor_value.proofs.name_laws.timestamps_are_ordered.Goals as goal

pub returns : goal.returns
returns c = record { total = ts_total; apart = ts_exact; least = none_before_zero; strict = not_before_itself }
