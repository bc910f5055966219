use Rattle.thor_value.proofs.NameOrders.{oref_total, oref_exact}
use Rattle.thor_value.proofs.name_laws.names_are_ordered.Goals as goal

pub returns : goal.returns
returns c = record { total = oref_total; apart = oref_exact }
