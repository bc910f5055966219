use Rattle.law_serializability.proofs.Serial.{serial_first}
use Rattle.std.proofs.Common.{ap, ◌∙◌}
use Rattle.thor_value.specs.FiniteMap.{get}
use Rattle.law_global_order.proofs.Chain.{joined-after}
use Rattle.law_global_order.proofs.Listing.{listed}
use Rattle.law_global_order.proofs.Serial.{behind-objects}
use Rattle.law_global_order.specs.Whole.{commits}
use Rattle.law_serializability.proofs.laws.histories_without_upgrades_are_serial.Goals as goal

pub returns : goal.returns
returns c = record {
  legal = λ s items roots S L sd at al each first none. (serial_first s items roots S sd at al L first each none (commits S).pairs (listed S sd)).0;
  behind = λ s items roots S L sd at al each first none. (serial_first s items roots S sd at al L first each none (commits S).pairs (listed S sd)).1;
  objects = λ S L sd al first x l. ap (λ M. get M x) (behind-objects L (commits S).pairs) ∙ joined-after S sd al L.objects (commits S).pairs (listed S sd).stand first.objects x l;
}
