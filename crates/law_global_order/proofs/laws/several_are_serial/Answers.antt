use Rattle.law_global_order.proofs.Listing.{listed}
use Rattle.law_global_order.proofs.Serial.{behind-objects, behind-texts, serial}
use Rattle.law_global_order.proofs.Chain.{joined-after}
use Rattle.std.proofs.Common.{ap, ◌∙◌}
use Rattle.thor_value.specs.FiniteMap.{get}
use Rattle.law_global_order.specs.Whole.{commits}
use Rattle.law_global_order.proofs.laws.several_are_serial.Goals as goal

pub returns : goal.returns
returns c = record {
  serial = λ S does L sd at al rests joined texts. serial S sd at al L joined texts does rests (commits S).pairs (listed S sd);
  objects = λ S L sd al joined x l. ap (λ M. get M x) (behind-objects L (commits S).pairs) ∙ joined-after S sd al L.objects (commits S).pairs (listed S sd).stand joined x l;
  texts = behind-texts;
}
