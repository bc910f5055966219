use Rattle.law_serializability.proofs.Checked.{runs_checked}
use Rattle.law_serializability.proofs.Serial.{serial_all}
use Rattle.law_serializability.proofs.laws.histories_are_serial.Goals as goal
use Rattle.law_global_order.proofs.Listing.{listed}
use Rattle.law_global_order.specs.Whole.{commits}

pub returns : goal.returns
returns c = record {
  legal = λ s items roots S L sd at al rests first here fits checked. (serial_all s items roots S sd at al L first rests (λ done rest t w c h is rest_on fit. runs_checked s items roots S sd at al L first checked here done rest t w c h rest_on fits.keeps fit) fits (commits S).pairs (listed S sd)).0;
  behind = λ s items roots S L sd at al rests first here fits checked. (serial_all s items roots S sd at al L first rests (λ done rest t w c h is rest_on fit. runs_checked s items roots S sd at al L first checked here done rest t w c h rest_on fits.keeps fit) fits (commits S).pairs (listed S sd)).1;
  fits = λ s items roots S L sd at al rests first here fits checked. (serial_all s items roots S sd at al L first rests (λ done rest t w c h is rest_on fit. runs_checked s items roots S sd at al L first checked here done rest t w c h rest_on fits.keeps fit) fits (commits S).pairs (listed S sd)).2;
}
