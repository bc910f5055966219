use Rattle.law_global_order.proofs.EndTexts.{texts_at_end}
use Rattle.law_global_order.proofs.Listing.{listed}
use Rattle.law_global_order.specs.Whole.{commits}
use Rattle.law_global_order.proofs.laws.repositories_come_to_upgrades.Goals as goal

pub returns : goal.returns
returns c = λ S sd at al r l. texts_at_end S at sd al (commits S).pairs (listed S sd) r l
