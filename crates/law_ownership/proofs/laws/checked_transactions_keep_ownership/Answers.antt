use Rattle.law_ownership.proofs.Behind.{fits_behind}
use Rattle.law_ownership.proofs.Closed.{owners_touched}
use Rattle.law_ownership.proofs.laws.checked_transactions_keep_ownership.Goals as goal

pub returns : goal.returns
returns c = record {
  owners = λ s N schema repos tx names r h n a x touched above. owners_touched s N schema repos tx names r h n a x touched above;
  fits = λ s N schema repos tx names r ws h undue its. fits_behind s N schema repos tx names r h ws undue its;
}
