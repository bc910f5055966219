use Rattle.ownership_check.proofs.Behind.{as_many, next_behind}
use Rattle.ownership_check.proofs.laws.one_upgrade_follows_another.Goals as goal

pub returns : goal.returns
returns c = record {
  classes = as_many;
  numbers = next_behind;
}
