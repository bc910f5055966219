use Rattle.script_check.proofs.AcceptedUpgrades.{all_accepted}
use Rattle.script_check.specs.Upgrading.{blocks_of, upgrades_of}
use Rattle.script_check.proofs.epoch_laws.upgrades_are_accepted_in_order.Goals as goal

pub returns : goal.returns
returns c = record {
  upgrades = all_accepted;
  scripts = λ schema repos script keeps. all_accepted schema repos (upgrades_of script.clients) (blocks_of script.clients) keeps.upgrades;
}
