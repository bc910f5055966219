use Rattle.script_check.proofs.NamedUpgrades.{written_names}
use Rattle.script_check.proofs.epoch_laws.upgrades_of_scripts_name_classes.Goals as goal

pub returns : goal.returns
returns c = written_names
