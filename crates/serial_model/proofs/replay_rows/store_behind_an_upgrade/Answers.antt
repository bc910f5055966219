use Rattle.std.proofs.Common.{refl}
use Rattle.class_defs.specs.Upgrades.{up}
use Rattle.serial_model.proofs.TfForms.{tf_forms}
use Rattle.serial_model.proofs.replay_rows.store_behind_an_upgrade.Goals as goal

pub returns : goal.returns
unfolding up
returns c = simp tf_forms refl
