use Rattle.std.proofs.Common.{◌∙◌, ap, map}
use Rattle.thor_value.specs.FiniteMap.{get}
use Rattle.thor_value.specs.Names.{oref_cmp}
use Rattle.thor_value.specs.declared.names.Oref.{Oref}
use Rattle.class_defs.specs.Upgrades.{transformed, upgrade_of}
use Rattle.class_defs.specs.declared.store.Object.{Object}
use Rattle.serial_model.specs.Upgrading.{transformed_pair}
use Rattle.serial_model.proofs.SortedMaps.{order_kept}
use Rattle.serial_model.proofs.upgrading.upgrade_store.Goals as goal

pub map_of-requires : goal.map_of-requires
map_of-requires c =
    let objects = get c.args.store.now.objects in
    order_kept oref_cmp (λ (p : Oref × Object). transformed c.args.old.now c.args.new.now objects p.1 (upgrade_of c.args.old.now c.args.upgrade.now p.1.class)) c.args.store.now.objects.pairs c.in_ok-made.made
    (c.in_ok-made.ensures ∙ ap (map (transformed_pair c.args.old.now c.args.new.now c.args.upgrade.now objects)) c.in_ok-pairs.ensures)
    c.requires.sorted
