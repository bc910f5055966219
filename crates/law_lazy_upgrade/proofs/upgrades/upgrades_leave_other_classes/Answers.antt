use Rattle.std.proofs.Common.{◌≡◌, List, Some, option_map, refl, ap, ◌∙◌}
use Rattle.thor_value.specs.FiniteMap.{get}
use Rattle.thor_value.specs.declared.names.Oref.{Oref}
use Rattle.law_lazy_upgrade.proofs.Moving.{keys-each}
use Rattle.law_lazy_upgrade.proofs.Values.{get-each}
use Rattle.class_defs.specs.Upgrades.{transformed, up, upgrade_of}
use Rattle.class_defs.specs.declared.classes.Class.{Class}
use Rattle.class_defs.specs.declared.store.Object.{Object}
use Rattle.class_defs.specs.declared.store.Plain.{Plain}
use Rattle.class_defs.specs.declared.upgrades.Upgrade.{Upgrade}
use Rattle.law_lazy_upgrade.proofs.upgrades.upgrades_leave_other_classes.Goals as goal

module _ (old new : List Class) (u : Upgrade) (store : Plain) where
  abbrev behind : Object → Object
  behind v = transformed old new (get store.objects) v (upgrade_of old u v.class)

  at_name : (x : Oref) → get (up old new u store).objects x ≡ option_map behind (get store.objects x)
  unfolding up
  at_name x = get-each behind store.objects x

pub returns : goal.returns
unfolding up
returns c = record {
  others = λ old new u store x v is h.
      at_name old new u store x ∙ ap (option_map (behind old new u store)) is ∙ ap (λ k. Some (transformed old new (get store.objects) v k)) h;
  objects = at_name;
  names = λ old new u store. keys-each (behind old new u store) store.objects.pairs;
  epoch = λ old new u store. refl;
  roots = λ old new u store. refl;
}
