use Rattle.std.proofs.Common.{◌≡◌, ◌+◌, ◌∙◌, ap, refl, sym}
use Rattle.thor_value.specs.FiniteMap.{Map}
use Rattle.thor_value.specs.Names.{oref_cmp}
use Rattle.thor_value.specs.declared.values.Obj.{Obj}
use Rattle.class_defs.specs.Upgrades.{up}
use Rattle.class_defs.specs.declared.store.Plain.{Plain}
use Rattle.class_defs.specs.declared.store.Schema.{Schema}
use Rattle.class_defs.specs.Epochs.{classes_of, schema_of}
use Rattle.serial_model.specs.Whole.{bare_objects, plain}
use Rattle.serial_model.proofs.Applied.{at_epoch, upgraded}
use Rattle.serial_model.proofs.applying.apply_upgrade.Goals as goal

pub returns-then-not-is_legal_upgrade : goal.returns-then-not-is_legal_upgrade
returns-then-not-is_legal_upgrade c = λ legal.
    let t = (c.is_legal_upgrade.ensures.legal (plain c.args.roots.now c.args.view.now) refl).1 legal in
    let f = c.if-not-is_legal_upgrade.true in cc

pub returns : goal.returns
returns c =
    let s = c.args.schemas.now in
    let n = c.args.view.now.epoch in
    let store : Plain = record { objects = bare_objects c.replace-objects.result; epoch = n; roots = c.args.roots.now } in
    let was : c.in_ok-store.store ≡ plain c.args.roots.now c.args.view.now =
    c.in_ok-store.ensures ∙ ap (λ (m : Map oref_cmp Obj). let p : Plain = record { objects = bare_objects m; epoch = n; roots = c.args.roots.now } in p) c.replace-objects.ensures.value in
    let old : schema_of s n ≡ c.in-Some-Some.old.now = at_epoch s c.in-Some-Some.old.now n (sym c.in-Some-Some.ensures) in
    let new : schema_of s (n + 1) ≡ c.in-Some-Some.new.now = at_epoch s c.in-Some-Some.new.now (n + 1) (sym c.in-Some-Some.ensures') in
    let is : c.in_ok-upgrade_store.field-0 ≡ up (classes_of s n) (classes_of s (n + 1)) c.args.upgrade.now c.in_ok-store.store =
    c.in_ok-upgrade_store.ensures
    ∙ ap (λ (k : Schema). up k.classes c.in-Some-Some.new.now.classes c.args.upgrade.now c.in_ok-store.store) (sym old)
    ∙ ap (λ (k : Schema). up (classes_of s n) k.classes c.args.upgrade.now c.in_ok-store.store) (sym new) in (
      (c.is_legal_upgrade.ensures.legal (plain c.args.roots.now c.args.view.now) refl).0 c.if-not-is_legal_upgrade.false,
      upgraded (classes_of s n) (classes_of s (n + 1)) c.args.upgrade.now c.args.roots.now c.args.view.now c.in_ok-view.field-0 c.in_ok-store.store c.in_ok-upgrade_store.field-0 was is c.in_ok-view.ensures.store,
      c.in_ok-view.ensures.versions,
    )
