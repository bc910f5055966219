-- A run touches each owner of what it touched.
use Rattle.class_defs.specs.Eager.{value}
use Rattle.class_defs.specs.Epochs.{classes_of}
use Rattle.class_defs.specs.Ownership.{IsAbove, Owns}
use Rattle.class_defs.specs.Rules.{is_part}
use Rattle.class_defs.specs.Run.{Ran}
use Rattle.class_defs.specs.Stored.{Stored}
use Rattle.class_defs.specs.declared.statements.Stmt.{Stmt}
use Rattle.class_defs.specs.declared.store.Object.{Object}
use Rattle.class_defs.specs.declared.store.Schema.{Schema}
use Rattle.class_defs.specs.declared.store.Schemas.{Schemas}
use Rattle.class_defs.specs.declared.types.ExprType.TheVariants as type
use Rattle.law_lazy_upgrade.proofs.Values.{value_class}
use Rattle.law_ownership.proofs.Plainly.{E, owns-stored, part-at, parts_kept, plain_at, some_and}
use Rattle.law_ownership.specs.Checked.{CheckedRun}
use Rattle.law_encapsulation.specs.Owning.{OwnsIn}
use Rattle.std.proofs.Common.{List, ap, subst, sym, true, ℕ, zero, suc, ◌≡◌, ◌∙◌}
use Rattle.std.specs.List.{Contains}
use Rattle.std.specs.Option.{option_map}
use Rattle.std.specs.Prelude.{Option, Some}
use Rattle.thor_value.specs.FiniteMap.{get}
use Rattle.thor_value.specs.declared.names.Oref.{Oref}

module _ (s : Schemas) (N : Stored) (schema : Schema) (repos : ℕ) (tx : List Stmt) (names : List Oref) (r : Ran) (h : CheckedRun s N schema repos tx names r) where
  abbrev F : Oref → Option Object
  F = E s N schema repos tx names r h

  -- a class keeps its kind
  pub part_at : (d : ℕ) → is_part schema.classes (type.Class d) ≡ is_part (classes_of s 0) (type.Class d)
  part_at = part-at s N schema repos h.epoch h.rules h.keeps h.fits h.roots

  -- an owner in what the map stands for is one in the map
  pub owns_stored : (a : Oref) (i : ℕ) (z : Oref) → OwnsIn schema.classes F a i z → (j : ℕ) × Owns s N.objects a j z
  owns_stored = owns-stored s N schema repos h.epoch h.rules h.keeps h.fits h.roots

  -- who owns what was touched was touched
  owner_touched : (a : Oref) (i : ℕ) (b : Oref) → Owns s N.objects a i b → Contains r.touched b → Contains r.touched a
  owner_touched a i b own touched =
      let o = some_and (get N.objects b) (λ o. o.class ≡ own.class) (h.fits.owned.declared a i own.class b own.reference) in
      let v : Object = value s N.objects N.epoch o.0 in
      let stands : F b ≡ Some v = plain_at s N schema repos tx names r h b ∙ ap (option_map (value s N.objects N.epoch)) o.1 in
      let part : is_part schema.classes (type.Class v.class) ≡ true = part_at v.class ∙ ap (λ c. is_part (classes_of s 0) (type.Class c)) (value_class s N.objects N.epoch o.0 ∙ o.2) ∙ own.part in
      let k = (parts_kept s N schema repos tx names r h).reached b v touched stands part in
      let owner = owns_stored k.0 k.1 b k.2 in
      subst (λ x. Contains r.touched x) (h.fits.owned.once k.0 a owner.0 i b owner.1 own).0 k.3

  pub owners_touched : (n : ℕ) (a x : Oref) → Contains r.touched x → IsAbove s N.objects n a x → Contains r.touched a
  owners_touched zero a x touched above = subst (λ y. Contains r.touched y) (sym above) touched
  owners_touched (suc n) a x touched above = owner_touched a above.1.0 above.0 above.1.1.0 (owners_touched n above.0 x touched above.1.1.1)
