use Rattle.std.proofs.Common.{◌≡◌, arith, Bool, true, false, cond, pos, true≢false, List, [], ◌∷◌, Option, Some, None, refl, ap, sym, subst, ◌∙◌, ℕ}
use Rattle.std.specs.List.{IsDistinct}
use Rattle.std.specs.Prelude.{◌==◌, is_some, unwrap_or}
use Rattle.law_type_soundness.proofs.rows.stores.Goals as goal
use Rattle.thor_value.specs.FiniteMap.{get}
use Rattle.thor_value.specs.declared.values.Value.{Value}
use Rattle.thor_value.specs.declared.values.Value.TheVariants as value
use Rattle.law_type_soundness.specs.FitRows.{in_slot, store_of}
use Rattle.law_type_soundness.specs.Fits.{FieldsFit, ObjectFits, StoreFits}
use Rattle.class_defs.specs.RuleRows.{sample}
use Rattle.class_defs.specs.Types.{fields_of}
use Rattle.class_defs.specs.declared.store.Object.{Object}

either : (P : Object → Type 0) (b c : Bool) (u v o : Object) → P u → P v → cond b (Some u) (cond c (Some v) None) ≡ Some o → P o
either P true c u v o h k is = let e : u ≡ o = cc in subst P e h
either P false true u v o h k is = let e : v ≡ o = cc in subst P e k
either P false false u v o h k is = cc

other_class : (a b : Option ℕ) → a ≡ Some 0 → b ≡ Some 1 → a ≡ b → ⊥
other_class a b h k e = true≢false (ap (λ (o : Option ℕ). unwrap_or o 0 == 0) (sym h ∙ e ∙ k))

-- where the box's fields fit, the store does
sample_fits : (fields : List Value) → FieldsFit (get (store_of fields).objects) sample.classes (fields_of sample.classes 0) fields
    → StoreFits sample (store_of fields)
sample_fits fields h =
    let P : Object → Type 0 = ObjectFits (get (store_of fields).objects) sample.classes in
    record {
      each = λ x o is. either P _ _ (record { class = 0; fields = fields }) (record { class = 1; fields = value.Int (pos 7) ∷ [] }) o
          (record { class = refl; fields = h }) (record { class = refl; fields = (tt, tt) }) is;
      roots = (refl, tt);
    }

-- the fields of the box
box_of : (fields : List Value) → StoreFits sample (store_of fields)
    → FieldsFit (get (store_of fields).objects) sample.classes (fields_of sample.classes 0) fields
box_of fields h = (h.each (in_slot 0) (record { class = 0; fields = fields }) refl).fields

pub returns : goal.returns
unfolding IsDistinct
returns c = record {
  box_without_a_part = sample_fits _ (tt, (tt, tt));
  box_with_a_part = sample_fits _ (tt, (refl, tt));
  null_for_a_number = λ h. (box_of _ h).0;
  box_for_a_part = λ h. other_class _ _ refl refl (box_of _ h).1.0;
  part_that_is_not_there = λ h. true≢false (sym (ap is_some (box_of _ h).1.0));
  field_missing = λ h. (box_of _ h).1;
  new_name = record {
    waiting = ((refl, λ e. absurd (omega (arith, e))), ((refl, λ e. absurd (omega (arith, e))), tt));
    distinct = ((refl, tt), (tt, tt));
    stand_ins = λ k. refl;
  };
  name_that_is_taken = λ h. true≢false (ap is_some h.waiting.0.0);
  name_that_comes_twice = λ h. true≢false h.distinct.0.0;
}
