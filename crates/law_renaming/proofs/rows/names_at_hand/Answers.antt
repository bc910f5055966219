use Rattle.std.proofs.Common.{◌≡◌, Bool, true, false, cond, List, [], ◌∷◌, Some, None, refl, subst, pos}
use Rattle.std.proofs.lemmas.Option.{same_Some}
use Rattle.std.specs.List.{AllByRecursion, IsDistinct}
use Rattle.thor_value.specs.Names.{same_oref}
use Rattle.thor_value.specs.declared.names.Oref.{Oref}
use Rattle.thor_value.specs.declared.values.Value.{Value}
use Rattle.thor_value.specs.declared.values.Value.TheVariants as value
use Rattle.law_renaming.specs.Renaming.{AtHand, IsOld, Unused, among}
use Rattle.law_renaming.specs.RenamingRows.{oref_at, one_box}
use Rattle.class_defs.specs.declared.store.Object.{Object}
use Rattle.law_renaming.proofs.rows.names_at_hand.Goals as goal

abbrev box : Value → Object
box part = record { class = 0; fields = value.Int (pos 5) ∷ part ∷ [] }

one_object : (b : Bool) (part : Value) (o : Object) → cond b (Some (box part)) None ≡ Some o → box part ≡ o
one_object true part o e = same_Some (box part) o e
one_object false part o e = cc

unused : (part : Value) (names : List Oref) → among names (oref_at 0 0 0) ≡ false → IsOld (among names) part → Unused (among names) (one_box part)
unused part names root old = record {
  stand_ins = λ k. refl;
  roots = (root, tt);
  objects = λ x o e. subst (λ (p : Object). AllByRecursion (IsOld (among names)) p.fields) (one_object (same_oref x (oref_at 0 0 0)) part o e)
      (tt, (old, tt));
}

two : AtHand (oref_at 0 1 0 ∷ oref_at 0 1 1 ∷ []) (one_box value.Null)
unfolding IsDistinct
two = record {
  placed = (refl, (refl, tt));
  once = ((refl, tt), (tt, tt));
  free = (refl, (refl, tt));
  unused = unused value.Null (oref_at 0 1 0 ∷ oref_at 0 1 1 ∷ []) refl tt;
}

spread : AtHand (oref_at 0 1 0 ∷ oref_at 1 1 0 ∷ []) (one_box value.Null)
unfolding IsDistinct
spread = record {
  placed = (refl, (refl, tt));
  once = ((refl, tt), (tt, tt));
  free = (refl, (refl, tt));
  unused = unused value.Null (oref_at 0 1 0 ∷ oref_at 1 1 0 ∷ []) refl tt;
}

beside : AtHand (oref_at 0 1 1 ∷ []) (one_box (value.Ref (oref_at 0 1 0)))
unfolding IsDistinct
beside = record {
  placed = (refl, tt);
  once = (tt, tt);
  free = (refl, tt);
  unused = unused (value.Ref (oref_at 0 1 0)) (oref_at 0 1 1 ∷ []) refl refl;
}

without : AtHand [] (one_box value.Null)
unfolding IsDistinct
without = record { placed = tt; once = tt; free = tt; unused = unused value.Null [] refl tt }

twice : ¬ (AtHand (oref_at 0 1 0 ∷ oref_at 0 1 0 ∷ []) (one_box value.Null))
unfolding IsDistinct
twice h = let e = h.once.0.0 in cc

part_there : ¬ (AtHand (oref_at 0 1 0 ∷ []) (one_box (value.Ref (oref_at 0 1 0))))
part_there h = let e = (h.unused.objects (oref_at 0 0 0) (box (value.Ref (oref_at 0 1 0))) refl).1.0 in cc

pub returns : goal.returns
returns c = record {
  two_new_names = two;
  beside_a_part = beside;
  no_names = without;
  a_name_twice = twice;
  the_root = λ h. let e = h.unused.roots.0 in cc;
  its_part = part_there;
  in_two_repositories = spread;
  a_stand_in_name = λ h. let e = h.placed.0 in cc;
}
