-- That the upgrades of the small store keep ownership.
use Rattle.std.proofs.Common.{◌≡◌, ◌<◌, arith, [], ◌∷◌, ℕ, zero, suc, Some, None, is_some, slice_get, map, refl, ap, sym, ◌∙◌, subst, true}
use Rattle.std.proofs.lemmas.Option.{same_Some}
use Rattle.rows_language.proofs.TfForms.{tf_forms}
use Rattle.class_defs.specs.Epochs.{classes_of, next_of}
use Rattle.class_defs.specs.KeptOwnership.{AllKeepClasses, IsHanded, KeepsOwnership, handed, reads_owned}
use Rattle.rows_language.specs.LazyExamples.{twice}
use Rattle.class_defs.specs.Rules.{is_part}
use Rattle.class_defs.specs.Types.{fields_of, type_named}
use Rattle.class_defs.specs.declared.expressions.TypeName.{TypeName}
use Rattle.class_defs.specs.declared.expressions.TypeName.TheVariants as type_name
use Rattle.class_defs.specs.declared.types.ExprType.{ExprType}
use Rattle.class_defs.specs.declared.types.ExprType.TheVariants as type
use Rattle.class_defs.specs.declared.upgrades.ClassUpgrade.{ClassUpgrade}
use Rattle.class_defs.specs.declared.upgrades.FieldUpgrade.{FieldUpgrade}

-- ---- classes

types_at : (k : ℕ) → k < 2 → (t : TypeName) → type_named (classes_of twice (suc k)) t ≡ type_named (classes_of twice k) t
types_at zero h (type_name.Int line) = refl
types_at zero h (type_name.Class name) = refl
types_at (suc zero) h (type_name.Int line) = refl
types_at (suc zero) h (type_name.Class name) = refl
types_at (suc (suc k)) h t = absurd (omega (arith, h))

kinds_at : (k : ℕ) → k < 2 → (c : ℕ) → is_part (classes_of twice (suc k)) (type.Class c) ≡ is_part (classes_of twice k) (type.Class c)
kinds_at zero h zero = refl
kinds_at zero h (suc zero) = refl
kinds_at zero h (suc (suc zero)) = refl
kinds_at zero h (suc (suc (suc zero))) = refl
kinds_at zero h (suc (suc (suc (suc zero)))) = refl
kinds_at zero h (suc (suc (suc (suc (suc c))))) = refl
kinds_at (suc zero) h c = refl
kinds_at (suc (suc k)) h c = absurd (omega (arith, h))

known_at : (k : ℕ) → k < 2 → (c : ℕ) → is_some (slice_get (classes_of twice (suc k)) c) ≡ is_some (slice_get (classes_of twice k) c)
known_at zero h zero = refl
known_at zero h (suc zero) = refl
known_at zero h (suc (suc zero)) = refl
known_at zero h (suc (suc (suc zero))) = refl
known_at zero h (suc (suc (suc (suc zero)))) = refl
known_at zero h (suc (suc (suc (suc (suc c))))) = refl
known_at (suc zero) h c = refl
known_at (suc (suc k)) h c = absurd (omega (arith, h))

kinds_of : (k : ℕ) → k < 2 → (t : ExprType) → is_part (classes_of twice (suc k)) t ≡ is_part (classes_of twice k) t
kinds_of k h (type.Class c) = kinds_at k h c
kinds_of k h type.Int = refl
kinds_of k h type.Text = refl
kinds_of k h type.Null = refl
kinds_of k h type.Untold = refl

others_at : (k : ℕ) → k < 2 → (c : ℕ) → next_of twice k c ≡ None → fields_of (classes_of twice (suc k)) c ≡ fields_of (classes_of twice k) c
others_at zero h zero e = cc
others_at zero h (suc zero) e = refl
others_at zero h (suc (suc zero)) e = refl
others_at zero h (suc (suc (suc zero))) e = refl
others_at zero h (suc (suc (suc (suc zero)))) e = refl
others_at zero h (suc (suc (suc (suc (suc c))))) e = refl
others_at (suc zero) h c e = refl
others_at (suc (suc k)) h c e = absurd (omega (arith, h))

-- ---- expressions

module _ (k c : ℕ) (u : ClassUpgrade) (f0 : FieldUpgrade) (one : u.fields ≡ f0 ∷ []) (int : type_named (classes_of twice (suc k)) f0.type_name ≡ type.Int) where
  only_place : (i : ℕ) (f : FieldUpgrade) → slice_get (f0 ∷ []) i ≡ Some f → (i ≡ zero) × (f0 ≡ f)
  only_place zero f h = (refl, same_Some _ _ h)
  only_place (suc i) f h = cc

  place : (i : ℕ) (f : FieldUpgrade) → slice_get u.fields i ≡ Some f → (i ≡ zero) × (f0 ≡ f)
  place i f h = only_place i f (subst (λ fs. slice_get fs i ≡ Some f) one h)

  no_class : (f : FieldUpgrade) (d : ℕ) → f0 ≡ f → type_named (classes_of twice (suc k)) f.type_name ≡ type.Class d → ⊥
  no_class f d e h = int_or_class (sym int ∙ ap (λ g. type_named (classes_of twice (suc k)) g.type_name) e ∙ h)
    where
      int_or_class : type.Int ≡ type.Class d → ⊥
      int_or_class e = cc

  -- a class with one field, a number
  pub one_number : reads_owned (classes_of twice k) c f0.value ≡ true
      → fields_of (classes_of twice (suc k)) c ≡ record { type_name = f0.type_name; name = f0.name } ∷ []
      → KeepsOwnership twice (classes_of twice k) (classes_of twice (suc k)) c u
  one_number reads fields = record {
    fields = ap (map (λ f. f.type_name)) fields ∙ sym (ap (map (λ f. f.type_name)) one);
    paths = λ i f h. subst (λ g. reads_owned (classes_of twice k) c g.value ≡ true) (place i f h).1 reads;
    references = λ i d f h t. absurd (no_class f d (place i f h).1 t);
    once = λ i j d e h f g p q t. absurd (no_class f d (place i f p).1 t);
  }

-- class A { int s = old.s + old.o.z.v; M p = old.o; }
a_paths : (u : ClassUpgrade) → next_of twice 0 0 ≡ Some u → (i : ℕ) (f : FieldUpgrade) → slice_get u.fields i ≡ Some f
    → reads_owned (classes_of twice 0) 0 f.value ≡ true
a_paths u e zero f h =
    subst (λ g. reads_owned (classes_of twice 0) 0 g.value ≡ true) (same_Some _ _ (subst (λ w. slice_get w.fields 0 ≡ Some f) (sym (same_Some _ _ e)) h)) (simp tf_forms refl)
a_paths u e (suc zero) f h =
    subst (λ g. reads_owned (classes_of twice 0) 0 g.value ≡ true) (same_Some _ _ (subst (λ w. slice_get w.fields 1 ≡ Some f) (sym (same_Some _ _ e)) h)) (simp tf_forms refl)
a_paths u e (suc (suc i)) f h = none (subst (λ w. slice_get w.fields (suc (suc i)) ≡ Some f) (sym (same_Some _ _ e)) h)
  where
    none : None ≡ Some f → reads_owned (classes_of twice 0) 0 f.value ≡ true
    none h = cc

module _ (u : ClassUpgrade) (e : next_of twice 0 0 ≡ Some u) where
  first_is_number : (d : ℕ) (f : FieldUpgrade) → slice_get u.fields 0 ≡ Some f → type_named (classes_of twice 1) f.type_name ≡ type.Class d → ⊥
  first_is_number d f h t = cc_type (subst (λ g. type_named (classes_of twice 1) g.type_name ≡ type.Class d) (sym (same_Some _ _ (subst (λ w. slice_get w.fields 0 ≡ Some f) (sym (same_Some _ _ e)) h))) t)
    where
      cc_type : type.Int ≡ type.Class d → ⊥
      cc_type h = cc

  no_third : (i : ℕ) (f : FieldUpgrade) → slice_get u.fields (suc (suc i)) ≡ Some f → ⊥
  no_third i f h = none (subst (λ w. slice_get w.fields (suc (suc i)) ≡ Some f) (sym (same_Some _ _ e)) h)
    where
      none : None ≡ Some f → ⊥
      none h = cc

  hands_over : (d : ℕ) (f : FieldUpgrade) → slice_get u.fields 1 ≡ Some f → type_named (classes_of twice 1) f.type_name ≡ type.Class d
      → IsHanded (classes_of twice 0) 0 d (handed (classes_of twice 0) 0 f.value)
  hands_over d f h t =
      let g = same_Some _ _ (subst (λ w. slice_get w.fields 1 ≡ Some f) (sym (same_Some _ _ e)) h) in
      subst (λ g. IsHanded (classes_of twice 0) 0 d (handed (classes_of twice 0) 0 g.value)) g
      (simp tf_forms (ap Some (subst (λ g. type_named (classes_of twice 1) g.type_name ≡ type.Class d) (sym g) t)))

  a_references : (i d : ℕ) (f : FieldUpgrade) → slice_get u.fields i ≡ Some f → type_named (classes_of twice 1) f.type_name ≡ type.Class d
      → IsHanded (classes_of twice 0) 0 d (handed (classes_of twice 0) 0 f.value)
  a_references zero d f h t = absurd (first_is_number d f h t)
  a_references (suc zero) d f h t = hands_over d f h t
  a_references (suc (suc i)) d f h t = absurd (no_third i f h)

  -- the field of a class is the second
  second : (i d : ℕ) (f : FieldUpgrade) → slice_get u.fields i ≡ Some f → type_named (classes_of twice 1) f.type_name ≡ type.Class d → i ≡ 1
  second zero d f h t = absurd (first_is_number d f h t)
  second (suc zero) d f h t = refl
  second (suc (suc i)) d f h t = absurd (no_third i f h)

  a_keeps : KeepsOwnership twice (classes_of twice 0) (classes_of twice 1) 0 u
  a_keeps = record {
    fields = ap (λ (w : ClassUpgrade). map (λ f. f.type_name) w.fields) (same_Some _ _ e);
    paths = a_paths u e;
    references = a_references;
    once = λ i j d c h f g p q t k r l m n. second i d f p t ∙ sym (second j c g q r);
  }

-- ---- the upgrades

first_names : (c : ℕ) (u : ClassUpgrade) → next_of twice 0 c ≡ Some u → KeepsOwnership twice (classes_of twice 0) (classes_of twice 1) c u
first_names zero u e = a_keeps u e
first_names (suc zero) u e = cc
first_names (suc (suc zero)) u e =
    one_number 0 2 u _ (sym (ap (λ (w : ClassUpgrade). w.fields) (same_Some _ _ e))) refl (simp tf_forms refl) refl
first_names (suc (suc (suc zero))) u e =
    one_number 0 3 u _ (sym (ap (λ (w : ClassUpgrade). w.fields) (same_Some _ _ e))) refl (simp tf_forms refl) refl
first_names (suc (suc (suc (suc zero)))) u e = cc
first_names (suc (suc (suc (suc (suc c))))) u e = cc

second_names : (c : ℕ) (u : ClassUpgrade) → next_of twice 1 c ≡ Some u → KeepsOwnership twice (classes_of twice 1) (classes_of twice 2) c u
second_names zero u e = cc
second_names (suc zero) u e = cc
second_names (suc (suc zero)) u e = cc
second_names (suc (suc (suc zero))) u e =
    one_number 1 3 u _ (sym (ap (λ (w : ClassUpgrade). w.fields) (same_Some _ _ e))) refl (simp tf_forms refl) refl
second_names (suc (suc (suc (suc zero)))) u e = cc
second_names (suc (suc (suc (suc (suc c))))) u e = cc

names_of : (k : ℕ) → k < 2 → (c : ℕ) (u : ClassUpgrade) → next_of twice k c ≡ Some u
    → KeepsOwnership twice (classes_of twice k) (classes_of twice (suc k)) c u
names_of zero h = first_names
names_of (suc zero) h = second_names
names_of (suc (suc k)) h = absurd (omega (arith, h))

pub twice_keeps : AllKeepClasses twice 2
twice_keeps k h = record { types = types_at k h; known = known_at k h; kinds = kinds_of k h; others = others_at k h; named = names_of k h }
