-- What an expression of an upgrade that breaks no rule does: it reads through owned fields, and hands references on.
use Rattle.std.proofs.Common.{◌≡◌, Bool, true, false, cond, List, [], ◌∷◌, ◌++◌, ℕ, zero, suc, Option, Some, None, slice_get, refl, ap, sym, ◌∙◌, subst}
use Rattle.std.proofs.lemmas.Bool.Decides.{Decides-eqb}
use Rattle.std.proofs.lemmas.List.Folds.{list_any-append}
use Rattle.std.proofs.lemmas.Bool.{and_from, and_parts, not-true, or_parts}
use Rattle.std.specs.List.{list_any}
use Rattle.std.specs.Option.{option_and_then}
use Rattle.std.specs.Prelude.{◌&&◌, ◌||◌, ◌==◌, nat_le, length}
use Rattle.class_defs.proofs.KeptRules.{held, nothing}
use Rattle.class_defs.specs.Types.{IsDeclared, field_named, type_named}
use Rattle.class_defs.specs.KeptOwnership.{IsHanded, handed, handed_path, handed_step, is_owned_path, owned_step, part_class, reads_owned}
use Rattle.class_defs.specs.Ownership.{type_at}
use Rattle.class_defs.specs.Rules.{is_part}
use Rattle.class_defs.specs.UpgradeRules.{as_list, field_at_path, field_behind, field_read, field_rules, gives_int, gives_reference, gives_text, goes_through_parts, handed_as, handed_once, hands_over, int_step, is_field_of, is_int, is_new, is_text_field, is_of_class, max_names, may_go_on, part_step, path_type, reads_parts, value_rules}
use Rattle.class_defs.specs.declared.classes.Class.{Class}
use Rattle.class_defs.specs.declared.expressions.Name.{Name}
use Rattle.class_defs.specs.declared.types.ExprType.{ExprType}
use Rattle.class_defs.specs.declared.types.ExprType.TheVariants as type
use Rattle.class_defs.specs.declared.upgrades.FieldUpgrade.{FieldUpgrade}
use Rattle.class_defs.specs.declared.upgrades.Tf.{Tf, map-Tf, out-Tf}
use Rattle.class_defs.specs.declared.upgrades.Tf.TheFolds.{fold_out-Tf, fold-roll-Tf, ind-Tf}
use Rattle.class_defs.specs.declared.upgrades.Tf.TheOpen.{Tf-F}

module _ (classes : List Class) where
  -- ---- paths

  ends_nowhere : (names : List Name) → is_int (path_type classes None names) ≡ false
  ends_nowhere [] = refl
  ends_nowhere (name ∷ names) = ends_nowhere names

  goes_on : (t : Option ExprType) (next : Name) (names : List Name)
      → ((d : ℕ) → is_int (path_type classes (Some (type.Class d)) (next ∷ names)) ≡ true
      → goes_through_parts classes (Some (type.Class d)) (next ∷ names) ≡ true → is_owned_path classes (Some d) (next ∷ names) ≡ true)
      → is_int (path_type classes t (next ∷ names)) ≡ true
      → (may_go_on classes t && goes_through_parts classes t (next ∷ names)) ≡ true
      → is_owned_path classes (part_class classes t) (next ∷ names) ≡ true
  goes_on (Some (type.Class d)) next names rest i g =
      let part = (and_parts (is_part classes (type.Class d)) _ g).0 in
      subst (λ b. is_owned_path classes (cond b (Some d) None) (next ∷ names) ≡ true) (sym part)
      (rest d i ((and_parts (is_part classes (type.Class d)) _ g).1))
  goes_on (Some type.Int) next names rest i g = sym (ends_nowhere names) ∙ i
  goes_on (Some type.Text) next names rest i g = sym (ends_nowhere names) ∙ i
  goes_on (Some type.Null) next names rest i g = sym (ends_nowhere names) ∙ i
  goes_on (Some type.Untold) next names rest i g = sym (ends_nowhere names) ∙ i
  goes_on None next names rest i g = sym (ends_nowhere names) ∙ i

  -- a path that ends in an int and leaves no owned field goes through owned fields
  int_path_owned : (names : List Name) (c : ℕ) → is_int (path_type classes (Some (type.Class c)) names) ≡ true
      → goes_through_parts classes (Some (type.Class c)) names ≡ true → is_owned_path classes (Some c) names ≡ true
  int_path_owned [] c i g = refl
  int_path_owned (name ∷ []) c i g = refl
  int_path_owned (name ∷ next ∷ names) c i g =
      goes_on (field_behind classes (Some (type.Class c)) name.text) next names (λ d. int_path_owned (next ∷ names) d) i g

  module _ (c : ℕ) where
    -- ---- ints

    abbrev IsRead : Tf → Type 0
    IsRead t = reads_parts classes c t ≡ true → gives_int classes c t ≡ true → reads_owned classes c t ≡ true

    abbrev trees : Tf-F ((t : Tf) × IsRead t) → Tf-F Tf
    trees y = map-Tf ((t : Tf) × IsRead t) Tf (λ p. p.0) y

    by_layer : (y : Tf-F ((t : Tf) × IsRead t))
        → part_step classes c (map-Tf Tf Bool (reads_parts classes c) (trees y)) ≡ true
        → int_step classes c (map-Tf Tf Bool (gives_int classes c) (trees y)) ≡ true
        → owned_step classes c (map-Tf Tf Bool (reads_owned classes c) (trees y)) ≡ true
    by_layer (Tf-F.Null line) h g = refl
    by_layer (Tf-F.Literal n line) h g = refl
    by_layer (Tf-F.Path names line) h g = int_path_owned names c ((and_parts (nat_le (length names) max_names) _ g).1) h
    by_layer (Tf-F.Parens inner line) h g = inner.1 h g
    by_layer (Tf-F.Negate operand line) h g = operand.1 h g
    by_layer (Tf-F.Binary operator left right line) h g =
        and_from _ _ (left.1 ((and_parts _ _ h).0) ((and_parts _ _ g).0)) (right.1 ((and_parts _ _ h).1) ((and_parts _ _ g).1))

    int_reads_owned : (t : Tf) → IsRead t
    unfolding reads_parts gives_int reads_owned
    int_reads_owned = ind-Tf IsRead (λ x y is h g.
        fold-roll-Tf Bool (owned_step classes c) x
        ∙ subst (λ z. owned_step classes c (map-Tf Tf Bool (reads_owned classes c) z) ≡ true) is
        (by_layer y
        (subst (λ z. part_step classes c (map-Tf Tf Bool (reads_parts classes c) z) ≡ true) (sym is) (sym (fold-roll-Tf Bool (part_step classes c) x) ∙ h))
        (subst (λ z. int_step classes c (map-Tf Tf Bool (gives_int classes c) z) ≡ true) (sym is) (sym (fold-roll-Tf Bool (int_step classes c) x) ∙ g))))

    -- ---- references

    of_class : (d : ℕ) (t : Option ExprType) → is_of_class d t ≡ true → t ≡ Some (type.Class d)
    of_class d (Some (type.Class e)) h = ap (λ n. Some (type.Class n)) (sym ((Decides-eqb d e).0 h))
    of_class d (Some type.Int) h = cc
    of_class d (Some type.Text) h = cc
    of_class d (Some type.Null) h = cc
    of_class d (Some type.Untold) h = cc
    of_class d None h = cc

    abbrev owned_layer : Tf-F Tf → Bool
    owned_layer x = owned_step classes c (map-Tf Tf Bool (reads_owned classes c) x)

    abbrev handed_layer : Tf-F Tf → Option (Option ℕ)
    handed_layer x = handed_step classes c (map-Tf Tf (Option (Option ℕ)) (handed classes c) x)

    path_owned : (d : ℕ) (names : List Name) → is_field_of classes c d names ≡ true → is_owned_path classes (Some c) names ≡ true
    path_owned d [] h = refl
    path_owned d (name ∷ []) h = refl
    path_owned d (name ∷ next ∷ names) h = cc

    layer_owned : (d : ℕ) (x : Tf-F Tf) → gives_reference classes c d x ≡ true → owned_layer x ≡ true
    layer_owned d (Tf-F.Null line) h = refl
    layer_owned d (Tf-F.Literal n line) h = refl
    layer_owned d (Tf-F.Path names line) h = path_owned d names h
    layer_owned d (Tf-F.Parens inner line) h = cc
    layer_owned d (Tf-F.Negate operand line) h = cc
    layer_owned d (Tf-F.Binary operator left right line) h = cc

    text_path_owned : (names : List Name) → is_text_field classes c names ≡ true → is_owned_path classes (Some c) names ≡ true
    text_path_owned [] h = refl
    text_path_owned (name ∷ []) h = refl
    text_path_owned (name ∷ next ∷ names) h = cc

    layer_worded : (x : Tf-F Tf) → gives_text classes c x ≡ true → owned_layer x ≡ true
    layer_worded (Tf-F.Null line) h = cc
    layer_worded (Tf-F.Literal n line) h = refl
    layer_worded (Tf-F.Path names line) h = text_path_owned names h
    layer_worded (Tf-F.Parens inner line) h = cc
    layer_worded (Tf-F.Negate operand line) h = cc
    layer_worded (Tf-F.Binary operator left right line) h = cc

    one_handed : (d : ℕ) (i : Option ℕ) → is_of_class d (option_and_then (type_at classes c) i) ≡ true → IsHanded classes c d (Some i)
    one_handed d None h = tt
    one_handed d (Some j) h = of_class d (type_at classes c j) h

    path_handed : (d : ℕ) (names : List Name) → is_field_of classes c d names ≡ true → IsHanded classes c d (handed_path classes c names)
    path_handed d [] h = cc
    path_handed d (name ∷ []) h = one_handed d (field_named classes c name.text) h
    path_handed d (name ∷ next ∷ names) h = cc

    layer_handed : (d : ℕ) (x : Tf-F Tf) → gives_reference classes c d x ≡ true → IsHanded classes c d (handed_layer x)
    layer_handed d (Tf-F.Null line) h = tt
    layer_handed d (Tf-F.Literal n line) h = cc
    layer_handed d (Tf-F.Path names line) h = path_handed d names h
    layer_handed d (Tf-F.Parens inner line) h = cc
    layer_handed d (Tf-F.Negate operand line) h = cc
    layer_handed d (Tf-F.Binary operator left right line) h = cc

    path_read : (j : ℕ) (names : List Name) → handed_path classes c names ≡ Some (Some j) → field_at_path classes c names ≡ Some j
    path_read j [] h = cc
    path_read j (name ∷ []) h = cc
    path_read j (name ∷ next ∷ names) h = cc

    layer_read : (j : ℕ) (x : Tf-F Tf) → handed_layer x ≡ Some (Some j) → field_read classes c x ≡ Some j
    layer_read j (Tf-F.Null line) h = cc
    layer_read j (Tf-F.Literal n line) h = cc
    layer_read j (Tf-F.Path names line) h = path_read j names h
    layer_read j (Tf-F.Parens inner line) h = cc
    layer_read j (Tf-F.Negate operand line) h = cc
    layer_read j (Tf-F.Binary operator left right line) h = cc

    owned_out : (t : Tf) → reads_owned classes c t ≡ owned_layer (out-Tf t)
    unfolding reads_owned
    owned_out t = fold_out-Tf Bool (owned_step classes c) t

    handed_out : (t : Tf) → handed classes c t ≡ handed_layer (out-Tf t)
    unfolding handed
    handed_out t = fold_out-Tf (Option (Option ℕ)) (handed_step classes c) t

    -- ---- a new field

    reference_given : (t : ExprType) (e : Tf) (d : ℕ) → t ≡ type.Class d → value_rules classes c t e ≡ []
        → gives_reference classes c d (out-Tf e) ≡ true
    reference_given (type.Class b) e d is h =
        let same : b ≡ d = cc in
        subst (λ n. gives_reference classes c n (out-Tf e) ≡ true) same (held _ _ _ h)
    reference_given type.Int e d is h = cc
    reference_given type.Text e d is h = cc
    reference_given type.Null e d is h = cc
    reference_given type.Untold e d is h = cc

    owned_by_type : (t : ExprType) (e : Tf) → IsDeclared t → value_rules classes c t e ≡ [] → reads_parts classes c e ≡ true
        → reads_owned classes c e ≡ true
    owned_by_type type.Int e declared h g = int_reads_owned e g (held _ _ _ h)
    owned_by_type type.Text e declared h g = owned_out e ∙ layer_worded (out-Tf e) (held _ _ _ h)
    owned_by_type (type.Class d) e declared h g = owned_out e ∙ layer_owned d (out-Tf e) (held _ _ _ h)
    owned_by_type type.Null e declared h g = absurd declared
    owned_by_type type.Untold e declared h g = absurd declared

    -- its expression reads through owned fields
    pub field_owned : (f : FieldUpgrade) → IsDeclared (type_named classes f.type_name) → field_rules classes c f ≡ []
        → reads_owned classes c f.value ≡ true
    field_owned f declared h =
        let p = nothing (value_rules classes c (type_named classes f.type_name) f.value) _ h in
        owned_by_type (type_named classes f.type_name) f.value declared p.0 (held _ _ _ p.1)

    given_by : (f : FieldUpgrade) (d : ℕ) → type_named classes f.type_name ≡ type.Class d → field_rules classes c f ≡ []
        → gives_reference classes c d (out-Tf f.value) ≡ true
    given_by f d is h =
        reference_given (type_named classes f.type_name) f.value d is (nothing (value_rules classes c (type_named classes f.type_name) f.value) _ h).0

    -- its reference is handed on
    pub field_handed : (f : FieldUpgrade) (d : ℕ) → type_named classes f.type_name ≡ type.Class d → field_rules classes c f ≡ []
        → IsHanded classes c d (handed classes c f.value)
    field_handed f d is h = subst (IsHanded classes c d) (sym (handed_out f.value)) (layer_handed d (out-Tf f.value) (given_by f d is h))

    -- a part that it takes over counts as handed over
    pub field_hands_over : (f : FieldUpgrade) (d j : ℕ) → type_named classes f.type_name ≡ type.Class d → is_part classes (type.Class d) ≡ true
        → field_rules classes c f ≡ [] → handed classes c f.value ≡ Some (Some j) → hands_over classes c f ≡ Some j
    field_hands_over f d j is part h g =
        ap (λ t. handed_as classes c t (out-Tf f.value)) is
        ∙ ap (λ b. cond b (field_read classes c (out-Tf f.value)) None) (and_from _ _ part (given_by f d is h))
        ∙ layer_read j (out-Tf f.value) (sym (handed_out f.value) ∙ g)

    -- ---- all new fields

    new_one : (earlier : List ℕ) (o : Option ℕ) (j : ℕ) → o ≡ Some j → is_new earlier o ≡ true → list_any (λ i. i == j) earlier ≡ false
    new_one earlier None j is h = cc
    new_one earlier (Some i) j is h =
        let same : i ≡ j = cc in
        subst (λ n. list_any (λ i. i == n) earlier ≡ false) same (not-true _ h)

    -- what a field takes over wasn't taken over before
    never_before : (earlier : List ℕ) (fs : List FieldUpgrade) (i : ℕ) (f : FieldUpgrade) (j : ℕ) → handed_once classes c earlier fs ≡ []
        → slice_get fs i ≡ Some f → hands_over classes c f ≡ Some j → list_any (λ i. i == j) earlier ≡ false
    never_before earlier [] i f j h is g = cc
    never_before earlier (e ∷ fs) zero f j h is g =
        let same : f ≡ e = cc in
        new_one earlier (hands_over classes c e) j (ap (hands_over classes c) (sym same) ∙ g)
        (held _ _ _ (nothing _ (handed_once classes c (earlier ++ as_list (hands_over classes c e)) fs) h).0)
    never_before earlier (e ∷ fs) (suc i) f j h is g =
        let rest = (nothing _ (handed_once classes c (earlier ++ as_list (hands_over classes c e)) fs) h).1 in
        (or_parts (list_any (λ i. i == j) earlier) _
        (sym (list_any-append (λ i. i == j) earlier (as_list (hands_over classes c e)))
        ∙ never_before (earlier ++ as_list (hands_over classes c e)) fs i f j rest is g)).0

    stands_there : (earlier : List ℕ) (o : Option ℕ) (j : ℕ) → o ≡ Some j → list_any (λ i. i == j) (earlier ++ as_list o) ≡ false → ⊥
    stands_there earlier None j is h = cc
    stands_there earlier (Some i) j is h =
        let same : i ≡ j = cc in
        let there : (i == j) ≡ true = (Decides-eqb i j).1 same in
        let away : ((i == j) || false) ≡ false = (or_parts (list_any (λ i. i == j) earlier) _ (sym (list_any-append (λ i. i == j) earlier (i ∷ [])) ∙ h)).1 in
        let gone : (i == j) ≡ false = (or_parts (i == j) false away).0 in
        cc

    -- two fields that take over the same are one
    pub taken_once : (earlier : List ℕ) (fs : List FieldUpgrade) (a b : ℕ) (f g : FieldUpgrade) (j : ℕ) → handed_once classes c earlier fs ≡ []
        → slice_get fs a ≡ Some f → slice_get fs b ≡ Some g → hands_over classes c f ≡ Some j → hands_over classes c g ≡ Some j → a ≡ b
    taken_once earlier [] a b f g j h fa gb fj gj = cc
    taken_once earlier (e ∷ fs) zero zero f g j h fa gb fj gj = refl
    taken_once earlier (e ∷ fs) zero (suc b) f g j h fa gb fj gj =
        let same : f ≡ e = cc in
        let rest = (nothing _ (handed_once classes c (earlier ++ as_list (hands_over classes c e)) fs) h).1 in
        absurd (stands_there earlier (hands_over classes c e) j (ap (hands_over classes c) (sym same) ∙ fj) (never_before _ fs b g j rest gb gj))
    taken_once earlier (e ∷ fs) (suc a) zero f g j h fa gb fj gj =
        let same : g ≡ e = cc in
        let rest = (nothing _ (handed_once classes c (earlier ++ as_list (hands_over classes c e)) fs) h).1 in
        absurd (stands_there earlier (hands_over classes c e) j (ap (hands_over classes c) (sym same) ∙ gj) (never_before _ fs a f j rest fa fj))
    taken_once earlier (e ∷ fs) (suc a) (suc b) f g j h fa gb fj gj =
        ap suc (taken_once (earlier ++ as_list (hands_over classes c e)) fs a b f g j
        (nothing _ (handed_once classes c (earlier ++ as_list (hands_over classes c e)) fs) h).1 fa gb fj gj)
