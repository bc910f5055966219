-- That the upgrades of a store which a check accepts keep its classes and ownership.
use Rattle.std.proofs.Common.{◌≡◌, ◌<◌, arith, Bool, true, false, cond, not, List, [], ◌∷◌, ◌++◌, map, ℕ, zero, suc, nat_lt, Option, Some, None, is_some, option_map, slice_get, refl, ap, sym, ◌∙◌, subst}
use Rattle.std.proofs.lemmas.List.Folds.{list_any-append}
use Rattle.std.proofs.lemmas.Option.{slice_get-map, slice_get_within}
use Rattle.std.proofs.lemmas.Bool.{lt-ltb, not-true, or_parts}
use Rattle.std.proofs.lemmas.Slice.Eq.{bytes_eq-Decides}
use Rattle.std.specs.List.{AllByRecursion, flat_map, list_any, position_or_len}
use Rattle.std.specs.Option.{option_and_then}
use Rattle.std.specs.Prelude.{◌+◌, ◌||◌, find, length}
use Rattle.std.specs.Str.{bytes_eq}
use Rattle.law_upgrade_rules.proofs.AppliedClasses.{fields_kept, fields_new, keeps_name, same_kind, same_known, same_names, same_type, step}
use Rattle.class_defs.proofs.KeptRules.{each_nothing, held, neither, none_told, nothing, type_told}
use Rattle.law_upgrade_rules.proofs.KeptFields.{field_handed, field_hands_over, field_owned, taken_once}
use Rattle.class_defs.specs.Accepted.{AllAccepted, IsAccepted}
use Rattle.class_defs.specs.Applied.{applied, class_behind, classes_behind, new_field, said_of}
use Rattle.class_defs.specs.Epochs.{classes_of, next_of, schema_of}
use Rattle.class_defs.specs.Types.{IsDeclared, class_named, fields_of, type_named}
use Rattle.class_defs.specs.KeptOwnership.{AllKeepClasses, KeepsClasses, KeepsOwnership}
use Rattle.class_defs.specs.Ownership.{IsPart}
use Rattle.class_defs.specs.Rules.{is_part, is_type, least, stand_once}
use Rattle.class_defs.specs.SchemaRules.{class_names, class_rules, classes_from, member_names, root_names, schema_rules}
use Rattle.class_defs.specs.UpgradeOrder.{breaks_outside, inside_class, inside_rules, outside_rules, over_classes, own_fault}
use Rattle.class_defs.specs.UpgradeRules.{class_upgrade_rules, field_rules, fields_rules, handed_once, named_once, upgrade_rules}
use Rattle.class_defs.specs.Upgrades.{upgrade_of}
use Rattle.class_defs.specs.declared.classes.Class.{Class}
use Rattle.class_defs.specs.declared.expressions.Name.{Name}
use Rattle.class_defs.specs.declared.rules.RuleFault.{RuleFault}
use Rattle.class_defs.specs.declared.statements.Stmt.{Stmt}
use Rattle.class_defs.specs.declared.store.Schema.{Schema}
use Rattle.class_defs.specs.declared.store.Schemas.{Schemas}
use Rattle.class_defs.specs.declared.types.ExprType.{ExprType}
use Rattle.class_defs.specs.declared.types.ExprType.TheVariants as type
use Rattle.class_defs.specs.declared.upgrades.ClassUpgrade.{ClassUpgrade}
use Rattle.class_defs.specs.declared.upgrades.FieldUpgrade.{FieldUpgrade}
use Rattle.class_defs.specs.declared.upgrades.Upgrade.{Upgrade}

-- ---- what is told

none_outside : (line : ℕ) (fs : List RuleFault) → breaks_outside line fs ≡ None → fs ≡ []
none_outside line [] h = refl
none_outside line (f ∷ fs) h = cc

-- what holds of an upgrade that breaks no rule
pub record Sound (schema : Schema) (repos : ℕ) (u : Upgrade) (items : List (List Stmt)) : Type 0 where
  pub own : upgrade_rules schema.classes u ≡ []
  pub inside : inside_rules u (applied schema u) repos ≡ []
  pub outside : outside_rules u (applied schema u) repos items ≡ []

pub sound : (schema : Schema) (repos : ℕ) (u : Upgrade) (items : List (List Stmt)) → own_fault schema repos u items ≡ None
    → Sound schema repos u items
unfolding own_fault
sound schema repos u items h =
    let p = neither (least (upgrade_rules schema.classes u)) _ h in
    let q = neither (least (inside_rules u (applied schema u) repos)) _ p.1 in
    record {
      own = none_told _ p.0;
      inside = none_told _ q.0;
      outside = none_outside u.line _ q.1;
    }

-- ---- lists

pub at_place : {A : Type 0} (P : A → Type 0) (xs : List A) (i : ℕ) (x : A) → AllByRecursion P xs → slice_get xs i ≡ Some x → P x
at_place P [] i x all is = cc
at_place P (y ∷ xs) zero x all is = let same : y ≡ x = cc in subst P same all.0
at_place P (y ∷ xs) (suc i) x all is = at_place P xs i x all.1 is

-- what is found passes the test, and is one of the list
pub record Found {A : Type 0} (P : A → Type 0) (test : A → Bool) (x : A) : Type 0 where
  pub passes : test x ≡ true
  pub one : P x

pub found : {A : Type 0} (P : A → Type 0) (test : A → Bool) (xs : List A) (x : A) → AllByRecursion P xs → find test xs ≡ Some x → Found P test x
found P test [] x all h = cc
found P test (y ∷ ys) x all h = by_test (test y) refl (found P test ys x all.1) h
  where
    by_test : (b : Bool) → test y ≡ b → (find test ys ≡ Some x → Found P test x) → cond b (Some y) (find test ys) ≡ Some x → Found P test x
    by_test true is rest h = let same : y ≡ x = cc in record { passes = ap test (sym same) ∙ is; one = subst P same all.0 }
    by_test false is rest h = rest h

-- ---- a class by its name

-- the name of a class behind others isn't one of theirs
apart : (earlier : List Name) (ds : List Class) (c : ℕ) (d : Class) → stand_once earlier (map (λ x. x.name) ds) ≡ [] → slice_get ds c ≡ Some d
    → list_any (λ m. bytes_eq m.text d.name.text) earlier ≡ false
apart earlier [] c d h is = cc
apart earlier (x ∷ ds) zero d h is =
    let same : x ≡ d = cc in
    subst (λ (y : Class). list_any (λ m. bytes_eq m.text y.name.text) earlier ≡ false) same
    (not-true _ (held _ _ _ (nothing _ (stand_once (earlier ++ x.name ∷ []) (map (λ x. x.name) ds)) h).0))
apart earlier (x ∷ ds) (suc c) d h is =
    (or_parts (list_any (λ m. bytes_eq m.text d.name.text) earlier) _
    (sym (list_any-append (λ m. bytes_eq m.text d.name.text) earlier (x.name ∷ []))
    ∙ apart (earlier ++ x.name ∷ []) ds c d (nothing _ (stand_once (earlier ++ x.name ∷ []) (map (λ x. x.name) ds)) h).1 is)).0

place_of : (earlier : List Name) (ds : List Class) (c : ℕ) (d : Class) → stand_once earlier (map (λ x. x.name) ds) ≡ [] → slice_get ds c ≡ Some d
    → position_or_len (λ x. bytes_eq x.name.text d.name.text) ds ≡ c
place_of earlier [] c d h is = cc
place_of earlier (x ∷ ds) zero d h is =
    let same : x ≡ d = cc in
    let is_it : bytes_eq x.name.text d.name.text ≡ true = (bytes_eq-Decides x.name.text d.name.text).1 (ap (λ (y : Class). y.name.text) same) in
    ap (λ b. cond (not b) (1 + position_or_len (λ (y : Class). bytes_eq y.name.text d.name.text) ds) 0) is_it
place_of earlier (x ∷ ds) (suc c) d h is =
    let rest = (nothing _ (stand_once (earlier ++ x.name ∷ []) (map (λ x. x.name) ds)) h).1 in
    let away : (bytes_eq x.name.text d.name.text || false) ≡ false =
    (or_parts (list_any (λ m. bytes_eq m.text d.name.text) earlier) _
    (sym (list_any-append (λ m. bytes_eq m.text d.name.text) earlier (x.name ∷ [])) ∙ apart (earlier ++ x.name ∷ []) ds c d rest is)).1 in
    let other : bytes_eq x.name.text d.name.text ≡ false = (or_parts _ false away).0 in
    ap (λ b. cond (not b) (1 + position_or_len (λ (y : Class). bytes_eq y.name.text d.name.text) ds) 0) other
    ∙ ap (λ i. 1 + i) (place_of (earlier ++ x.name ∷ []) ds c d rest is) ∙ one_more c
  where
    one_more : (n : ℕ) → 1 + n ≡ suc n
    one_more n = omega arith

-- where names stand once, a class is found by its name
pub class_at : (ds : List Class) (c : ℕ) (d : Class) (n : List ℕ) → stand_once [] (map (λ x. x.name) ds) ≡ [] → slice_get ds c ≡ Some d
    → n ≡ d.name.text → class_named ds n ≡ Some c
class_at ds c d n h is same =
    ap (class_named ds) same
    ∙ ap (λ i. cond (nat_lt i (length ds)) (Some i) None) (place_of [] ds c d h is)
    ∙ ap (λ b. cond b (Some c) None) (lt-ltb c (length ds) (slice_get_within ds c d is))

-- ---- what an upgrade says of a class

-- the rules on the new fields of one class
pub record FieldsSound (classes : List Class) (c : ℕ) (k : ClassUpgrade) : Type 0 where
  pub each : AllByRecursion (λ f. field_rules classes c f ≡ []) k.fields
  pub once : handed_once classes c [] k.fields ≡ []

fields_sound : (classes : List Class) (c : ℕ) (k : ClassUpgrade) (o : Option ℕ) → o ≡ Some c → fields_rules classes o k.fields ≡ []
    → FieldsSound classes c k
fields_sound classes c k None is h = cc
fields_sound classes c k (Some b) is h =
    let same : b ≡ c = cc in
    let p = nothing (flat_map (field_rules classes c) k.fields) _ (subst (λ n. fields_rules classes (Some n) k.fields ≡ []) same h) in
    record { each = each_nothing _ k.fields p.0; once = p.1 }

-- what an accepted upgrade says of a class breaks no rule there
pub said_sound : (classes : List Class) (u : Upgrade) (c : ℕ) (d : Class) (k : ClassUpgrade) → upgrade_rules classes u ≡ []
    → stand_once [] (map (λ x. x.name) classes) ≡ [] → slice_get classes c ≡ Some d → said_of u d ≡ Some k → FieldsSound classes c k
unfolding upgrade_rules
said_sound classes u c d k h once is said =
    let p = nothing (named_once classes [] (map (λ k. k.name) u.classes)) _ h in
    let f = found (λ k. class_upgrade_rules classes k ≡ []) (λ k. bytes_eq k.name.text d.name.text) u.classes k (each_nothing _ u.classes p.1) said in
    fields_sound classes c k (class_named classes k.name.text)
    (class_at classes c d k.name.text once is ((bytes_eq-Decides k.name.text d.name.text).0 f.passes)) f.one

-- ---- the classes behind it

-- what rules say of classes they say of each
pub over_at : (rules : ℕ → Class → List RuleFault) (n : ℕ) (ds : List Class) (c : ℕ) (d : Class) → over_classes rules n ds ≡ []
    → slice_get ds c ≡ Some d
    → rules (n + c) d ≡ []
over_at rules n [] c d h is = cc
over_at rules n (x ∷ ds) zero d h is =
    let same : x ≡ d = cc in
    let none : n ≡ n + 0 = omega arith in
    subst (λ i. rules i d ≡ []) none (subst (λ y. rules n y ≡ []) same (nothing (rules n x) _ h).0)
over_at rules n (x ∷ ds) (suc c) d h is =
    let more : (n + 1) + c ≡ n + suc c = omega arith in
    subst (λ i. rules i d ≡ []) more (over_at rules (n + 1) ds c d (nothing (rules n x) _ h).1 is)

abbrev says_of : Upgrade → Name → Option ClassUpgrade
says_of u n = find (λ k. bytes_eq k.name.text n.text) u.classes

-- the class behind the upgrade breaks no rule T, where it is named
inside_at : (schema : Schema) (repos : ℕ) (u : Upgrade) (c : ℕ) (d : Class) (k : ClassUpgrade) → inside_rules u (applied schema u) repos ≡ []
    → slice_get schema.classes c ≡ Some d → said_of u d ≡ Some k → class_rules (applied schema u) repos (0 + c) (class_behind d (Some k)) ≡ []
unfolding inside_rules applied
inside_at schema repos u c d k h is said =
    let there : slice_get (classes_behind u schema.classes) c ≡ Some (step u d) = slice_get-map (step u) schema.classes c ∙ ap (option_map (step u)) is in
    let behind : step u d ≡ class_behind d (Some k) = ap (class_behind d) said in
    let named : says_of u (step u d).name ≡ Some k = ap (says_of u) (keeps_name d (said_of u d)) ∙ said in
    let p = over_at (inside_class u (applied schema u) repos) 0 (classes_behind u schema.classes) c (step u d) h there in
    subst (λ y. class_rules (applied schema u) repos (0 + c) y ≡ []) behind
    (subst (λ o. cond (is_some o) (class_rules (applied schema u) repos (0 + c) (step u d)) [] ≡ []) named p)

declared_fields : (schema : Schema) (repos c : ℕ) (d : Class) → class_rules schema repos c d ≡ []
    → AllByRecursion (λ f. is_type schema.classes f.type_name ≡ []) d.fields
unfolding class_rules
declared_fields schema repos c d h =
    let fields = flat_map (λ f. is_type schema.classes f.type_name) d.fields in
    let p = nothing (member_names d ++ fields) _ h in
    each_nothing _ d.fields (nothing (member_names d) fields p.0).1

-- the types of the new fields are declared
pub declared_at : (schema : Schema) (repos : ℕ) (u : Upgrade) (c : ℕ) (d : Class) (k : ClassUpgrade) → inside_rules u (applied schema u) repos ≡ []
    → slice_get schema.classes c ≡ Some d → said_of u d ≡ Some k → (i : ℕ) (f : FieldUpgrade) → slice_get k.fields i ≡ Some f
    → IsDeclared (type_named schema.classes f.type_name)
unfolding applied
declared_at schema repos u c d k h is said i f at =
    let all = declared_fields (applied schema u) repos (0 + c) (class_behind d (Some k)) (inside_at schema repos u c d k h is said) in
    let there : slice_get (map new_field k.fields) i ≡ Some (new_field f) = slice_get-map new_field k.fields i ∙ ap (option_map new_field) at in
    let told = type_told (classes_behind u schema.classes) f.type_name
    (at_place (λ g. is_type (classes_behind u schema.classes) g.type_name ≡ []) (map new_field k.fields) i (new_field f) all there) in
    subst IsDeclared (same_type u f.type_name schema.classes) told

same_types : (fs : List FieldUpgrade) → map (λ f. f.type_name) (map new_field fs) ≡ map (λ f. f.type_name) fs
same_types [] = refl
same_types (f ∷ fs) = ap (λ ts. f.type_name ∷ ts) (same_types fs)

-- ---- one upgrade

module _ (s : Schemas) (schema : Schema) (repos : ℕ) (u : Upgrade) (items : List (List Stmt)) (fine : Sound schema repos u items)
    (once : stand_once [] (map (λ x. x.name) schema.classes) ≡ [])
    (kinds : (t : ExprType) → is_part schema.classes t ≡ is_part (classes_of s 0) t) where
  abbrev old : List Class
  old = schema.classes

  abbrev new : List Class
  new = classes_behind u old

  said_keeps : (c : ℕ) (d : Class) (k : ClassUpgrade) → slice_get old c ≡ Some d → said_of u d ≡ Some k → KeepsOwnership s old new c k
  said_keeps c d k is said =
      let all = said_sound old u c d k fine.own once is said in
      let rule : (i : ℕ) (f : FieldUpgrade) → slice_get k.fields i ≡ Some f → field_rules old c f ≡ [] =
      λ i f at. at_place (λ f. field_rules old c f ≡ []) k.fields i f all.each at in
      let before : (f : FieldUpgrade) (e : ℕ) → type_named new f.type_name ≡ type.Class e → type_named old f.type_name ≡ type.Class e =
      λ f e t. sym (same_type u f.type_name old) ∙ t in
      let part : (e : ℕ) → IsPart s e → is_part old (type.Class e) ≡ true = λ e p. kinds (type.Class e) ∙ p in
      record {
        fields = ap (map (λ f. f.type_name)) (fields_new u c old d k is said) ∙ same_types k.fields;
        paths = λ i f at. field_owned old c f (declared_at schema repos u c d k fine.inside is said i f at) (rule i f at);
        references = λ i e f at t. field_handed old c f e (before f e t) (rule i f at);
        once = λ i j e b h f g at bt t p r q hf hg. taken_once old c [] k.fields i j f g h all.once at bt
            (field_hands_over old c f e h (before f e t) (part e p) (rule i f at) hf)
            (field_hands_over old c g b h (before g b r) (part b q) (rule j g bt) hg);
      }

  named_keeps : (c : ℕ) (k : ClassUpgrade) (o : Option Class) → slice_get old c ≡ o → option_and_then (said_of u) o ≡ Some k
      → KeepsOwnership s old new c k
  named_keeps c k None is h = cc
  named_keeps c k (Some d) is h = said_keeps c d k is h

-- ---- the upgrades of a store

-- an epoch whose classes have names of their own, and the kinds of the first epoch
pub record IsAsFirst (s : Schemas) (k : ℕ) : Type 0 where
  pub once : stand_once [] (map (λ x. x.name) (classes_of s k)) ≡ []
  pub kinds : (t : ExprType) → is_part (classes_of s k) t ≡ is_part (classes_of s 0) t

module _ (s : Schemas) (repos : ℕ) (items : List (List Stmt)) (k : ℕ) (accepted : IsAccepted s repos items k) where
  abbrev u : Upgrade
  u = accepted.upgrade

  pub behind : classes_of s (suc k) ≡ classes_behind u (classes_of s k)
  unfolding applied
  behind = ap (λ (a : Schema). a.classes) accepted.behind

  -- what the upgrade says of a class
  pub next_is : (c : ℕ) → next_of s k c ≡ option_and_then (said_of u) (slice_get (classes_of s k) c)
  next_is c = ap (λ o. option_and_then (λ v. upgrade_of (classes_of s k) v c) o) accepted.leads

  next_as_first : IsAsFirst s k → IsAsFirst s (suc k)
  next_as_first h = record {
    once = ap (λ (cs : List Class). stand_once [] (map (λ x. x.name) cs)) behind ∙ ap (stand_once []) (same_names u (classes_of s k)) ∙ h.once;
    kinds = λ t. ap (λ cs. is_part cs t) behind ∙ same_kind u t (classes_of s k) ∙ h.kinds t;
  }

  keeps_classes : IsAsFirst s k → KeepsClasses s k
  keeps_classes h =
      let fine = sound (schema_of s k) repos u items accepted.keeps in
      record {
        types = λ t. ap (λ cs. type_named cs t) behind ∙ same_type u t (classes_of s k);
        known = λ c. ap (λ (cs : List Class). is_some (slice_get cs c)) behind ∙ same_known u c (classes_of s k);
        kinds = λ t. ap (λ cs. is_part cs t) behind ∙ same_kind u t (classes_of s k);
        others = λ c none. ap (λ cs. fields_of cs c) behind ∙ fields_kept u c (classes_of s k) (sym (next_is c) ∙ none);
        named = λ c w is. subst (λ cs. KeepsOwnership s (classes_of s k) cs c w) (sym behind)
            (named_keeps s (schema_of s k) repos u items fine h.once h.kinds c w (slice_get (classes_of s k) c) refl (sym (next_is c) ∙ is));
      }

module _ (s : Schemas) (repos : ℕ) (items : List (List Stmt)) (e : ℕ) (first : schema_rules s.first repos ≡ []) (all : AllAccepted s repos items e) where
  names_once : stand_once [] (map (λ x. x.name) (classes_of s 0)) ≡ []
  unfolding schema_rules
  names_once =
      let classes = classes_from s.first repos 0 s.first.classes in
      let p = nothing (class_names s.first ++ root_names s.first ++ classes) _ first in
      let r = nothing (class_names s.first ++ root_names s.first) classes p.0 in
      (nothing (class_names s.first) (root_names s.first) r.0).0

  pub as_first : (k : ℕ) → k < suc e → IsAsFirst s k
  as_first zero h = record { once = names_once; kinds = λ t. refl }
  as_first (suc k) h = next_as_first s repos items k (all k (omega (arith, h))) (as_first k (omega (arith, h)))

  pub all_keep : AllKeepClasses s e
  all_keep k h = keeps_classes s repos items k (all k h) (as_first k (omega (arith, h)))
