-- What a text that breaks no rule says of its parts.
use Rattle.std.proofs.Common.{◌≡◌, arith, Bool, true, false, cond, if◌then◌else◌, List, [], ◌∷◌, ◌++◌, Option, Some, None, refl, sym, subst, ◌∙◌, ◌⊎◌, inl, inr, ℕ, zero, suc}
use Rattle.std.proofs.lemmas.List.Folds.{find_at}
use Rattle.std.proofs.lemmas.Option.{slice_get_within}
use Rattle.std.specs.List.{AllByRecursion, flat_map, position_or_len}
use Rattle.std.specs.Prelude.{◌+◌, ◌<◌, codes, find, is_some, nat_lt, not, position, slice_get}
use Rattle.std.specs.Str.{bytes_eq}
use Rattle.class_defs.specs.Types.{IsDeclared, class_named, class_or_untold, class_or_word, type_named}
use Rattle.class_defs.specs.Objects.{first_of}
use Rattle.class_defs.specs.Rules.{least, least_with, must, told_before, is_told, is_type, is_free_type, is_part, is_root_class, is_root_type}
use Rattle.class_defs.specs.SchemaRules.{schema_rules, class_rules, classes_from, method_rules, body_rules, class_names, root_names, root_rules, member_names, body_names, method_types}
use Rattle.class_defs.specs.declared.classes.Class.{Class}
use Rattle.class_defs.specs.declared.classes.Method.{Method}
use Rattle.class_defs.specs.declared.expressions.TypeName.{TypeName}
use Rattle.class_defs.specs.declared.expressions.TypeName.TheVariants as type_name
use Rattle.class_defs.specs.declared.expressions.Name.{Name}
use Rattle.class_defs.specs.declared.types.ExprType.TheVariants as type
use Rattle.class_defs.specs.declared.rules.Rule.{Rule}
use Rattle.class_defs.specs.declared.rules.Rule.TheVariants.{T5}
use Rattle.class_defs.specs.declared.rules.RuleFault.{RuleFault}
use Rattle.class_defs.specs.declared.store.Schema.{Schema}

-- ---- lists of faults

pub nothing : {A : Type 0} (xs ys : List A) → (xs ++ ys) ≡ [] → (xs ≡ []) × (ys ≡ [])
nothing [] ys h = (refl, h)
nothing (x ∷ xs) ys h = cc

pub held : (b : Bool) (rule : Rule) (line : ℕ) → must b rule line ≡ [] → b ≡ true
held true rule line h = refl
held false rule line h = cc

pub each_nothing : {A B : Type 0} (f : A → List B) (xs : List A) → flat_map f xs ≡ [] → AllByRecursion (λ x. f x ≡ []) xs
each_nothing f [] h = tt
each_nothing f (x ∷ xs) h = let p = nothing (f x) (flat_map f xs) h in (p.0, each_nothing f xs p.1)

stays : (fs : List RuleFault) (g : RuleFault) → least_with (Some g) fs ≡ None → ⊥
stays [] g h = cc
stays (f ∷ fs) g h = elim (told_before f g) as (λ b. least_with (if b then Some f else Some g) fs ≡ None → ⊥) [ true ↦ stays fs f | false ↦ stays fs g ] h

-- where no fault is told there is none
pub none_told : (fs : List RuleFault) → least fs ≡ None → fs ≡ []
none_told [] h = refl
none_told (f ∷ fs) h = absurd (stays fs f h)

-- where nothing is told of the one nor of the other
pub neither : {A : Type 0} (a b : Option A) → first_of a b ≡ None → (a ≡ None) × (b ≡ None)
neither None b h = (refl, h)
neither (Some x) b h = cc

-- ---- what is found in a list

picked : {A : Type 0} (b : Bool) (y x : A) (o : Option A) → cond b (Some y) o ≡ Some x → (y ≡ x) ⊎ (o ≡ Some x)
picked true y x o h = inl cc
picked false y x o h = inr h

pub found : {A : Type 0} (P : A → Type 0) (test : A → Bool) (xs : List A) (x : A) → AllByRecursion P xs → find test xs ≡ Some x → P x
found P test [] x all h = cc
found P test (y ∷ ys) x all h = elim (picked (test y) y x (find test ys) h) [ inl e ↦ subst P e all.0 | inr r ↦ found P test ys x all.1 r ]

below : (a b : ℕ) → a < b → nat_lt a b ≡ true
below a b h = grind (arith)

-- what is found stands at the place that is told
pub place_found : {A : Type 0} (test : A → Bool) (xs : List A) (x : A) → find test xs ≡ Some x
    → (position test xs ≡ Some (position_or_len test xs)) × (slice_get xs (position_or_len test xs) ≡ Some x)
place_found test xs x h =
    let at = sym (find_at test xs) ∙ h in
    let within = below _ _ (slice_get_within xs (position_or_len test xs) x at) in
    (rw within refl, at)

pub there : {A : Type 0} (o : Option A) → is_some o ≡ true → (x : A) × (o ≡ Some x)
there (Some x) h = (x, refl)
there None h = cc

-- ---- types

pub class_told : (o : Option ℕ) → is_some o ≡ true → IsDeclared (class_or_untold o)
class_told (Some c) h = tt
class_told None h = cc

-- a word that names a type
word_told : (word : List ℕ) (o : Option ℕ) → is_told (class_or_word word o) ≡ true → IsDeclared (class_or_word word o)
word_told word (Some c) h = tt
word_told word None h = by (bytes_eq word (codes "text")) h
  where
    by : (b : Bool) → is_told (cond b type.Text type.Untold) ≡ true → IsDeclared (cond b type.Text type.Untold)
    by true h = tt
    by false h = cc

pub free_is_type : (classes : List Class) (t : TypeName) → is_free_type classes t ≡ [] → is_type classes t ≡ []
free_is_type classes (type_name.Int line) h = refl
free_is_type classes (type_name.Class name) h = (nothing (is_type classes (type_name.Class name)) _ h).0

pub type_told : (classes : List Class) (t : TypeName) → is_type classes t ≡ [] → IsDeclared (type_named classes t)
type_told classes (type_name.Int line) h = tt
type_told classes (type_name.Class name) h = word_told name.text (class_named classes name.text) (held _ _ _ h)

told_not : (b : Bool) → not b ≡ true → b ≡ false
told_not true h = cc
told_not false h = refl

no_false : {A : Type 0} → false ≡ true → A
no_false h = cc

-- a root that breaks no rule is of a class, and of no part class
pub root_free : (classes : List Class) (n : Name) → is_root_class classes n ≡ [] → (c : ℕ) × (class_named classes n.text ≡ Some c) × (is_part classes (type.Class c) ≡ false)
root_free classes n h =
    let p = nothing (is_type classes (type_name.Class n)) (must (is_root_type classes (type_named classes (type_name.Class n))) T5 n.line) h in
    by (class_named classes n.text) refl (held _ _ _ p.0) (held _ _ _ p.1)
  where
    by_word : {A : Type 0} (b : Bool) → is_told (cond b type.Text type.Untold) ≡ true → is_root_type classes (cond b type.Text type.Untold) ≡ true → A
    by_word true told free = no_false free
    by_word false told free = no_false told

    by : (o : Option ℕ) → class_named classes n.text ≡ o → is_told (class_or_word n.text o) ≡ true → is_root_type classes (class_or_word n.text o) ≡ true
        → (c : ℕ) × (class_named classes n.text ≡ Some c) × (is_part classes (type.Class c) ≡ false)
    by (Some c) is told free = (c, is, told_not _ free)
    by None is told free = by_word (bytes_eq n.text (codes "text")) told free

-- ---- classes and methods

pub record MethodSound (schema : Schema) (repos c : ℕ) (m : Method) : Type 0 where
  pub result : is_free_type schema.classes m.result ≡ []
  pub parameters : AllByRecursion (λ p. is_free_type schema.classes p.type_name ≡ []) m.parameters
  pub body : body_rules schema repos c m ≡ []

pub method_sound : (schema : Schema) (repos c : ℕ) (m : Method) → method_rules schema repos c m ≡ [] → MethodSound schema repos c m
unfolding method_rules
method_sound schema repos c m h =
    let p = nothing (method_types schema.classes m ++ body_names m) (body_rules schema repos c m) h in
    let r = nothing (method_types schema.classes m) (body_names m) p.0 in
    let q = nothing (is_free_type schema.classes m.result) (flat_map (λ p. is_free_type schema.classes p.type_name) m.parameters) r.0 in
    record { result = q.0; parameters = each_nothing _ m.parameters q.1; body = p.1 }

pub record ClassSound (schema : Schema) (repos c : ℕ) (d : Class) : Type 0 where
  pub fields : AllByRecursion (λ f. is_type schema.classes f.type_name ≡ []) d.fields
  pub methods : AllByRecursion (λ m. method_rules schema repos c m ≡ []) d.methods

class_sound : (schema : Schema) (repos c : ℕ) (d : Class) → class_rules schema repos c d ≡ [] → ClassSound schema repos c d
unfolding class_rules
class_sound schema repos c d h =
    let fields = flat_map (λ f. is_type schema.classes f.type_name) d.fields in
    let methods = flat_map (method_rules schema repos c) d.methods in
    let p = nothing (member_names d ++ fields) methods h in
    let q = nothing (member_names d) fields p.0 in
    record { fields = each_nothing _ d.fields q.1; methods = each_nothing _ d.methods p.1 }

classes_sound : (schema : Schema) (repos : ℕ) (ds : List Class) (n i : ℕ) (d : Class) → classes_from schema repos n ds ≡ []
    → slice_get ds i ≡ Some d → ClassSound schema repos (n + i) d
classes_sound schema repos [] n i d h is = cc
classes_sound schema repos (e ∷ es) n zero d h is =
    let p : e ≡ d = cc in
    let q : n ≡ n + 0 = omega arith in
    subst (λ k. ClassSound schema repos k d) q (class_sound schema repos n d
    (subst (λ k. class_rules schema repos n k ≡ []) p (nothing (class_rules schema repos n e) _ h).0))
classes_sound schema repos (e ∷ es) n (suc i) d h is =
    let q : (n + 1) + i ≡ n + suc i = omega arith in
    subst (λ k. ClassSound schema repos k d) q (classes_sound schema repos es (n + 1) i d (nothing (class_rules schema repos n e) _ h).1 is)

-- a class of a schema that breaks no rule
pub schema_sound : (schema : Schema) (repos : ℕ) → schema_rules schema repos ≡ [] → (c : ℕ) (d : Class) → slice_get schema.classes c ≡ Some d
    → ClassSound schema repos c d
unfolding schema_rules
schema_sound schema repos h c d is =
    let classes = classes_from schema repos 0 schema.classes in
    let roots = flat_map (root_rules schema.classes repos) schema.roots in
    let p = nothing (class_names schema ++ root_names schema ++ classes) roots h in
    let r = nothing (class_names schema ++ root_names schema) classes p.0 in
    let z : 0 + c ≡ c = omega arith in
    subst (λ k. ClassSound schema repos k d) z (classes_sound schema repos schema.classes 0 c d r.1 is)
