-- That the store with which a fresh store opens fits the schema of a setup that breaks no rule.
use Rattle.std.proofs.Common.{◌≡◌, ◌≤◌, ◌<◌, arith, Bool, true, false, cond, List, [], ◌∷◌, ◌++◌, Option, Some, unwrap_or, refl, ap, sym, ◌∙◌, subst, ℕ, length, map}
use Rattle.std.proofs.Math.Nat.{div-add-mod}
use Rattle.std.proofs.lemmas.Bool.Decides.{nat_tests}
use Rattle.std.proofs.lemmas.List.Elements.{filter-append}
use Rattle.std.proofs.lemmas.List.{length-append}
use Rattle.std.proofs.lemmas.Option.{same_Some}
use Rattle.std.specs.List.{AllByRecursion, filter, flat_map}
use Rattle.std.specs.Prelude.{◌+◌, ◌*◌, ◌/◌, ◌%◌, ◌==◌, is_some, slice_get}
use Rattle.std.specs.Str.{bytes_eq}
use Rattle.thor_value.proofs.FiniteMap.{get-insert}
use Rattle.thor_value.proofs.NameOrders.{oref_total}
use Rattle.thor_value.specs.FiniteMap.{Map, empty, get, insert, overwrite}
use Rattle.thor_value.specs.Names.{oref_cmp, same_oref}
use Rattle.thor_value.specs.declared.names.Oref.{Oref}
use Rattle.class_defs.proofs.SameNames.{same_itself, one_name}
use Rattle.law_type_soundness.proofs.FitNames.{stands_there}
use Rattle.law_type_soundness.proofs.FitObjects.{begin_fields, fields_told}
use Rattle.class_defs.proofs.KeptRules.{each_nothing, nothing, root_free, schema_sound, there}
use Rattle.law_type_soundness.specs.Fits.{ObjectFits, RootFits, StoreFits}
use Rattle.class_defs.specs.Rules.{is_root_class}
use Rattle.class_defs.specs.SchemaRules.{class_names, classes_from, root_names, root_rules, schema_rules}
use Rattle.class_defs.specs.Steps.{beginning}
use Rattle.class_defs.specs.Types.{class_named, fields_of, type_named}
use Rattle.class_defs.specs.declared.classes.Class.{Class}
use Rattle.class_defs.specs.declared.declarations.Declarations.{Declarations}
use Rattle.class_defs.specs.declared.declarations.WrittenRoot.{WrittenRoot}
use Rattle.class_defs.specs.declared.store.Object.{Object}
use Rattle.class_defs.specs.declared.store.RootDeclaration.{RootDeclaration}
use Rattle.class_defs.specs.declared.store.Schema.{Schema}
use Rattle.script_check.specs.Opened.{class_of, count_in, home_of, opened, placed, placed_behind, root_name, root_object, schema_of}

-- ---- the objects that stand in a map which was filled

filled_by : (P : Oref → Object → Type 0) (x y : Oref) (v o : Object) (old : Option Object) (b : Bool) → same_oref y x ≡ b → P x v
    → (old ≡ Some o → P y o) → cond b (Some v) old ≡ Some o → P y o
filled_by P x y v o old true same p h is = subst (λ z. P z o) (sym (one_name y x true same refl)) (subst (P x) (same_Some v o is) p)
filled_by P x y v o old false same p h is = h is

pub all_filled : (P : Oref → Object → Type 0) (kvs : List (Oref × Object)) → AllByRecursion (λ (kv : Oref × Object). P kv.0 kv.1) kvs
    → (m : Map oref_cmp Object) → ((x : Oref) (o : Object) → get m x ≡ Some o → P x o)
    → (x : Oref) (o : Object) → get (overwrite m kvs) x ≡ Some o → P x o
all_filled P [] all m h x o is = h x o is
all_filled P (kv ∷ kvs) all m h x o is =
    all_filled P kvs all.1 (insert m kv.0 kv.1)
    (λ y p at. filled_by P kv.0 y kv.1 p (get m y) (same_oref y kv.0) refl all.0 (h y p) (sym (get-insert oref_total m kv.0 kv.1 y) ∙ at)) x o is

-- ---- the places of roots

-- where a name stands in its repository
abbrev place : Oref → ℕ
place x = x.page * 12 + x.slot

place_root : (home n : ℕ) → place (root_name home n) ≡ n
place_root home n = let e : 12 * (n / 12) + n % 12 ≡ n = div-add-mod n 12 in omega (arith, e)

differ : (x y : Oref) → (x ≡ y → ⊥) → same_oref x y ≡ false
differ x y other = by (same_oref x y) refl
  where
    by : (b : Bool) → same_oref x y ≡ b → same_oref x y ≡ false
    by true e = absurd (other (one_name x y true e refl))
    by false e = e

-- of two roots with one home the later one has the greater number
counted : (home : ℕ) (before : List WrittenRoot) (r : WrittenRoot) (b : Bool) → (home_of r == home) ≡ b → count_in home (before ++ r ∷ []) ≡ count_in home before + cond b 1 0
counted home before r b e =
    ap length (filter-append (λ s. home_of s == home) before (r ∷ []))
    ∙ length-append (filter (λ s. home_of s == home) before) (filter (λ s. home_of s == home) (r ∷ []))
    ∙ ap (λ n. count_in home before + n) (ap (λ c. length (cond c (r ∷ []) [])) e ∙ one b)
  where
    one : (c : Bool) → length (cond c (r ∷ []) []) ≡ cond c 1 0
    one true = refl
    one false = refl

more : (home : ℕ) (before : List WrittenRoot) (r : WrittenRoot) → count_in home before ≤ count_in home (before ++ r ∷ [])
more home before r = let e = counted home before r (home_of r == home) refl in omega (arith, e)

one_more : (before : List WrittenRoot) (r : WrittenRoot) → count_in (home_of r) before < count_in (home_of r) (before ++ r ∷ [])
one_more before r = let e = counted (home_of r) before r true (grind (arith, nat_tests)) in omega (arith, e)

-- ---- the object of each root is there

-- two names of roots are one only where home and number are
roots_apart : (h k g n : ℕ) → (h ≡ g → k ≡ n → ⊥) → same_oref (root_name h k) (root_name g n) ≡ false
roots_apart h k g n other =
    differ (root_name h k) (root_name g n) (λ e. other (ap (λ (x : Oref). x.repo) e) (sym (place_root h k) ∙ ap place e ∙ place_root g n))

module _ (schema : Schema) where
  untouched : (home k : ℕ) (before rs : List WrittenRoot) (m : Map oref_cmp Object) → k < count_in home before
      → get (overwrite m (map (root_object schema) (placed_behind before rs))) (root_name home k) ≡ get m (root_name home k)
  untouched home k before [] m less = refl
  untouched home k before (r ∷ rs) m less =
      let o = root_object schema (placed before r) in
      let name = root_name (home_of r) (count_in (home_of r) before) in
      let far : same_oref (root_name home k) name ≡ false = roots_apart home k (home_of r) (count_in (home_of r) before) (λ h e. let f : count_in home before ≡ count_in (home_of r) before = ap (λ g. count_in g before) h in omega (arith, less, e, f)) in
      untouched home k (before ++ r ∷ []) rs (insert m name o.1) (let e = more home before r in omega (arith, less, e))
      ∙ get-insert oref_total m name o.1 (root_name home k)
      ∙ ap (λ b. cond b (Some o.1) (get m (root_name home k))) far

  abbrev pub IsThere : Map oref_cmp Object → RootDeclaration → Type 0
  IsThere objects r = get objects r.oref ≡ Some (root_object schema r).1

  pub roots_there : (before rs : List WrittenRoot) (m : Map oref_cmp Object)
      → AllByRecursion (IsThere (overwrite m (map (root_object schema) (placed_behind before rs)))) (placed_behind before rs)
  roots_there before [] m = tt
  roots_there before (r ∷ rs) m =
      let o = root_object schema (placed before r) in
      let name = root_name (home_of r) (count_in (home_of r) before) in (
        untouched (home_of r) (count_in (home_of r) before) (before ++ r ∷ []) rs (insert m name o.1) (one_more before r)
            ∙ get-insert oref_total m name o.1 name
            ∙ ap (λ b. cond b (Some o.1) (get m name)) (same_itself name),
        roots_there (before ++ r ∷ []) rs (insert m name o.1),
      )

-- ---- the object of a root fits

-- the class of a root is there
pub record Classed (schema : Schema) (r : RootDeclaration) : Type 0 where
  pub class : ℕ
  pub named : class_named schema.classes r.class.text ≡ Some class
  pub stands : is_some (slice_get schema.classes class) ≡ true

pub root_classed : (schema : Schema) (repos : ℕ) (r : RootDeclaration) → root_rules schema.classes repos r ≡ [] → Classed schema r
root_classed schema repos r h =
    let c = root_free schema.classes r.class (nothing (is_root_class schema.classes r.class) _ h).0 in
    record { class = c.0; named = c.1; stands = stands_there (λ (d : Class). bytes_eq d.name.text r.class.text) schema.classes c.0 c.1 }

module _ (schema : Schema) (repos : ℕ) (sound : schema_rules schema repos ≡ []) (objects : Oref → Option Object) where
  begun_fits : (c : ℕ) → is_some (slice_get schema.classes c) ≡ true
      → ObjectFits objects schema.classes (record {
        class = c;
        fields = map (λ f. beginning (type_named schema.classes f.type_name)) (fields_of schema.classes c);
      })
  begun_fits c stands =
      let d = there (slice_get schema.classes c) stands in
      record {
        class = stands;
        fields = begin_fields schema repos (schema_sound schema repos sound) objects (fields_of schema.classes c)
            (fields_told schema repos (schema_sound schema repos sound) c d.0 d.1);
      }

  root_owed : (r : RootDeclaration) → root_rules schema.classes repos r ≡ [] → ObjectFits objects schema.classes (root_object schema r).1
  root_owed r h =
      let c = root_classed schema repos r h in
      begun_fits (class_of schema r) (rw c.named c.stands)

  roots_owed : (rs : List RootDeclaration) → AllByRecursion (λ r. root_rules schema.classes repos r ≡ []) rs
      → AllByRecursion (λ (kv : Oref × Object). ObjectFits objects schema.classes kv.1) (map (root_object schema) rs)
  roots_owed [] h = tt
  roots_owed (r ∷ rs) h = (root_owed r h.0, roots_owed rs h.1)

root_fits : (schema : Schema) (repos : ℕ) (objects : Map oref_cmp Object) (r : RootDeclaration) → root_rules schema.classes repos r ≡ [] → IsThere schema objects r
    → RootFits (get objects) schema.classes r
root_fits schema repos objects r h at =
    let c = root_classed schema repos r h in
    rw (c.named, at) (ap (λ o. Some (unwrap_or o 0)) c.named)

roots_fit : (schema : Schema) (repos : ℕ) (objects : Map oref_cmp Object) (rs : List RootDeclaration)
    → AllByRecursion (λ r. root_rules schema.classes repos r ≡ []) rs
    → AllByRecursion (IsThere schema objects) rs
    → AllByRecursion (RootFits (get objects) schema.classes) rs
roots_fit schema repos objects [] h at = tt
roots_fit schema repos objects (r ∷ rs) h at = (root_fits schema repos objects r h.0 at.0, roots_fit schema repos objects rs h.1 at.1)

-- ---- the opened store

pub roots_rules : (schema : Schema) (repos : ℕ) → schema_rules schema repos ≡ [] → AllByRecursion (λ r. root_rules schema.classes repos r ≡ []) schema.roots
unfolding schema_rules
roots_rules schema repos sound =
    each_nothing (root_rules schema.classes repos) schema.roots
    (nothing (class_names schema ++ root_names schema ++ classes_from schema repos 0 schema.classes) (flat_map (root_rules schema.classes repos) schema.roots)
    sound).1

module _ (setup : Declarations) (repos : ℕ) (sound : schema_rules (schema_of setup) repos ≡ []) where
  abbrev pub schema : Schema
  schema = schema_of setup

  abbrev pub objects : Map oref_cmp Object
  objects = overwrite empty (map (root_object schema) schema.roots)

  pub all_owed : (x : Oref) (o : Object) → get objects x ≡ Some o → ObjectFits (get objects) schema.classes o
  all_owed =
      all_filled (λ x o. ObjectFits (get objects) schema.classes o) (map (root_object schema) schema.roots)
      (roots_owed schema repos sound (get objects) schema.roots (roots_rules schema repos sound))
      empty (λ x o is. cc)

  -- the opened store fits its schema
  pub opened_fits : StoreFits (schema_of setup) (opened (schema_of setup))
  unfolding opened
  opened_fits = record {
    each = all_owed;
    roots = roots_fit schema repos objects schema.roots (roots_rules schema repos sound) (roots_there schema [] setup.roots empty);
  }
