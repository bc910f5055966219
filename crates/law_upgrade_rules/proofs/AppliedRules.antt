-- That the schema behind an accepted upgrade breaks no rule T.
use Rattle.std.proofs.Common.{◌≡◌, cond, not, List, [], ◌∷◌, ◌++◌, ℕ, Option, Some, None, is_some, refl, ap, sym, ◌∙◌, subst}
use Rattle.std.specs.List.{flat_map}
use Rattle.std.specs.Prelude.{◌+◌, find, slice_get}
use Rattle.std.specs.Str.{bytes_eq}
use Rattle.law_upgrade_rules.proofs.AppliedClasses.{keeps_name, same_kind, same_names, same_type, step}
use Rattle.class_defs.proofs.KeptRules.{each_nothing, nothing}
use Rattle.law_upgrade_rules.proofs.KeptByRules.{Sound, at_place}
use Rattle.class_defs.specs.Applied.{applied, class_behind, classes_behind, said_of}
use Rattle.class_defs.specs.Rules.{is_root_class, is_root_type, is_told, is_type, must, stand_once}
use Rattle.class_defs.specs.SchemaRules.{class_names, class_rules, classes_from, item_rules, member_names, method_rules, root_at_rules, root_names, root_rules, schema_rules}
use Rattle.class_defs.specs.Types.{type_named}
use Rattle.class_defs.specs.UpgradeOrder.{inside_class, inside_rules, outside_class, outside_rules, over_classes}
use Rattle.class_defs.specs.declared.classes.Class.{Class}
use Rattle.class_defs.specs.declared.classes.Field.{Field}
use Rattle.class_defs.specs.declared.expressions.Name.{Name}
use Rattle.class_defs.specs.declared.expressions.TypeName.{TypeName}
use Rattle.class_defs.specs.declared.expressions.TypeName.TheVariants as type_name
use Rattle.class_defs.specs.declared.rules.Rule.TheVariants.{T2, T5}
use Rattle.class_defs.specs.declared.statements.Stmt.{Stmt}
use Rattle.class_defs.specs.declared.store.RootDeclaration.{RootDeclaration}
use Rattle.class_defs.specs.declared.store.Schema.{Schema}
use Rattle.class_defs.specs.declared.upgrades.ClassUpgrade.{ClassUpgrade}
use Rattle.class_defs.specs.declared.upgrades.Upgrade.{Upgrade}
use Rattle.class_defs.specs.declared.types.ExprType.TheVariants as type
use Rattle.class_defs.specs.declared.types.ExprType.{ExprType}

none : {A : Type 0} (xs ys : List A) → xs ≡ [] → ys ≡ [] → (xs ++ ys) ≡ []
none xs ys h g = ap (λ zs. zs ++ ys) h ∙ g

same_all : {A B : Type 0} (f g : A → List B) (xs : List A) → ((x : A) → f x ≡ g x) → flat_map f xs ≡ flat_map g xs
same_all f g [] h = refl
same_all f g (x ∷ xs) h = ap (λ ys. ys ++ flat_map f xs) (h x) ∙ ap (λ ys. g x ++ ys) (same_all f g xs h)

module _ (schema : Schema) (repos : ℕ) (u : Upgrade) where
  abbrev old : List Class
  old = schema.classes

  abbrev new : List Class
  new = classes_behind u old

  same_root_type : (t : ExprType) → is_root_type new t ≡ is_root_type old t
  same_root_type type.Int = refl
  same_root_type type.Text = refl
  same_root_type type.Null = refl
  same_root_type (type.Class c) = ap (λ b. not b) (same_kind u (type.Class c) old)
  same_root_type type.Untold = refl

  same_root_class : (n : Name) → is_root_class new n ≡ is_root_class old n
  same_root_class n =
      ap (λ t. must (is_told t) T2 n.line ++ must (is_root_type new t) T5 n.line) (same_type u (type_name.Class n) old)
      ∙ ap (λ b. must (is_told (type_named old (type_name.Class n))) T2 n.line ++ must b T5 n.line) (same_root_type (type_named old (type_name.Class n)))

  same_root : (r : RootDeclaration) → root_rules new repos r ≡ root_rules old repos r
  same_root r = ap (λ fs. fs ++ root_at_rules repos r.at) (same_root_class r.class)

  same_is_type : (t : TypeName) → is_type new t ≡ is_type old t
  same_is_type (type_name.Int line) = refl
  same_is_type (type_name.Class n) = ap (λ t. must (is_told t) T2 n.line) (same_type u (type_name.Class n) old)

  abbrev says_of : Name → Option ClassUpgrade
  says_of n = find (λ k. bytes_eq k.name.text n.text) u.classes

  still_named : (d : Class) (o : Option ClassUpgrade) → said_of u d ≡ o → says_of (step u d).name ≡ o
  still_named d o is = ap says_of (keeps_name d (said_of u d)) ∙ is

  abbrev after : Schema
  after = applied schema u

  after_named : (n : ℕ) (d : Class) (k : ClassUpgrade) → said_of u d ≡ Some k → inside_class u after repos n (step u d) ≡ []
      → class_rules after repos n (step u d) ≡ []
  after_named n d k is h = subst (λ o. cond (is_some o) (class_rules after repos n (step u d)) [] ≡ []) (still_named d (Some k) is) h

  after_other : (n : ℕ) (d : Class) → said_of u d ≡ None → class_rules schema repos n d ≡ [] → outside_class u after repos n (step u d) ≡ []
      → class_rules after repos n (step u d) ≡ []
  unfolding class_rules applied
  after_other n d is h g =
      let same : step u d ≡ d = ap (class_behind d) is in
      let fields = flat_map (λ (f : Field). is_type old f.type_name) d.fields in
      let p = nothing (member_names d ++ fields) _ h in
      let q = nothing (member_names d) fields p.0 in
      let methods : flat_map (method_rules after repos n) (step u d).methods ≡ [] =
      subst (λ o. cond (is_some o) [] (flat_map (method_rules after repos n) (step u d).methods) ≡ []) (still_named d None is) g in
      subst (λ y. class_rules after repos n y ≡ []) (sym same)
      (none (member_names d ++ flat_map (λ (f : Field). is_type new f.type_name) d.fields) _
      (none (member_names d) _ q.0
      (same_all (λ (f : Field). is_type new f.type_name) (λ (f : Field). is_type old f.type_name) d.fields (λ f. same_is_type f.type_name) ∙ q.1))
      (ap (λ (y : Class). flat_map (method_rules after repos n) y.methods) (sym same) ∙ methods))

  after_class : (n : ℕ) (d : Class) (o : Option ClassUpgrade) → said_of u d ≡ o → class_rules schema repos n d ≡ []
      → inside_class u after repos n (step u d) ≡ [] → outside_class u after repos n (step u d) ≡ []
      → class_rules after repos n (step u d) ≡ []
  after_class n d (Some k) is h i g = after_named n d k is i
  after_class n d None is h i g = after_other n d is h g

  after_classes : (n : ℕ) (ds : List Class) → classes_from schema repos n ds ≡ []
      → over_classes (inside_class u after repos) n (classes_behind u ds) ≡ [] → over_classes (outside_class u after repos) n (classes_behind u ds) ≡ []
      → classes_from after repos n (classes_behind u ds) ≡ []
  after_classes n [] h i g = refl
  after_classes n (d ∷ ds) h i g =
      let p = nothing (class_rules schema repos n d) _ h in
      let q = nothing (inside_class u after repos n (step u d)) _ i in
      let r = nothing (outside_class u after repos n (step u d)) _ g in
      none (class_rules after repos n (step u d)) _ (after_class n d (said_of u d) refl p.0 q.0 r.0) (after_classes (n + 1) ds p.1 q.1 r.1)

  pub rules_behind : (items : List (List Stmt)) → schema_rules schema repos ≡ [] → Sound schema repos u items
      → schema_rules (applied schema u) repos ≡ []
  unfolding schema_rules applied inside_rules outside_rules
  rules_behind items h fine =
      let classes = classes_from schema repos 0 old in
      let p = nothing (class_names schema ++ root_names schema ++ classes) _ h in
      let q = nothing (class_names schema ++ root_names schema) classes p.0 in
      let r = nothing (class_names schema) (root_names schema) q.0 in
      let outside = nothing (over_classes (outside_class u after repos) 0 new) _ fine.outside in
      none (class_names after ++ root_names after ++ classes_from after repos 0 new) _
      (none (class_names after ++ root_names after) _
      (none (class_names after) (root_names after) (ap (stand_once []) (same_names u old) ∙ r.0) r.1)
      (after_classes 0 old q.1 fine.inside outside.0))
      (same_all (root_rules new repos) (root_rules old repos) schema.roots same_root ∙ p.1)

  pub items_behind : (items : List (List Stmt)) → Sound schema repos u items → (i : ℕ) (block : List Stmt) → slice_get items i ≡ Some block
      → item_rules (applied schema u) repos block ≡ []
  unfolding outside_rules
  items_behind items fine i block is =
      let outside = nothing (over_classes (outside_class u after repos) 0 after.classes) _ fine.outside in
      at_place (λ b. item_rules after repos b ≡ []) items i block (each_nothing _ items outside.1) is
