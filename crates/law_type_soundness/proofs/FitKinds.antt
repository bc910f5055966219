-- That what a check sees at a place is what a state that fits can name, with the same types; and that the type that a
-- check gives an expression is the expression's.
use Rattle.std.proofs.Common.{◌≡◌, Bool, true, false, cond, List, [], ◌∷◌, Option, Some, None, refl, ap, ap₂, sym, ◌∙◌, ℕ}
use Rattle.std.proofs.Math.Path.{fun_ext}
use Rattle.std.specs.List.{AllByRecursion}
use Rattle.std.specs.Prelude.{find, is_some, option_map, unwrap_or}
use Rattle.std.specs.Str.{bytes_eq}
use Rattle.thor_value.specs.declared.names.Oref.{Oref}
use Rattle.thor_value.specs.declared.values.Value.{Value}
use Rattle.thor_value.specs.declared.values.Value.TheVariants as value
use Rattle.class_defs.specs.ExpressionRules.{Judged, judged, judge_step, kinds_at}
use Rattle.law_type_soundness.specs.Fits.{ValueFits, RootFits, LocalFits, LocalsFit, ThisFits}
use Rattle.class_defs.specs.Objects.{first_of, scope_at}
use Rattle.class_defs.specs.Objects as run
use Rattle.class_defs.specs.Rules.{Sight, scope_of}
use Rattle.class_defs.specs.Rules as rules
use Rattle.law_type_soundness.specs.Strict.{value_named}
use Rattle.class_defs.specs.Types.{type_named, type_of, type_step}
use Rattle.class_defs.specs.declared.classes.Class.{Class}
use Rattle.class_defs.specs.declared.expressions.Expr.{Expr, out-Expr, map-Expr, roll-Expr}
use Rattle.class_defs.specs.declared.expressions.Expr.TheFolds.{fold_out-Expr, fold-roll-Expr, ind-Expr}
use Rattle.class_defs.specs.declared.expressions.Expr.TheOpen.{Expr-F}
use Rattle.class_defs.specs.declared.machine.Local.{Local}
use Rattle.class_defs.specs.declared.machine.Machine.{Machine}
use Rattle.class_defs.specs.declared.machine.Receiver.{Receiver}
use Rattle.class_defs.specs.declared.rules.NamedType.{NamedType}
use Rattle.class_defs.specs.declared.store.Object.{Object}
use Rattle.class_defs.specs.declared.store.RootDeclaration.{RootDeclaration}
use Rattle.class_defs.specs.declared.store.Schema.{Schema}
use Rattle.class_defs.specs.declared.types.ExprType.{ExprType}
use Rattle.class_defs.specs.declared.types.ExprType.TheVariants as type
use Rattle.class_defs.specs.declared.expressions.TypeName.TheVariants as type_name

-- ---- the type of an expression

pub judged_out : (s : Sight) (e : Expr) → judged s e ≡ judge_step s (map-Expr Expr Judged (judged s) (out-Expr e))
unfolding judged
judged_out s e = fold_out-Expr Judged (judge_step s) e

module _ (s : Sight) where
  abbrev Same : Expr → Type 0
  Same e = (judged s e).kind ≡ type_of (scope_of s) e

  abbrev bare : Expr-F ((e : Expr) × Same e) → Expr-F Expr
  bare y = map-Expr ((e : Expr) × Same e) Expr (λ p. p.0) y

  same_step : (y : Expr-F ((e : Expr) × Same e))
      → type_step (scope_of s) (kinds_at (map-Expr Expr Judged (judged s) (bare y))) ≡ type_step (scope_of s)
      (map-Expr Expr ExprType (type_of (scope_of s)) (bare y))
  same_step (Expr-F.Literal value line) = refl
  same_step (Expr-F.Null line) = refl
  same_step (Expr-F.This line) = refl
  same_step (Expr-F.Field name) = refl
  same_step (Expr-F.Variable name) = refl
  same_step (Expr-F.New class at) = refl
  same_step (Expr-F.Parens inner line) = inner.1
  same_step (Expr-F.Negate operand line) = refl
  same_step (Expr-F.Binary operator left right line) = refl
  same_step (Expr-F.Call receiver method arguments) = ap (λ k. type_step (scope_of s) (Expr-F.Call k method [])) receiver.1

  judged_roll : (x : Expr-F Expr) → (judged s (roll-Expr x)).kind ≡ type_step (scope_of s) (kinds_at (map-Expr Expr Judged (judged s) x))
  unfolding judged
  judged_roll x = ap (λ (j : Judged). j.kind) (fold-roll-Expr Judged (judge_step s) x)

  type_roll : (x : Expr-F Expr) → type_of (scope_of s) (roll-Expr x) ≡ type_step (scope_of s) (map-Expr Expr ExprType (type_of (scope_of s)) x)
  unfolding type_of
  type_roll x = fold-roll-Expr ExprType (type_step (scope_of s)) x

  -- the type that a check gives an expression
  pub kind_is : (e : Expr) → (judged s e).kind ≡ type_of (scope_of s) e
  kind_is = ind-Expr Same (λ x y is.
      let step : (z : Expr-F Expr) → bare y ≡ z
      → type_step (scope_of s) (kinds_at (map-Expr Expr Judged (judged s) z)) ≡ type_step (scope_of s)
      (map-Expr Expr ExprType (type_of (scope_of s)) z) = λ z e. rw (sym e) (same_step y) in
      judged_roll x ∙ step x is ∙ sym (type_roll x))

-- ---- what can be named

abbrev kind_of : Local → ExprType
kind_of l = l.kind

abbrev kind_seen : NamedType → ExprType
kind_seen n = n.kind

module _ {A B C : Type 0} (f : A → C) (g : B → C) where
  alike : (b c : Bool) (x : A) (y : B) (o : Option A) (p : Option B) → b ≡ c → f x ≡ g y → option_map f o ≡ option_map g p
      → option_map f (cond b (Some x) o) ≡ option_map g (cond c (Some y) p)
  alike true true x y o p e h k = ap Some h
  alike true false x y o p e h k = cc
  alike false true x y o p e h k = cc
  alike false false x y o p e h k = k

module _ (objects : Oref → Option Object) where
  pub kinds_alike : (name : List ℕ) (ns : List NamedType) (ls : List Local) → LocalsFit objects ns ls
      → option_map kind_of (find (λ l. bytes_eq l.name name) ls) ≡ option_map kind_seen (find (λ n. bytes_eq n.name name) ns)
  kinds_alike name [] [] h = refl
  kinds_alike name [] (l ∷ ls) h = absurd h
  kinds_alike name (n ∷ ns) [] h = absurd h
  kinds_alike name (n ∷ ns) (l ∷ ls) h =
      alike kind_of kind_seen _ _ l n _ _ (ap (λ t. bytes_eq t name) h.0.name) h.0.kind (kinds_alike name ns ls h.1)

  roots_alike : (schema : Schema) (t : Option ℕ) (r : Option Receiver) → ThisFits objects t r
      → run.roots_in_sight schema r ≡ rules.roots_in_sight schema t
  roots_alike schema None None h = refl
  roots_alike schema None (Some r) h = absurd h
  roots_alike schema (Some c) None h = absurd h
  roots_alike schema (Some c) (Some r) h = refl

  class_alike : (t : Option ℕ) (r : Option Receiver) → ThisFits objects t r → option_map (λ (q : Receiver). q.class) r ≡ t
  class_alike None None h = refl
  class_alike None (Some r) h = absurd h
  class_alike (Some c) None h = absurd h
  class_alike (Some c) (Some r) h = ap Some h.0

  -- a state that fits can name what the check saw
  pub scope_is : (s : Sight) (m : Machine) → ThisFits objects s.this m.this → LocalsFit objects s.locals m.locals → scope_at s.schema m ≡ scope_of s
  unfolding scope_at
  scope_is s m this locals =
      ap₂ (λ (t : Option ℕ) (n : List ℕ → Option ExprType). record { classes = s.schema.classes; this = t; named = n })
      (class_alike s.this m.this this)
      (fun_ext (λ name. ap₂ (λ (o p : Option ExprType). first_of o p) (kinds_alike name s.locals m.locals locals)
      (ap (λ (rs : List RootDeclaration). option_map (λ r. type_named s.schema.classes (type_name.Class r.class))
      (find (λ r. bytes_eq r.name.text name) rs)) (roots_alike s.schema s.this m.this this))))

  -- ---- the values of names

  -- where a type was found there is a value of it, and where none was there is none
  abbrev pub NamedFits : Option ExprType → Option Value → Type 0
  NamedFits None None = Unit {0}
  NamedFits None (Some v) = ⊥
  NamedFits (Some t) None = ⊥
  NamedFits (Some t) (Some v) = ValueFits objects t v

  either_named : (b c : Bool) (n : NamedType) (l : Local) (o : Option NamedType) (p : Option Local) → b ≡ c → LocalFits objects n l
      → NamedFits (option_map kind_seen o) (option_map (λ (q : Local). q.value) p)
      → NamedFits (option_map kind_seen (cond b (Some n) o)) (option_map (λ (q : Local). q.value) (cond c (Some l) p))
  either_named true true n l o p e h k = h.value
  either_named true false n l o p e h k = cc
  either_named false true n l o p e h k = cc
  either_named false false n l o p e h k = k

  local_fits : (name : List ℕ) (ns : List NamedType) (ls : List Local) → LocalsFit objects ns ls
      → NamedFits (option_map kind_seen (find (λ n. bytes_eq n.name name) ns))
      (option_map (λ (q : Local). q.value) (find (λ l. bytes_eq l.name name) ls))
  local_fits name [] [] h = tt
  local_fits name [] (l ∷ ls) h = absurd h
  local_fits name (n ∷ ns) [] h = absurd h
  local_fits name (n ∷ ns) (l ∷ ls) h = either_named _ _ n l _ _ (ap (λ t. bytes_eq t name) (sym h.0.name)) h.0 (local_fits name ns ls h.1)

  abbrev root_kind : List Class → RootDeclaration → ExprType
  root_kind classes r = type_named classes (type_name.Class r.class)

  abbrev root_value : RootDeclaration → Value
  root_value r = value.Ref r.oref

  either_root : (classes : List Class) (b : Bool) (r : RootDeclaration) (o : Option RootDeclaration) → RootFits objects classes r
      → NamedFits (option_map (root_kind classes) o) (option_map root_value o)
      → NamedFits (option_map (root_kind classes) (cond b (Some r) o)) (option_map root_value (cond b (Some r) o))
  either_root classes true r o h k = h
  either_root classes false r o h k = k

  root_fits : (classes : List Class) (name : List ℕ) (rs : List RootDeclaration) → AllByRecursion (RootFits objects classes) rs
      → NamedFits (option_map (root_kind classes) (find (λ r. bytes_eq r.name.text name) rs))
      (option_map root_value (find (λ r. bytes_eq r.name.text name) rs))
  root_fits classes name [] h = tt
  root_fits classes name (r ∷ rs) h = either_root classes (bytes_eq r.name.text name) r _ h.0 (root_fits classes name rs h.1)

  first_fits : (o p : Option ExprType) (u v : Option Value) → NamedFits o u → NamedFits p v → NamedFits (first_of o p) (first_of u v)
  first_fits (Some t) p (Some w) v h k = h
  first_fits (Some t) p None v h k = absurd h
  first_fits None p (Some w) v h k = absurd h
  first_fits None p None v h k = k

  sight_roots : (schema : Schema) (t : Option ℕ) (r : Option Receiver) → ThisFits objects t r
      → AllByRecursion (RootFits objects schema.classes) schema.roots
      → AllByRecursion (RootFits objects schema.classes) (run.roots_in_sight schema r)
  sight_roots schema t None h all = all
  sight_roots schema t (Some r) h all = tt

  pub name_fits : (s : Sight) (m : Machine) (name : List ℕ) → ThisFits objects s.this m.this → LocalsFit objects s.locals m.locals
      → AllByRecursion (RootFits objects s.schema.classes) s.schema.roots
      → NamedFits (rules.type_in_sight s name) (value_named s.schema m name)
  name_fits s m name this locals roots =
      first_fits _ _ _ _ (local_fits name s.locals m.locals locals)
      (rw (sym (roots_alike s.schema s.this m.this this)) (root_fits s.schema.classes name (run.roots_in_sight s.schema m.this)
      (sight_roots s.schema s.this m.this this roots)))

  told_value : (o : Option ExprType) (u : Option Value) → NamedFits o u → is_some o ≡ true
      → (v : Value) × ((u ≡ Some v) × ValueFits objects (unwrap_or o type.Untold) v)
  told_value (Some t) (Some v) h k = (v, (refl, h))
  told_value (Some t) None h k = absurd h
  told_value None u h k = cc

  -- a name that the check found has a value of its type
  pub named_there : (s : Sight) (m : Machine) (name : List ℕ) → ThisFits objects s.this m.this → LocalsFit objects s.locals m.locals
      → AllByRecursion (RootFits objects s.schema.classes) s.schema.roots
      → is_some (rules.type_in_sight s name) ≡ true
      → (v : Value) × ((value_named s.schema m name ≡ Some v) × ValueFits objects (unwrap_or (rules.type_in_sight s name) type.Untold) v)
  named_there s m name this locals roots is = told_value _ _ (name_fits s m name this locals roots) is
