-- What whole runs of checked code do with parts.
use Rattle.class_defs.proofs.ActionWords.{over}
use Rattle.class_defs.proofs.KeptRules.{ClassSound, each_nothing, nothing, root_free, schema_sound}
use Rattle.class_defs.proofs.SameNames.{one_name, same_itself}
use Rattle.class_defs.specs.Objects.{first_of, seen}
use Rattle.class_defs.specs.Rules.{is_part, is_root_class}
use Rattle.class_defs.specs.Run.{Ran, begun, changed, execute_all, meaning, ran_by, run, takes, world_of}
use Rattle.class_defs.specs.SchemaRules.{class_names, classes_from, in_item, item_names, item_rules, root_at_rules, root_names, root_rules, schema_rules}
use Rattle.class_defs.specs.StatementRules.{block_rules}
use Rattle.class_defs.specs.Types.{class_or_word, type_named}
use Rattle.class_defs.specs.declared.classes.Class.{Class}
use Rattle.class_defs.specs.declared.machine.Flow.{Flow}
use Rattle.class_defs.specs.declared.machine.Machine.{Machine}
use Rattle.class_defs.specs.declared.machine.Stop.TheVariants as stop
use Rattle.class_defs.specs.declared.machine.Stop.{Stop}
use Rattle.class_defs.specs.declared.statements.Stmt.{Stmt}
use Rattle.class_defs.specs.declared.store.Object.{Object}
use Rattle.class_defs.specs.declared.store.Plain.{Plain}
use Rattle.class_defs.specs.declared.store.RootDeclaration.{RootDeclaration}
use Rattle.class_defs.specs.declared.store.Schema.{Schema}
use Rattle.class_defs.specs.declared.types.ExprType.TheVariants as type
use Rattle.class_defs.specs.declared.expressions.TypeName.TheVariants as type_name
use Rattle.law_type_soundness.proofs.FitRun.{Both, both as typed_both, transaction_goes as typed_transaction}
use Rattle.law_type_soundness.proofs.FitStatements.{block_goes as typed_block}
use Rattle.law_type_soundness.specs.Fits.{Fresh, MachineFits, StoreFits}
use Rattle.law_type_soundness.specs.Strict.{strict_meaning}
use Rattle.law_encapsulation.proofs.Bodies.{StatementsGo, block_goes, statement_goes}
use Rattle.law_encapsulation.proofs.Fields.{owned_there}
use Rattle.law_encapsulation.proofs.Made.{age, is_among}
use Rattle.law_encapsulation.proofs.Steps.{Any, Goes, PartsGo, TidyAt, stops}
use Rattle.law_encapsulation.proofs.Tidy.{Owner, Tidy, Writes, sees}
use Rattle.law_encapsulation.proofs.Walk.{expression_goes}
use Rattle.law_encapsulation.specs.Owning.{KeepsParts, OwnsIn}
use Rattle.std.proofs.Common.{Bool, List, [], ap, arith, cond, false, inl, inr, length, refl, subst, sym, true, ℕ, zero, suc, ◌++◌, ◌≡◌, ◌∙◌, ◌∷◌, Less}
use Rattle.std.proofs.Math.Path.{fun_ext}
use Rattle.std.proofs.lemmas.Bool.Decides.{nat_tests}
use Rattle.std.proofs.lemmas.Option.{same_Some}
use Rattle.std.proofs.lemmas.Bool.{and_parts, or_parts, not-true, or_cases}
use Rattle.std.specs.BTreeMap.{is_at}
use Rattle.std.specs.Cmp.Lexicographic.{pointwise}
use Rattle.std.specs.List.Sorted.{IsStrictlySortedBy}
use Rattle.std.specs.List.{AllByRecursion, Contains, flat_map, list_any}
use Rattle.std.specs.Map.{keys_of, lookup}
use Rattle.std.specs.Prelude.{Err, None, Ok, Option, Result, Some, find, is_some, slice_get, ◌==◌, ◌&&◌, ◌||◌, ◌⊎◌}
use Rattle.thor_value.proofs.FiniteMap.{get-insert}
use Rattle.thor_value.proofs.NameOrders.{oref_total}
use Rattle.thor_value.specs.FiniteMap.{IsSorted, Map, empty, get, has, insert, keys, overwrite}
use Rattle.thor_value.specs.Names.{oref_cmp, same_oref}
use Rattle.thor_value.specs.declared.names.Oref.{Oref}
use Rattle.thor_value.specs.declared.values.Fault.TheVariants as fault

-- ---- maps

-- a key that stands in a map
key_found : {X : Type 0} (es : List (Oref × X)) (x : Oref) → is_some (lookup (is_at (oref_cmp x)) es) ≡ true → Contains (keys_of es) x
key_found [] x h = cc
key_found (e ∷ es) x h = by (same_oref x e.0) refl h (key_found es x)
  where
    by : (b : Bool) → same_oref x e.0 ≡ b → is_some (cond b (Some e.1) (lookup (is_at (oref_cmp x)) es)) ≡ true → (is_some (lookup (is_at (oref_cmp x)) es) ≡ true → Contains (keys_of es) x) → Contains (e.0 ∷ keys_of es) x
    by true k h more = (zero, omega arith, sym (one_name x e.0 true k refl))
    by false k h more = let g = more h in (suc g.0, omega (arith, g.1), g.2)

found_key : {X : Type 0} (es : List (Oref × X)) (x : Oref) → Contains (keys_of es) x → is_some (lookup (is_at (oref_cmp x)) es) ≡ true
found_key [] x (k, l, e) = absurd (omega arith)
found_key (f ∷ es) x (zero, l, e) = ap (λ (b : Bool). is_some (cond b (Some f.1) (lookup (is_at (oref_cmp x)) es))) (ap (same_oref x) e ∙ same_itself x)
found_key (f ∷ es) x (suc k, l, e) = by (same_oref x f.0) (found_key es x (k, omega arith, e))
  where
    by : (b : Bool) → is_some (lookup (is_at (oref_cmp x)) es) ≡ true → is_some (cond b (Some f.1) (lookup (is_at (oref_cmp x)) es)) ≡ true
    by true h = refl
    by false h = h

-- what stands at a name behind writes was written or stood there
over_some : (m : Map oref_cmp Object) (kvs : List (Oref × Object)) (x : Oref) → is_some (get (overwrite m kvs) x) ≡ true → (is_some (lookup (is_at (oref_cmp x)) kvs) ≡ true) ⊎ (is_some (get m x) ≡ true)
over_some m [] x h = inr h
over_some m (e ∷ kvs) x h = by (same_oref x e.0) refl (over_some (insert m e.0 e.1) kvs x h)
  where
    by : (b : Bool) → same_oref x e.0 ≡ b → (is_some (lookup (is_at (oref_cmp x)) kvs) ≡ true) ⊎ (is_some (get (insert m e.0 e.1) x) ≡ true)
        → (is_some (cond b (Some e.1) (lookup (is_at (oref_cmp x)) kvs)) ≡ true) ⊎ (is_some (get m x) ≡ true)
    by true k g = inl refl
    by false k (inl g) = inl g
    by false k (inr g) = inr (ap is_some (sym (get-insert oref_total m e.0 e.1 x ∙ ap (λ b. cond b (Some e.1) (get m x)) k)) ∙ g)

absent : (k x : Oref) (kvs : List (Oref × Object)) → x ≡ k → AllByRecursion (λ y. oref_cmp k y ≡ Less) (keys_of kvs)
    → lookup (is_at (oref_cmp x)) kvs ≡ None
absent k x [] e h = refl
absent k x (kv ∷ kvs) e h =
    let less : oref_cmp x kv.0 ≡ Less = subst (λ z. oref_cmp z kv.0 ≡ Less) (sym e) h.0 in
    rw less (absent k x kvs e h.1)

overwritten : (b : Bool) (v : Object) (o p : Option Object) → (b ≡ true → o ≡ None) → first_of o (cond b (Some v) p) ≡ first_of (cond b (Some v) o) p
overwritten true v o p h = rw (h refl) refl
overwritten false v o p h = refl

get_overwritten : (m : Map oref_cmp Object) (kvs : List (Oref × Object)) (x : Oref) → IsStrictlySortedBy oref_cmp (keys_of kvs)
    → get (overwrite m kvs) x ≡ first_of (lookup (is_at (oref_cmp x)) kvs) (get m x)
unfolding IsStrictlySortedBy
get_overwritten m [] x h = refl
get_overwritten m (kv ∷ kvs) x h =
    get_overwritten (insert m kv.0 kv.1) kvs x h.1
    ∙ ap (first_of (lookup (is_at (oref_cmp x)) kvs)) (get-insert oref_total m kv.0 kv.1 x)
    ∙ overwritten (same_oref x kv.0) kv.1 (lookup (is_at (oref_cmp x)) kvs) (get m x) (λ b. absent kv.0 x kvs (one_name x kv.0 true b refl) h.0)

-- the store behind a run is what it saw at its end
store_sees : (classes : List Class) (store : Plain) (writes : Writes) → IsSorted writes → get (changed store writes.pairs).objects ≡ sees classes (get store.objects) writes
store_sees classes store writes h = fun_ext (λ x. get_overwritten store.objects writes.pairs x h)

-- ---- names that a run took

taken_none : (created names : List Oref) (z : Oref) → pointwise same_oref created names ≡ true → list_any (λ (x : Oref). x.repo == 255) names ≡ false → is_among created z ≡ true → (z.repo == 255) ≡ false
taken_none [] names z h none is = cc
taken_none (x ∷ xs) [] z h none is = cc
taken_none (x ∷ xs) (y ∷ ys) z h none is = by (same_oref z x) refl is (and_parts (same_oref x y) _ h) (or_parts (y.repo == 255) _ none) (taken_none xs ys z)
  where
    by : (c : Bool) → same_oref z x ≡ c → is_some (cond c (Some x) (find (same_oref z) xs)) ≡ true → (same_oref x y ≡ true) × (pointwise same_oref xs ys ≡ true) → ((y.repo == 255) ≡ false) × (list_any (λ (x : Oref). x.repo == 255) ys ≡ false)
        → (pointwise same_oref xs ys ≡ true → list_any (λ (x : Oref). x.repo == 255) ys ≡ false → is_among xs z ≡ true → (z.repo == 255) ≡ false) → (z.repo == 255) ≡ false
    by true e is g k more = ap (λ (q : Oref). q.repo == 255) (one_name z x true e refl ∙ one_name x y true g.0 refl) ∙ k.0
    by false e is g k more = more g.1 k.1 is

-- ---- as deep as n

module _ (schema : Schema) (repos : ℕ) (sound : (c : ℕ) (d : Class) → slice_get schema.classes c ≡ Some d → ClassSound schema repos c d)
    (roots : AllByRecursion (λ (r : RootDeclaration). is_part schema.classes (type_named schema.classes (type_name.Class r.class)) ≡ false) schema.roots)
    (E : Oref → Option Object) where
  pub record Deep (n : ℕ) : Type 0 where
    pub parts : PartsGo schema repos E (meaning (over schema E) n).value_of
    pub statements : StatementsGo schema repos E (meaning (over schema E) n).execute

  pub deep : (n : ℕ) → Deep n
  unfolding meaning
  deep zero = record {
    parts = λ t r l free e place ok m h tidy. stops schema repos E _ m (stop.Fault fault.Steps) tidy;
    statements = λ t r l free st ok m h tidy. stops schema repos E _ m (stop.Fault fault.Steps) tidy;
  }
  deep (suc n) =
      let inner = deep n in
      let typed : Both schema repos sound E n = typed_both schema repos sound E n in
      let typed_blocks = typed_block schema repos E (meaning (over schema E) n).execute (strict_meaning (over schema E) n).execute typed.statements in
      let blocks = block_goes schema repos E (meaning (over schema E) n).execute (strict_meaning (over schema E) n).execute typed.statements inner.statements in
      record {
        parts = expression_goes schema repos sound roots E _ _ _ _ typed.values typed_blocks inner.parts blocks;
        statements = statement_goes schema repos sound E _ _ _ _ typed.values typed_blocks inner.parts blocks;
      }

  pub transaction_goes : (tx : List Stmt) → block_rules (in_item schema repos) tx ≡ [] → (m : Machine) → MachineFits (over schema E) (in_item schema repos) m → TidyAt schema repos E m
      → Goes schema repos E Any m (execute_all (over schema E) tx m).0 (execute_all (over schema E) tx m).1
  unfolding execute_all
  transaction_goes tx ok m h tidy =
      block_goes schema repos E (meaning (over schema E) 100001).execute (strict_meaning (over schema E) 100001).execute (typed_both schema repos sound E 100001).statements (deep 100001).statements
      None (in_item schema repos).result [] tt tx ok m h tidy

-- ---- the first state

pub begun_tidy : (classes : List Class) (E : Oref → Option Object) → Tidy classes E empty [] empty None
begun_tidy classes E = record {
  new = λ x h. cc;
  made = λ x h. cc;
  origin = λ x h not. cc;
  kept = λ x o is. (o, is, refl);
  old = λ a z i not own. record { object = own.object; stands = own.stands; class = own.class; part = own.part; refers = own.refers };
  once = λ a b z i j is own other. cc;
  near = λ a z i is own. cc;
  rises = λ a z i is was own. cc;
  reached = λ x h. cc;
  wrote = λ x h. cc;
  this = λ r is. cc;
}

begun_fits : (schema : Schema) (repos : ℕ) (store : Plain) (names : List Oref) → StoreFits schema store → Fresh store names
    → MachineFits (world_of schema store) (in_item schema repos) (begun names (Some 0))
unfolding seen
begun_fits schema repos store names fit fresh = record {
  objects = fit;
  this = tt;
  locals = tt;
  names = record { waiting = fresh.waiting; distinct = fresh.distinct; stand_ins = (omega arith, λ j le. fresh.stand_ins j) };
}

begun_sorted : (names : List Oref) → IsSorted (begun names (Some 0)).writes
unfolding IsStrictlySortedBy
begun_sorted names = tt

pub roots_free : (classes : List Class) (repos : ℕ) (rs : List RootDeclaration) → AllByRecursion (λ (r : RootDeclaration). root_rules classes repos r ≡ []) rs
    → AllByRecursion (λ (r : RootDeclaration). is_part classes (type_named classes (type_name.Class r.class)) ≡ false) rs
roots_free classes repos [] h = tt
roots_free classes repos (r ∷ rs) h =
    let k = root_free classes r.class (nothing (is_root_class classes r.class) (root_at_rules repos r.at) h.0).0 in
    (subst (λ o. is_part classes (class_or_word r.class.text o) ≡ false) (sym k.1) k.2, roots_free classes repos rs h.1)

-- ---- runs

no_ran : {A : Type 0} (r : Ran) → ◌≡◌ {A = Option Ran} None (Some r) → A
no_ran r e = cc

none_some : {A : Type 0} (o : Option Object) (v : Object) → o ≡ None → o ≡ Some v → A
none_some o v h k = none_is (sym h ∙ k)
  where
    none_is : {A : Type 0} → ◌≡◌ {A = Option Object} None (Some v) → A
    none_is e = cc

there_none : {A : Type 0} (o : Option Object) → is_some o ≡ true → o ≡ None → A
there_none None h k = cc
there_none (Some v) h k = cc

-- objects that fit have what is owned
module _ (schema : Schema) (repos : ℕ) (store : Plain) (fit : StoreFits schema store) (m : Machine) (tidy : Tidy schema.classes (get store.objects) m.writes m.created m.reads m.this) where
  abbrev E : Oref → Option Object
  E = get store.objects

  reached : (x : Oref) (o : Object) → Contains (keys m.reads) x → E x ≡ Some o → is_part schema.classes (type.Class o.class) ≡ true
      → (a : Oref) × (i : ℕ) × OwnsIn schema.classes E a i x × Contains (keys m.reads) a
  reached x o is at part = let k = tidy.reached x (found_key m.reads.pairs x is) o at part in (k.0, k.1, k.2, key_found m.reads.pairs k.0 k.3)

  wrote : (x : Oref) → is_some (get m.writes x) ≡ true → Contains (keys m.reads) x ⊎ (E x ≡ None)
  wrote x h = elim (or_cases (has m.reads x) (is_among m.created x) (tidy.wrote x h)) [
    | inl k ↦ inl (key_found m.reads.pairs x k)
    | inr k ↦ inr (tidy.new x k)
  ]

  -- what is owned and wasn't there was made
  owned_made : (a z : Oref) (i : ℕ) → E z ≡ None → Owner schema.classes E m.writes a i z → (b : Bool) → is_among m.created z ≡ b → b ≡ true
  owned_made a z i none own true is = refl
  owned_made a z i none own false is = there_none (E z) (owned_there schema E fit a z i (tidy.old a z i is own)) none

  owner_made : (a z : Oref) (i : ℕ) → E a ≡ None → Owner schema.classes E m.writes a i z → (b : Bool) → is_among m.created a ≡ b → b ≡ true
  owner_made a z i none own true is = refl
  owner_made a z i none own false is = there_none (E a) (tidy.origin a (written (get m.writes a) (E a) own.stands none) is) none
    where
      written : (g e : Option Object) → first_of g e ≡ Some own.object → e ≡ None → is_some g ≡ true
      written (Some v) e at n = refl
      written None e at n = none_some e own.object n at

  old : (a z : Oref) (i : ℕ) (o : Object) → E z ≡ Some o → Owner schema.classes E m.writes a i z → OwnsIn schema.classes E a i z
  old a z i o at own = tidy.old a z i (by (is_among m.created z) refl) own
    where
      by : (b : Bool) → is_among m.created z ≡ b → b ≡ false
      by true is = none_some (E z) o (tidy.new z is) at
      by false is = refl

  module _ (names : List Oref) (took : takes m.created names ≡ true) where
    no_stand_ins : (z : Oref) → is_among m.created z ≡ true → z.repo ≡ 255 → ⊥
    no_stand_ins z is at =
        let p = and_parts (pointwise same_oref m.created names) _ took in
        let none : (z.repo == 255) ≡ false = taken_none m.created names z p.0 (not-true _ p.1) is in
        not_same z.repo none at
      where
        not_same : (n : ℕ) → (n == 255) ≡ false → n ≡ 255 → ⊥
        not_same n h e = grind (arith, nat_tests)

    kept_ok : (r : Ran) → r.touched ≡ keys m.reads → r.written ≡ m.writes.pairs → get r.store.objects ≡ sees schema.classes E m.writes → KeepsParts schema store r
    kept_ok r touched written sees_it = record {
      reached = λ x o is at part. let k = reached x o (subst (λ ns. Contains ns x) touched is) at part in (k.0, k.1, k.2, subst (λ ns. Contains ns k.0) (sym touched) k.3);
      wrote = λ x h. elim (over_some empty r.written x h) [
        | inl k ↦ elim (wrote x (subst (λ (ws : List (Oref × Object)). is_some (lookup (is_at (oref_cmp x)) ws) ≡ true) written k)) [
          | inl g ↦ inl (subst (λ ns. Contains ns x) (sym touched) g)
          | inr g ↦ inr g
        ]
        | inr k ↦ cc
      ];
      kept = λ x o is. let k = tidy.kept x o is in (k.0, ap (λ f. f x) sees_it ∙ k.1, k.2);
      old = λ a z i o at own. old a z i o at (turn a z i own);
      once = λ a b z i j none own other. tidy.once a b z i j (owned_made a z i none (turn a z i own) (is_among m.created z) refl) (turn a z i own) (turn b z j other);
      near = λ a z i none own. let is = owned_made a z i none (turn a z i own) (is_among m.created z) refl in elim (tidy.near a z i is (turn a z i own)) [
        | inl k ↦ k
        | inr k ↦ absurd (no_stand_ins z is k)
      ];
      rank = age m.created;
      rises = λ a z i none new own. tidy.rises a z i (owned_made a z i none (turn a z i own) (is_among m.created z) refl) (owner_made a z i new (turn a z i own) (is_among m.created a) refl) (turn a z i own);
    }
      where
        turn : (a z : Oref) (i : ℕ) → OwnsIn schema.classes (get r.store.objects) a i z → Owner schema.classes E m.writes a i z
        turn a z i own = subst (λ f. OwnsIn schema.classes f a i z) sees_it own

  no_write : (x : Oref) → is_some (get {R = oref_cmp} (empty {X = Object}) x) ≡ true → ⊥
  no_write x h = cc

  kept_fault : (r : Ran) → r.touched ≡ keys m.reads → r.written ≡ [] → r.store ≡ store → KeepsParts schema store r
  kept_fault r touched written same = record {
    reached = λ x o is at part. let k = reached x o (subst (λ ns. Contains ns x) touched is) at part in (k.0, k.1, k.2, subst (λ ns. Contains ns k.0) (sym touched) k.3);
    wrote = λ x h. absurd (no_write x (subst (λ (ws : List (Oref × Object)). is_some (get {R = oref_cmp} (overwrite empty ws) x) ≡ true) written h));
    kept = λ x o is. (o, ap (λ (p : Plain). get p.objects x) same ∙ is, refl);
    old = λ a z i o at own. turn a z i own;
    once = λ a b z i j none own other. there_none (E z) (owned_there schema E fit a z i (turn a z i own)) none;
    near = λ a z i none own. there_none (E z) (owned_there schema E fit a z i (turn a z i own)) none;
    rank = λ x. 0;
    rises = λ a z i none new own. there_none (E z) (owned_there schema E fit a z i (turn a z i own)) none;
  }
    where
      turn : (a z : Oref) (i : ℕ) → OwnsIn schema.classes (get r.store.objects) a i z → OwnsIn schema.classes E a i z
      turn a z i own = subst (λ (p : Plain). OwnsIn schema.classes (get p.objects) a i z) same own

  ended_ok : (names : List Oref) (b : Bool) (a r : Ran) → (b ≡ true → takes m.created names ≡ true) → a.touched ≡ keys m.reads → a.written ≡ m.writes.pairs → get a.store.objects ≡ sees schema.classes E m.writes
      → cond b (Some a) None ≡ Some r → KeepsParts schema store r
  ended_ok names true a r took touched written sees_it e = subst (KeepsParts schema store) (same_Some a r e) (kept_ok names (took refl) a touched written sees_it)
  ended_ok names false a r took touched written sees_it e = no_ran r e

  ended_fault : (b : Bool) (a r : Ran) → a.touched ≡ keys m.reads → a.written ≡ [] → a.store ≡ store → cond b (Some a) None ≡ Some r → KeepsParts schema store r
  ended_fault true a r touched written same e = subst (KeepsParts schema store) (same_Some a r e) (kept_fault a touched written same)
  ended_fault false a r touched written same e = no_ran r e

  ended : (names : List Oref) (o : Result Flow Stop) (r : Ran) → IsSorted m.writes → ran_by store names o m ≡ Some r → KeepsParts schema store r
  ended names (Ok flow) r sorted e = ended_ok names (takes m.created names) _ r (λ k. k) refl refl (store_sees schema.classes store m.writes sorted) e
  ended names (Err (stop.Fault f)) r sorted e = ended_fault (length names == 0) _ r refl refl refl e
  ended names (Err (stop.Need x owners)) r sorted e = no_ran r e
  ended names (Err (stop.NeedName repo)) r sorted e = no_ran r e

module _ (schema : Schema) (repos : ℕ) (tx : List Stmt) (store : Plain) (names : List Oref) where
  pub block_unbroken : item_rules schema repos tx ≡ [] → block_rules (in_item schema repos) tx ≡ []
  unfolding item_rules
  block_unbroken h = (nothing (item_names schema tx) (block_rules (in_item schema repos) tx) h).1

  pub roots_unbroken : schema_rules schema repos ≡ [] → AllByRecursion (λ (r : RootDeclaration). root_rules schema.classes repos r ≡ []) schema.roots
  unfolding schema_rules
  roots_unbroken h = each_nothing (root_rules schema.classes repos) schema.roots
      (nothing (class_names schema ++ root_names schema ++ classes_from schema repos 0 schema.classes) (flat_map (root_rules schema.classes repos) schema.roots) h).1

  pub run_keeps : (r : Ran) → schema_rules schema repos ≡ [] → item_rules schema repos tx ≡ [] → StoreFits schema store → Fresh store names → run schema tx store names ≡ Some r → KeepsParts schema store r
  unfolding run
  run_keeps r sound ok fit fresh is =
      let classes_sound = schema_sound schema repos sound in
      let first = begun_fits schema repos store names fit fresh in
      let went = transaction_goes schema repos classes_sound (roots_free schema.classes repos schema.roots (roots_unbroken sound)) (get store.objects) tx (block_unbroken ok) (begun names (Some 0)) first (begun_tidy schema.classes (get store.objects)) in
      let typed = typed_transaction schema repos classes_sound (get store.objects) tx (block_unbroken ok) (begun names (Some 0)) first in
      let last = execute_all (world_of schema store) tx (begun names (Some 0)) in
      ended schema repos store fit last.1 went.tidy names last.0 r (typed.stays.1 (begun_sorted names)) is
