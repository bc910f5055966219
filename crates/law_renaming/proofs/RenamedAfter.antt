-- That the store behind a run refers to no fresh name that the run didn't take; and what this makes of names at hand.
use Rattle.std.proofs.Common.{◌≡◌, arith, Bool, true, false, cond, List, [], ◌∷◌, All, Option, Some, None, Result, Ok, Err, refl, ap, sym, ◌∙◌, subst, ℕ, inl, inr}
use Rattle.std.proofs.lemmas.List.Elements.{All-head, All-tail}
use Rattle.std.proofs.lemmas.Option.{same_Some}
use Rattle.std.specs.List.{AllByRecursion, AllZip}
use Rattle.std.specs.BTreeMap.{is_at}
use Rattle.std.specs.Map.{lookup, values_of}
use Rattle.std.specs.Prelude.{is_some}
use Rattle.thor_value.proofs.FiniteMap.{get-insert}
use Rattle.thor_value.proofs.NameOrders.{oref_total}
use Rattle.thor_value.specs.FiniteMap.{Map, get, insert, overwrite, values, has}
use Rattle.thor_value.specs.Names.{oref_cmp, same_oref}
use Rattle.thor_value.specs.declared.names.Oref.{Oref}
use Rattle.thor_value.specs.declared.values.Value.{Value}
use Rattle.thor_value.specs.declared.values.Value.TheVariants as value
use Rattle.law_renaming.proofs.Renamed.{Names, Time, Values}
use Rattle.law_renaming.proofs.RenamedEnds.{setting, ends, endless_had}
use Rattle.law_renaming.proofs.RenamedMachines.{Setting, Known}
use Rattle.law_renaming.proofs.RenamedStores.{through, into}
use Rattle.law_renaming.proofs.RenamedSupply.{In, all_in}
use Rattle.class_defs.proofs.RunOutcomes.{run_behind}
use Rattle.class_defs.specs.Objects.{stand_in_name}
use Rattle.law_renaming.specs.Renaming.{IsOld, Paired, Takeable, Unused}
use Rattle.class_defs.specs.Run.{Ran, begun, execute_all, ran_by, run, world_of}
use Rattle.class_defs.specs.Steps.{World}
use Rattle.class_defs.specs.declared.machine.Flow.{Flow}
use Rattle.class_defs.specs.declared.machine.Machine.{Machine}
use Rattle.class_defs.specs.declared.machine.Stop.{Stop}
use Rattle.class_defs.specs.declared.machine.Stop.TheVariants as stop
use Rattle.class_defs.specs.declared.statements.Stmt.{Stmt}
use Rattle.class_defs.specs.declared.store.Object.{Object}
use Rattle.class_defs.specs.declared.store.Plain.{Plain}
use Rattle.class_defs.specs.declared.store.RootDeclaration.{RootDeclaration}
use Rattle.class_defs.specs.declared.store.Schema.{Schema}

-- ---- what stands in a map that was overwritten

inserted : (P : Object → Type 0) (b : Bool) (v o : Object) (old : Option Object) → P v → (old ≡ Some o → P o) → cond b (Some v) old ≡ Some o → P o
inserted P true v o old p h e = subst P (same_Some v o e) p
inserted P false v o old p h e = h e

all_after : (P : Object → Type 0) (kvs : List (Oref × Object)) → All P (values_of kvs) → (m : Map oref_cmp Object)
    → ((x : Oref) (o : Object) → get m x ≡ Some o → P o)
    → (x : Oref) (o : Object) → get (overwrite m kvs) x ≡ Some o → P o
all_after P [] a m h x o e = h x o e
all_after P (kv ∷ kvs) a m h x o e =
    all_after P kvs (All-tail P kv.1 (values_of kvs) a) (insert m kv.0 kv.1)
    (λ y p is. inserted P (same_oref y kv.0) kv.1 p (get m y) (All-head P kv.1 (values_of kvs) a) (h y p)
    (sym (get-insert oref_total m kv.0 kv.1 y) ∙ is)) x o e

-- ---- which names stay fresh

paired_in : (xs ys : List Oref) (x y : Oref) → Paired xs ys x y → In xs x
paired_in [] ys x y h = absurd h
paired_in (a ∷ xs) [] x y h = absurd h
paired_in (a ∷ xs) (b ∷ ys) x y (inl e) = inl e.0
paired_in (a ∷ xs) (b ∷ ys) x y (inr h) = inr (paired_in xs ys x y h)

module _ (fresh others : Oref → Bool) (fewer : (x : Oref) → others x ≡ true → fresh x ≡ true) where
  stays_old : (x : Oref) → fresh x ≡ false → others x ≡ false
  stays_old x h = by (others x) refl
    where
      by : (b : Bool) → others x ≡ b → others x ≡ false
      by true e = let f = fewer x e in cc
      by false e = e

  old_value : (v : Value) → IsOld fresh v → IsOld others v
  old_value (value.Int n) h = tt
  old_value (value.Text n) h = tt
  old_value (value.Ref x) h = stays_old x h
  old_value value.Null h = tt

  old_values : (vs : List Value) → AllByRecursion (IsOld fresh) vs → AllByRecursion (IsOld others) vs
  old_values [] h = tt
  old_values (v ∷ vs) h = (old_value v h.0, old_values vs h.1)

  old_roots : (rs : List RootDeclaration) → AllByRecursion (λ (r : RootDeclaration). fresh r.oref ≡ false) rs
      → AllByRecursion (λ (r : RootDeclaration). others r.oref ≡ false) rs
  old_roots [] h = tt
  old_roots (r ∷ rs) h = (stays_old r.oref h.0, old_roots rs h.1)

  module _ (t : Time) (created : AllByRecursion (λ x. others x ≡ false) t.0) where
    known_name : (x y : Oref) → Names fresh t x y → others x ≡ false
    known_name x y (inl h) = stays_old x h.0
    known_name x y (inr p) = all_in (λ z. others z ≡ false) t.0 x created (paired_in t.0 t.1 x y p)

    known_value : (v u : Value) → Values fresh t v u → IsOld others v
    known_value (value.Int a) (value.Int b) h = tt
    known_value (value.Text a) (value.Text b) h = tt
    known_value (value.Ref x) (value.Ref y) h = known_name x y h
    known_value value.Null value.Null h = tt
    known_value v u h = absurd h

    pub known_values : (vs us : List Value) → AllZip (Values fresh t) vs us → AllByRecursion (IsOld others) vs
    known_values [] [] h = tt
    known_values (v ∷ vs) (u ∷ us) h = (known_value v u h.0, known_values vs us h.1)
    known_values vs us h = absurd h

module _ (schema : Schema) (tx : List Stmt) (store : Plain) (fresh : Oref → Bool) (unused : Unused fresh (world_of schema store))
    (others : Oref → Bool)
    (fewer : (x : Oref) → others x ≡ true → fresh x ≡ true) (stand_ins : (k : ℕ) → others (stand_in_name k) ≡ true) where
  abbrev w : World
  w = world_of schema store

  abbrev Old : Object → Type 0
  Old o = AllByRecursion (IsOld others) o.fields

  still_unused : (x : Oref) (o : Object) → get store.objects x ≡ Some o → Old o
  still_unused x o e = old_values fresh others fewer o.fields (unused.objects x o e)

  module _ (names : List Oref) (taken : AllByRecursion (λ x. others x ≡ false) names) (repo : ℕ) where
    abbrev both : Setting
    both = setting w fresh unused names (Some 0) names (Some 0) true true repo

    behind : (o : Result Flow Stop) (m : Machine) (r : Ran) → All (Known both (m.created, m.created)) (values m.writes)
        → ran_by store names o m ≡ Some r → Unused others (world_of schema r.store)
    behind (Ok flow) m r kept is =
        let t = through store names m r is in
        let created : AllByRecursion (λ x. others x ≡ false) m.created = rw t.created taken in
        let written : All Old (values m.writes) = λ k d l. let h =
        kept k d l in known_values fresh others fewer (m.created, m.created) created _ h.0.fields h.1.1 in
        let objects : (x : Oref) (o : Object) → get (overwrite store.objects m.writes.pairs) x ≡ Some o
        → Old o = all_after Old m.writes.pairs written store.objects still_unused in
        subst (λ (q : Ran). Unused others (world_of schema q.store)) t.whole
        (record { stand_ins = stand_ins; roots = old_roots fresh others fewer schema.roots unused.roots; objects = objects })
    behind (Err (stop.Fault f)) m r kept is =
        let t = into store names f m r is in
        subst (λ (q : Ran). Unused others (world_of schema q.store)) t.whole
        (record { stand_ins = stand_ins; roots = old_roots fresh others fewer schema.roots unused.roots; objects = still_unused })
    behind (Err (stop.Need x owners)) m r kept is = cc
    behind (Err (stop.NeedName k)) m r kept is = cc

  -- the store behind a run refers to no name that was fresh and that the run didn't take
  pub unused_behind : (names : List Oref) (r : Ran) → Takeable fresh names → AllByRecursion (λ x. others x ≡ false) names
      → run schema tx store names ≡ Some r
      → Unused others (world_of schema r.store)
  unfolding run
  unused_behind names r t taken is =
      let p = execute_all w tx (begun names (Some 0)) in
      let s = both names taken 0 in
      let e = ends w fresh unused names (Some 0) names (Some 0) t t true true (omega arith) (omega arith) 0 tx (endless_had s p.0)
      (endless_had s p.0) in
      behind names taken 0 p.0 p.1 r e.twins.made.kept is

  -- no such name was written
  not_written : (t : Time) → AllByRecursion (λ x. others x ≡ false) t.0 → (ws : Map oref_cmp Object)
      → ((x : Oref) → has ws x ≡ true → (y : Oref) × Names fresh t x y)
      → (x : Oref) → others x ≡ true → get ws x ≡ None
  not_written t created ws only x h = by (get ws x) refl
    where
      by : (o : Option Object) → get ws x ≡ o → get ws x ≡ None
      by None e = e
      by (Some o) e =
          let n = only x (ap is_some e) in
          let f = known_name fresh others fewer t created x n.0 n.1 in cc

  written_by : (names : List Oref) → AllByRecursion (λ x. others x ≡ false) names → (o : Result Flow Stop) (m : Machine) (r : Ran)
      → ((x : Oref) → has m.writes x ≡ true → (y : Oref) × Names fresh (m.created, m.created) x y) → ran_by store names o m ≡ Some r
      → (x : Oref) → others x ≡ true → lookup (is_at (oref_cmp x)) r.written ≡ None
  written_by names taken (Ok flow) m r only is x h =
      let t = through store names m r is in
      let created : AllByRecursion (λ y. others y ≡ false) m.created = rw t.created taken in
      subst (λ (q : Ran). lookup (is_at (oref_cmp x)) q.written ≡ None) t.whole (not_written (m.created, m.created) created m.writes only x h)
  written_by names taken (Err (stop.Fault f)) m r only is x h =
      let t = into store names f m r is in
      subst (λ (q : Ran). lookup (is_at (oref_cmp x)) q.written ≡ None) t.whole refl
  written_by names taken (Err (stop.Need y owners)) m r only is x h = cc
  written_by names taken (Err (stop.NeedName k)) m r only is x h = cc

  pub unwritten_behind : (names : List Oref) (r : Ran) → Takeable fresh names → AllByRecursion (λ x. others x ≡ false) names
      → run schema tx store names ≡ Some r
      → (x : Oref) → others x ≡ true → get r.store.objects x ≡ get store.objects x
  unfolding run
  unwritten_behind names r t taken is x h =
      let p = execute_all w tx (begun names (Some 0)) in
      let s = both names taken 0 in
      let e = ends w fresh unused names (Some 0) names (Some 0) t t true true (omega arith) (omega arith) 0 tx (endless_had s p.0)
      (endless_had s p.0) in
      (run_behind schema tx store names r is).objects x (written_by names taken p.0 p.1 r e.twins.made.only is x h)
