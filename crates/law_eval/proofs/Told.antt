-- What evaluations answer, by how their runs end.
use Rattle.std.proofs.Common.{◌≡◌, ◌⊎◌, inl, inr, Bool, true, false, cond, map, List, [], ◌∷◌, ◌++◌, Option, Some, None, Result, Ok, Err, refl, ap, sym, subst, ◌∙◌, ℕ, zero, suc, arith, append_assoc}
use Rattle.std.specs.BTreeMap.{is_at}
use Rattle.std.specs.List.{AllByRecursion}
use Rattle.std.specs.Map.{lookup}
use Rattle.std.specs.Prelude.{Contains, find, is_some, ◌||◌}
use Rattle.thor_value.specs.FiniteMap.{get, has, keys}
use Rattle.thor_value.specs.Names.{oref_cmp, same_oref}
use Rattle.thor_value.specs.declared.names.Oref.{Oref}
use Rattle.thor_value.specs.declared.values.Answer.{Answer}
use Rattle.thor_value.specs.declared.values.Obj.{Obj}
use Rattle.class_defs.proofs.SameNames.{one_name, same_itself}
use Rattle.class_defs.specs.Objects.{take_name}
use Rattle.class_defs.specs.Run.{begun, execute_all}
use Rattle.class_defs.specs.Steps.{World}
use Rattle.class_defs.specs.Touched.{AgreeOn, HadObjects}
use Rattle.class_defs.specs.declared.machine.Flow.{Flow}
use Rattle.class_defs.specs.declared.machine.Machine.{Machine}
use Rattle.class_defs.specs.declared.machine.NameSupply.{NameSupply}
use Rattle.class_defs.specs.declared.machine.Stop.{Stop}
use Rattle.class_defs.specs.declared.machine.Stop.TheVariants as stop
use Rattle.class_defs.specs.declared.statements.Stmt.{Stmt}
use Rattle.class_defs.specs.declared.store.Schema.{Schema}
use Rattle.method_eval.specs.Answers.{evaluation, ran_at}
use Rattle.method_eval.specs.Names.{supply}
use Rattle.method_eval.specs.Viewed.{current, seen_in}
use Rattle.method_eval.specs.declared.view.Ran.TheVariants.{Done, Need, NeedName}
use Rattle.method_eval.specs.declared.view.View.{View}
use Rattle.law_eval.proofs.Ends.{AllKnown, AtHand, EndIs, is_named}
use Rattle.law_eval.proofs.EndsRun.{transaction_ends}
use Rattle.law_frame.proofs.TouchedStores.{state_alike}

-- ---- what the answer tells of the end of the run

module _ (w : World) (epoch : ℕ) (m : Machine) where
  need_of : (o : Result Flow Stop) (x : Oref) (owners : List Oref) → EndIs w o m → ran_at epoch o m ≡ Need x owners → w.at_hand x ≡ None
  need_of (Ok flow) x owners h is = cc
  need_of (Err (stop.Fault f)) x owners h is = cc
  need_of (Err (stop.Need y others)) x owners h is = let e : y ≡ x = cc in subst (λ z. w.at_hand z ≡ None) e h.0
  need_of (Err (stop.NeedName repo)) x owners h is = cc

  owners_of : (o : Result Flow Stop) (x : Oref) (owners : List Oref) → EndIs w o m → ran_at epoch o m ≡ Need x owners → (o ≡ Err (stop.Need x owners)) × AllKnown m owners
  owners_of (Ok flow) x owners h is = cc
  owners_of (Err (stop.Fault f)) x owners h is = cc
  owners_of (Err (stop.Need y others)) x owners h is =
      let e : y ≡ x = cc in
      let f : others ≡ owners = cc in
      (ap (λ z. Err (stop.Need z others)) e ∙ ap (λ zs. Err (stop.Need x zs)) f, subst (AllKnown m) f h.1)
  owners_of (Err (stop.NeedName repo)) x owners h is = cc

  name_of : (o : Result Flow Stop) (repo : ℕ) → EndIs w o m → ran_at epoch o m ≡ NeedName repo → (o ≡ Err (stop.NeedName repo)) × (take_name repo m.names ≡ None)
  name_of (Ok flow) repo h is = cc
  name_of (Err (stop.Fault f)) repo h is = cc
  name_of (Err (stop.Need y others)) repo h is = cc
  name_of (Err (stop.NeedName other)) repo h is =
      let e : other ≡ repo = cc in (ap (λ k. Err (stop.NeedName k)) e, subst (λ k. take_name k m.names ≡ None) e h)

  pub read_of : (o : Result Flow Stop) (a : Answer) (reads : List Oref) (writes : List (Oref × Obj)) (fresh : List Oref)
      → ran_at epoch o m ≡ Done a reads writes fresh → HadObjects o × (keys m.reads ≡ reads)
  read_of (Ok flow) a reads writes fresh is = (tt, cc)
  read_of (Err (stop.Fault f)) a reads writes fresh is = (tt, cc)
  read_of (Err (stop.Need y others)) a reads writes fresh is = cc
  read_of (Err (stop.NeedName other)) a reads writes fresh is = cc

-- each key of a map has a value
kept : {X : Type 0} (b : Bool) (o : Option X) (v : X) → is_some o ≡ true → is_some (cond b (Some v) o) ≡ true
kept true o v h = refl
kept false o v h = h

all_keys : {X : Type 0} (P : Oref → Type 0) (es : List (Oref × X)) → ((x : Oref) → is_some (lookup (is_at (oref_cmp x)) es) ≡ true → P x)
    → AllByRecursion P (map (λ (e : Oref × X). e.0) es)
all_keys P [] h = tt
all_keys P (e ∷ es) h = (
  h e.0 (ap (λ b. is_some (cond b (Some e.1) (lookup (is_at (oref_cmp e.0)) es))) (same_itself e.0)),
  all_keys P es (λ x g. h x (kept (same_oref x e.0) (lookup (is_at (oref_cmp x)) es) e.1 g)),
)

-- ---- names

first : (b : Bool) (z : Oref) (o : Option Oref) → b ≡ true → is_some (cond b (Some z) o) ≡ true
first true z o h = refl
first false z o h = cc

on_top : (b : Bool) (z : Oref) (o : Option Oref) → is_some o ≡ true → is_some (cond b (Some z) o) ≡ true
on_top true z o h = refl
on_top false z o h = h

behind : (xs ys : List Oref) (x : Oref) → is_named ys x ≡ true → is_named (xs ++ ys) x ≡ true
behind [] ys x h = h
behind (z ∷ xs) ys x h = on_top (same_oref x z) z (find (same_oref x) (xs ++ ys)) (behind xs ys x h)

-- a name that is among some is one of them
contained : (xs : List Oref) (x : Oref) → is_named xs x ≡ true → Contains xs x
contained [] x h = cc
contained (z ∷ xs) x h = by (same_oref x z) refl (contained xs x) h
  where
    by : (b : Bool) → same_oref x z ≡ b → (is_some (find (same_oref x) xs) ≡ true → Contains xs x) → is_some (cond b (Some z) (find (same_oref x) xs)) ≡ true → Contains (z ∷ xs) x
    by true e rest k = (zero, omega arith, sym (one_name x z true e refl))
    by false e rest k = let g = rest k in (suc g.0, omega (arith, g.1), g.2)

module _ (tx : List Stmt) (schema : Schema) (view : View) where
  abbrev w : World
  w = seen_in schema view.objects

  abbrev ended : Result Flow Stop × Machine
  ended = execute_all w tx (begun (supply view.names).waiting (supply view.names).stand_in)

  pub needed : (x : Oref) (owners : List Oref) → evaluation tx schema view ≡ Need x owners → current schema (get view.objects x) ≡ None
  unfolding evaluation
  needed x owners is = need_of w view.epoch ended.1 ended.0 x owners (transaction_ends w tx (supply view.names).waiting (supply view.names).stand_in).ended is

  -- the owners that are told with an object that is needed are at hand, or were made by this evaluation
  pub owners_needed : (x : Oref) (owners : List Oref) → evaluation tx schema view ≡ Need x owners
      → (m : Machine) × (execute_all w tx (begun (supply view.names).waiting (supply view.names).stand_in) ≡ (Err (stop.Need x owners), m))
      × AllByRecursion (λ a. (is_some (current schema (get view.objects a)) ≡ true) ⊎ (is_some (find (same_oref a) m.created) ≡ true)) owners
  unfolding evaluation
  owners_needed x owners is =
      let went = transaction_ends w tx (supply view.names).waiting (supply view.names).stand_in in
      let told = owners_of w view.epoch ended.1 ended.0 x owners went.ended is in
      let none : AtHand w (begun (supply view.names).waiting (supply view.names).stand_in) = λ y h. cc in
      (ended.1, ap (λ (o : Result Flow Stop). (o, ended.1)) told.0, each owners told.1 (went.hand none))
    where
      either : (b c : Bool) (a : Oref) → (b ≡ true → is_some (current schema (get view.objects a)) ≡ true) → (b || c) ≡ true → (is_some (current schema (get view.objects a)) ≡ true) ⊎ (c ≡ true)
      either true c a f h = inl (f refl)
      either false c a f h = inr h

      each : (xs : List Oref) → AllKnown ended.1 xs → AtHand w ended.1
          → AllByRecursion (λ a. (is_some (current schema (get view.objects a)) ≡ true) ⊎ (is_some (find (same_oref a) ended.1.created) ≡ true)) xs
      each [] h hand = tt
      each (a ∷ xs) h hand = (either (has ended.1.reads a) (is_some (find (same_oref a) ended.1.created)) a (hand a) h.0, each xs h.1 hand)

  pub name_needed : (repo : ℕ) → evaluation tx schema view ≡ NeedName repo
      → (m : Machine) × (execute_all w tx (begun (supply view.names).waiting (supply view.names).stand_in) ≡ (Err (stop.NeedName repo), m)) × (take_name repo m.names ≡ None)
  unfolding evaluation
  name_needed repo is =
      let told = name_of w view.epoch ended.1 ended.0 repo (transaction_ends w tx (supply view.names).waiting (supply view.names).stand_in).ended is in
      (ended.1, ap (λ (o : Result Flow Stop). (o, ended.1)) told.0, told.1)

  pub all_read : (a : Answer) (reads : List Oref) (writes : List (Oref × Obj)) (fresh : List Oref) → evaluation tx schema view ≡ Done a reads writes fresh
      → AllByRecursion (λ x. is_some (current schema (get view.objects x)) ≡ true) reads
  unfolding evaluation
  all_read a reads writes fresh is =
      let P : Oref → Type 0 = λ x. is_some (current schema (get view.objects x)) ≡ true in
      let none : AtHand w (begun (supply view.names).waiting (supply view.names).stand_in) = λ x h. cc in
      subst (AllByRecursion P) (read_of w view.epoch ended.1 ended.0 a reads writes fresh is).1
      (all_keys P ended.1.reads.pairs (λ x h. (transaction_ends w tx (supply view.names).waiting (supply view.names).stand_in).hand none x h))

  pub holds_elsewhere : (other : View) (a : Answer) (reads : List Oref) (writes : List (Oref × Obj)) (fresh : List Oref) → evaluation tx schema view ≡ Done a reads writes fresh
      → supply other.names ≡ supply view.names → other.epoch ≡ view.epoch
      → ((x : Oref) → Contains reads x → current schema (get other.objects x) ≡ current schema (get view.objects x))
      → evaluation tx schema other ≡ Done a reads writes fresh
  unfolding evaluation
  holds_elsewhere other a reads writes fresh is names epoch same =
      let told = read_of w view.epoch ended.1 ended.0 a reads writes fresh is in
      let agree : AgreeOn (keys ended.1.reads) (λ x. current schema (get view.objects x)) (λ x. current schema (get other.objects x)) =
      λ x c. same x (subst (λ (l : List Oref). Contains l x) told.1 c) in
      let there = state_alike schema (λ x. current schema (get view.objects x)) (λ x. current schema (get other.objects x)) tx
      (supply view.names).waiting (supply view.names).stand_in ended.0 ended.1 refl told.0 agree in
      ap (λ (s : NameSupply). let r = execute_all (seen_in schema other.objects) tx (begun s.waiting s.stand_in) in ran_at other.epoch r.0 r.1) names
      ∙ ap (λ (p : Result Flow Stop × Machine). ran_at other.epoch p.0 p.1) there
      ∙ ap (λ (e : ℕ). ran_at e ended.0 ended.1) epoch
      ∙ is

  -- where there are no stand-in names, the new objects took names that waited
  pub all_fresh : (a : Answer) (reads : List Oref) (writes : List (Oref × Obj)) (fresh : List Oref) → evaluation tx schema view ≡ Done a reads writes fresh
      → (supply view.names).stand_in ≡ None → AllByRecursion (λ x. Contains (supply view.names).waiting x) fresh
  unfolding evaluation
  all_fresh a reads writes fresh is none = by ended.0 is
    where
      waited : (x : Oref) → is_named ended.1.created x ≡ true → Contains (supply view.names).waiting x
      waited x h = elim ((transaction_ends w tx (supply view.names).waiting (supply view.names).stand_in).takes.made none x h) [
        | inl k ↦ cc
        | inr k ↦ contained (supply view.names).waiting x k
      ]

      each : (xs ys : List Oref) → ((x : Oref) → is_named (xs ++ ys) x ≡ true → Contains (supply view.names).waiting x) → AllByRecursion (λ x. Contains (supply view.names).waiting x) ys
      each xs [] h = tt
      each xs (y ∷ ys) h = (
        h y (behind xs (y ∷ ys) y (first (same_oref y y) y (find (same_oref y) ys) (same_itself y))),
        each (xs ++ y ∷ []) ys (λ x k. h x (subst (λ (zs : List Oref). is_named zs x ≡ true) (append_assoc xs (y ∷ []) ys) k)),
      )

      by : (o : Result Flow Stop) → ran_at view.epoch o ended.1 ≡ Done a reads writes fresh → AllByRecursion (λ x. Contains (supply view.names).waiting x) fresh
      by (Ok flow) e = let same : ended.1.created ≡ fresh = cc in subst (AllByRecursion (λ x. Contains (supply view.names).waiting x)) same (each [] ended.1.created waited)
      by (Err (stop.Fault f)) e = let same : [] ≡ fresh = cc in subst (AllByRecursion (λ x. Contains (supply view.names).waiting x)) same tt
      by (Err (stop.Need y others)) e = cc
      by (Err (stop.NeedName other)) e = cc
