-- An evaluation over a part of some objects answers as over all of them, or needs one that this reads.
use Rattle.std.proofs.Common.{◌≡◌, ◌⊎◌, Bool, true, false, cond, List, [], ◌∷◌, Option, Some, None, Result, Ok, Err, refl, ap, sym, subst, ◌∙◌, ℕ, zero, suc, arith, inl, inr}
use Rattle.std.proofs.lemmas.Map.Views.{Contains-keys_from_lookup, tells_apart}
use Rattle.std.proofs.lemmas.Bool.{both_ways}
use Rattle.std.specs.BTreeMap.{is_at}
use Rattle.std.specs.Map.{keys_of, lookup}
use Rattle.std.specs.Prelude.{Contains, is_some}
use Rattle.thor_value.proofs.NameOrders.{oref_exact}
use Rattle.thor_value.specs.FiniteMap.{Map, get, has, keys}
use Rattle.thor_value.specs.Names.{oref_cmp, same_oref}
use Rattle.thor_value.specs.declared.names.Oref.{Oref}
use Rattle.thor_value.specs.declared.values.Answer.{Answer}
use Rattle.thor_value.specs.declared.values.Obj.{Obj}
use Rattle.class_defs.proofs.SameNames.{one_name, same_itself}
use Rattle.class_defs.specs.Run.{begun, execute_all}
use Rattle.class_defs.specs.Touched.{HadObjects}
use Rattle.class_defs.specs.declared.machine.Flow.{Flow}
use Rattle.class_defs.specs.declared.machine.Machine.{Machine}
use Rattle.class_defs.specs.declared.machine.NameSupply.{NameSupply}
use Rattle.class_defs.specs.declared.machine.Stop.{Stop}
use Rattle.class_defs.specs.declared.machine.Stop.TheVariants as stop
use Rattle.class_defs.specs.declared.statements.Stmt.{Stmt}
use Rattle.class_defs.specs.declared.store.Object.{Object}
use Rattle.class_defs.specs.declared.store.Schema.{Schema}
use Rattle.law_eval.proofs.EndsRun.{transaction_ends}
use Rattle.law_eval.proofs.NeedsRun.{needs_alike}
use Rattle.law_eval.proofs.Told.{needed, read_of}
use Rattle.law_eval.specs.Telling.{HasAsMuch, IsNeeded}
use Rattle.method_eval.specs.Answers.{evaluation, ran_at}
use Rattle.method_eval.specs.Names.{supply}
use Rattle.method_eval.specs.Viewed.{current, seen_in}
use Rattle.method_eval.specs.declared.view.Ran.{Ran}
use Rattle.method_eval.specs.declared.view.Ran.TheVariants.{Done, Need}
use Rattle.method_eval.specs.declared.view.View.{View}
use Rattle.law_frame.proofs.TouchedStores.{state_alike}

-- a map has its keys
found : {X : Type 0} (m : Map oref_cmp X) (x : Oref) → has m x ≡ true → Contains (keys m) x
found m x h = Contains-keys_from_lookup (tells_apart oref_exact) x m.pairs h

-- and no others
kept : {X : Type 0} (es : List (Oref × X)) (x : Oref) → Contains (keys_of es) x → is_some (lookup (is_at (oref_cmp x)) es) ≡ true
kept [] x (k, l, e) = absurd (omega arith)
kept (f ∷ es) x (zero, l, e) = ap (λ (b : Bool). is_some (cond b (Some f.1) (lookup (is_at (oref_cmp x)) es))) (ap (same_oref x) e ∙ same_itself x)
kept (f ∷ es) x (suc k, l, e) = by (same_oref x f.0) (kept es x (k, omega arith, e))
  where
    by : (b : Bool) → is_some (lookup (is_at (oref_cmp x)) es) ≡ true → is_some (cond b (Some f.1) (lookup (is_at (oref_cmp x)) es)) ≡ true
    by true h = refl
    by false h = h

module _ (tx : List Stmt) (schema : Schema) (view other : View) (more : HasAsMuch schema view other) where
  abbrev f : Oref → Option Object
  f x = current schema (get view.objects x)

  abbrev g : Oref → Option Object
  g x = current schema (get other.objects x)

  abbrev names : NameSupply
  names = supply view.names

  abbrev runs : (Oref → Option Object) → Result Flow Stop × Machine
  runs objects = execute_all (record { schema = schema; at_hand = objects }) tx (begun names.waiting names.stand_in)

  -- what was read is at hand
  hand : (x : Oref) → has (runs f).1.reads x ≡ true → is_some (f x) ≡ true
  hand = (transaction_ends (seen_in schema view.objects) tx names.waiting names.stand_in).hand (λ x h. cc)

  abbrev answered : Result Flow Stop × Machine → ℕ → Ran
  answered p epoch = ran_at epoch p.0 p.1

  over_other : evaluation tx schema other ≡ answered (runs g) view.epoch
  unfolding evaluation
  over_other =
      ap (λ (s : NameSupply). let r = execute_all (seen_in schema other.objects) tx (begun s.waiting s.stand_in) in ran_at other.epoch r.0 r.1) more.names
      ∙ ap (λ (e : ℕ). answered (runs g) e) more.epoch

  over_view : evaluation tx schema view ≡ answered (runs f) view.epoch
  unfolding evaluation
  over_view = refl

  -- ---- an object that is needed

  needs : (h : Oref → Option Object) (x : Oref) (owners : List Oref) → answered (runs f) view.epoch ≡ Need x owners → ((y : Oref) → is_some (f y) ≡ true → h y ≡ f y) → h x ≡ None → runs h ≡ runs f
  needs h x owners is same none = needs_alike schema f h tx names.waiting names.stand_in x owners (stopped (runs f).0 (runs f).1 is) (λ y read. same y (hand y read)) none
    where
      stopped : (o : Result Flow Stop) (m : Machine) → ran_at view.epoch o m ≡ Need x owners → o ≡ Err (stop.Need x owners)
      stopped (Ok flow) m e = cc
      stopped (Err (stop.Fault k)) m e = cc
      stopped (Err (stop.NeedName repo)) m e = cc
      stopped (Err (stop.Need y others)) m e = let p : y ≡ x = cc in let q : others ≡ owners = cc in ap (λ z. Err (stop.Need z others)) p ∙ ap (λ zs. Err (stop.Need x zs)) q

  pub needed_there : (x : Oref) (owners : List Oref) → evaluation tx schema view ≡ Need x owners → current schema (get other.objects x) ≡ None → evaluation tx schema other ≡ Need x owners
  needed_there x owners is none =
      let e : answered (runs f) view.epoch ≡ Need x owners = sym over_view ∙ is in
      over_other ∙ ap (λ p. answered p view.epoch) (needs g x owners e more.objects none) ∙ e

  -- ---- where all of them are enough

  module _ (a : Answer) (reads : List Oref) (writes : List (Oref × Obj)) (fresh : List Oref) (done : evaluation tx schema other ≡ Done a reads writes fresh) where
    done_there : answered (runs g) view.epoch ≡ Done a reads writes fresh
    done_there = sym over_other ∙ done

    abbrev without : Oref → Oref → Option Object
    without x y = cond (same_oref y x) None (g y)

    -- an object that is needed is read
    pub is_read : (x : Oref) (owners : List Oref) → evaluation tx schema view ≡ Need x owners → current schema (get view.objects x) ≡ None → Contains reads x
    is_read x owners is none = by (has (runs g).1.reads x) refl
      where
        told : HadObjects (runs g).0 × (keys (runs g).1.reads ≡ reads)
        told = read_of (seen_in schema other.objects) view.epoch (runs g).1 (runs g).0 a reads writes fresh done_there

        apart : (y : Oref) (b : Bool) → same_oref y x ≡ b → (y ≡ x → ⊥) → without x y ≡ g y
        apart y true e not = absurd (not (one_name y x true e refl))
        apart y false e not = ap (λ b. cond b None (g y)) e

        absent : without x x ≡ None
        absent = ap (λ b. cond b None (g x)) (same_itself x)

        there : (y : Oref) → is_some (f y) ≡ true → without x y ≡ f y
        there y k = apart y (same_oref y x) refl (λ e. absurd (both_ways (is_some (f x)) (ap is_some none) (ap (λ z. is_some (f z)) (sym e) ∙ k))) ∙ more.objects y k

        no_need : (o : Result Flow Stop) (m : Machine) → ran_at view.epoch o m ≡ Done a reads writes fresh → ran_at view.epoch o m ≡ Need x owners → ⊥
        no_need o m p q = let e : Done a reads writes fresh ≡ Need x owners = sym p ∙ q in cc

        by : (b : Bool) → has (runs g).1.reads x ≡ b → Contains reads x
        by true e = subst (λ (l : List Oref). Contains l x) told.1 (found (runs g).1.reads x e)
        by false e =
            let same : runs (without x) ≡ runs g =
            state_alike schema g (without x) tx names.waiting names.stand_in (runs g).0 (runs g).1 refl told.0
            (λ y c. apart y (same_oref y x) refl (λ same. absurd (both_ways (has (runs g).1.reads x) e (ap (λ z. has (runs g).1.reads z) (sym same) ∙ kept (runs g).1.reads.pairs y c)))) in
            let wanted : answered (runs f) view.epoch ≡ Need x owners = sym over_view ∙ is in
            let alike : runs (without x) ≡ runs f = needs (without x) x owners wanted there absent in
            absurd (no_need (runs g).0 (runs g).1 done_there (ap (λ p. answered p view.epoch) (sym same ∙ alike) ∙ wanted))

    pub done_or_needed : (evaluation tx schema view ≡ Done a reads writes fresh) ⊎ ((x : Oref) × (owners : List Oref) × IsNeeded tx schema view x owners × Contains reads x)
    done_or_needed = by (runs f).0 (runs f).1 refl
      where
        same_done : (o : Result Flow Stop) (m : Machine) → runs f ≡ (o, m) → HadObjects o → evaluation tx schema view ≡ Done a reads writes fresh
        same_done o m e had =
            let there : runs g ≡ (o, m) = state_alike schema f g tx names.waiting names.stand_in o m e had
            (λ y c. more.objects y (hand y (ap (λ (p : Result Flow Stop × Machine). has p.1.reads y) e ∙ kept m.reads.pairs y c))) in
            over_view ∙ ap (λ p. answered p view.epoch) (e ∙ sym there) ∙ done_there

        by : (o : Result Flow Stop) (m : Machine) → runs f ≡ (o, m) → (evaluation tx schema view ≡ Done a reads writes fresh) ⊎ ((x : Oref) × (owners : List Oref) × IsNeeded tx schema view x owners × Contains reads x)
        by (Ok flow) m e = inl (same_done (Ok flow) m e tt)
        by (Err (stop.Fault k)) m e = inl (same_done (Err (stop.Fault k)) m e tt)
        by (Err (stop.NeedName repo)) m e = inl (same_done (Err (stop.NeedName repo)) m e tt)
        by (Err (stop.Need x owners)) m e =
            let is : evaluation tx schema view ≡ Need x owners = over_view ∙ ap (λ p. answered p view.epoch) e in
            let none : current schema (get view.objects x) ≡ None = needed tx schema view x owners is in
            inr (x, owners, record { answer = is; none = none }, is_read x owners is none)
