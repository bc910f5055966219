-- What the transactions of the run rest on.
use Rattle.law_atomic_commit.specs.Several.{part}
use Rattle.class_defs.proofs.RuleForms.{the_forms}
use Rattle.class_defs.specs.Calls.{call as called, call_object, owners_at, run_body}
use Rattle.class_defs.specs.Eager.{brought, value as value_of}
use Rattle.class_defs.specs.Epochs.{schema_at}
use Rattle.class_defs.specs.Expressions.{expression, values_of}
use Rattle.class_defs.specs.Levels.{greatest, is_due, lags}
use Rattle.class_defs.specs.Objects.{assign_field, create, field_value, named_value, new_object, scope_at, seen, take_name, touch}
use Rattle.class_defs.specs.Ownership.{IsAbove, IsPart, Owns}
use Rattle.class_defs.specs.Run.{Ran, begun, changed, execute_all, meaning, ran_by, run as run_of, world_of}
use Rattle.class_defs.specs.Statements.{assigned, block_of, in_order, statement, unless_returned}
use Rattle.class_defs.specs.Steps.{Action, after, change, pure, step, ◌>>◌}
use Rattle.class_defs.specs.Stored.{Stored, bare, in_epoch}
use Rattle.class_defs.specs.Touched.{on_store}
use Rattle.class_defs.specs.declared.machine.Flow.TheVariants.{Next}
use Rattle.class_defs.specs.declared.machine.Flow.{Flow}
use Rattle.class_defs.specs.declared.machine.Machine.{Machine}
use Rattle.class_defs.specs.declared.machine.Stop.{Stop}
use Rattle.class_defs.specs.declared.statements.Stmt.{Stmt}
use Rattle.class_defs.specs.declared.store.Object.{Object}
use Rattle.class_defs.specs.declared.store.Plain.{Plain}
use Rattle.class_defs.specs.declared.store.Schema.{Schema}
use Rattle.class_defs.specs.declared.types.ExprType.TheVariants as type
use Rattle.spec_history.specs.History.{Known, objects_at}
use Rattle.spec_history.specs.Requests.{has_read}
use Rattle.law_frame.proofs.TouchedStores.{store_alike}
use Rattle.law_serializability.specs.Resting.{EachRests, HasRead, PlainMet, RanAs, RestsAs, TransformRests, TxRests}
use Rattle.serial_model.specs.History.{run_on}
use Rattle.rows_serial.proofs.Standing.{added_away, added_known, asked_known, brought_known, each}
use Rattle.rows_serial.specs.Rows.{a, a_box, a_part, add_it, added, adding, an_owner, ask_part, asked, asking, at, brought_there, first, items, o, p, roots, run, schemas, second, upgrade}
use Rattle.std.proofs.Common.{Bool, List, [], ap, cond, false, inl, inr, length, refl, subst, suc, sym, take, true, zero, ℕ, ◌≡◌, ◌∙◌, ◌∷◌}
use Rattle.std.proofs.lemmas.Map.Views.{tells_apart}
use Rattle.std.proofs.lemmas.Option.{same_Some}
use Rattle.std.specs.List.{Contains, IsDistinct, list_any}
use Rattle.std.specs.Option.{IsSome, IsSomeAnd, option_and_then, option_map}
use Rattle.std.specs.Prelude.{None, Ok, Option, Result, Some, codes, pos, ◌||◌, ◌⊎◌}
use Rattle.law_lazy_history.specs.Standing.{left_at}
use Rattle.thor_value.proofs.NameOrders.{oref_exact}
use Rattle.thor_value.specs.FiniteMap.{empty, get, insert, overwrite}
use Rattle.thor_value.specs.Names.{same_oref}
use Rattle.thor_value.specs.declared.names.Oref.{Oref}
use Rattle.thor_value.specs.declared.values.Answer.TheVariants.{Ints}
use Rattle.thor_value.specs.declared.values.Obj.{Obj}
use Rattle.thor_value.specs.declared.values.Value.TheVariants as value
use Rattle.law_global_order.proofs.Lists.{In, from-in, to-in}
use Rattle.rows_language.proofs.RunForms.{deep, run_forms, turns}
use Rattle.rows_language.proofs.TfForms.{tf_forms}

ruleset forms = (the_forms, run_forms)

-- ---- names in lists

among : (x : Oref) (ys : List Oref) → list_any (same_oref x) ys ≡ true → In x ys
among x [] h = cc
among x (y ∷ ys) h = by (same_oref x y) refl h (among x ys)
  where
    by : (b : Bool) → same_oref x y ≡ b → (b || list_any (same_oref x) ys) ≡ true → (list_any (same_oref x) ys ≡ true → In x ys) → In x (y ∷ ys)
    by true is k rest = inl (sym (tells_apart oref_exact x y is))
    by false is k rest = inr (rest k)

-- what is written at one name
at-one : {X : Type 0} (x y : Oref) (v : X) → IsSome (left_at ((y, v) ∷ []) x) → y ≡ x
at-one x y v h = by (same_oref x y) refl h
  where
    by : (b : Bool) → same_oref x y ≡ b → IsSome (cond b (Some v) None) → y ≡ x
    by true is k = sym (tells_apart oref_exact x y is)
    by false is k = cc

in-its-epoch : (e : ℕ) (x y : Oref) (v : Object) → left_at ((y, in_epoch e v) ∷ []) x ≡ option_map (in_epoch e) (left_at ((y, v) ∷ []) x)
in-its-epoch e x y v = by (same_oref x y)
  where
    by : (b : Bool) → cond b (Some (in_epoch e v)) None ≡ option_map (in_epoch e) (cond b (Some v) None)
    by true = refl
    by false = refl

-- what stands at one repository
there : (v w : Known) → Some v ≡ Some w → v ≡ w
there v w h = same_Some v w h

some-and : (k : Option Ran) (P : Ran → Type 0) (r : Ran) → k ≡ Some r → P r → IsSomeAnd k P
some-and k P r is h = subst (λ j. IsSomeAnd j P) (sym is) h

none-twice : IsDistinct same_oref []
unfolding IsDistinct
none-twice = tt

-- ---- the first transaction

abbrev before : Plain
before = record { objects = overwrite empty ((o, bare an_owner) ∷ (p, bare (a_part 0 7)) ∷ (a, bare (a_box 5)) ∷ []); epoch = 0; roots = [] }

abbrev first_ran : Ran
first_ran = record { answer = Ints []; touched = o ∷ p ∷ a ∷ []; written = (a, bare (a_box 12)) ∷ []; store = changed before ((a, bare (a_box 12)) ∷ []) }

-- two statements, one behind the other
in-turn : (exec : Stmt → Action Flow) (s t : Stmt) (k m n : Machine) → exec s k ≡ (Ok Next, m) → exec t m ≡ (Ok Next, n)
    → block_of exec (s ∷ t ∷ []) k ≡ (Ok Next, record n { locals = take (length k.locals) n.locals })
unfolding block_of
in-turn exec s t k m n one two =
    ap (λ (q : Result Flow Stop × Machine). ending (after q.0 q.1 (λ flow. unless_returned flow (in_order exec (t ∷ []))))) one
    ∙ ap (λ (q : Result Flow Stop × Machine). ending (after q.0 q.1 (λ flow. unless_returned flow (in_order exec [])))) two
  where
    ending : Result Flow Stop × Machine → Result Flow Stop × Machine
    ending q = after q.0 q.1 (λ flow. change (λ n. record n { locals = take (length k.locals) n.locals }) >> pure flow)

abbrev start : Machine
start = begun [] (Some 0)

abbrev between : Machine
between = record start { steps = 8; locals = record { name = codes "k"; kind = type.Int; value = value.Int (pos 7) } ∷ []; reads = insert (insert empty o tt) p tt }

abbrev end : Machine
end = record between { steps = 18; reads = insert between.reads a tt; writes = insert empty a (bare (a_box 12)) }

runs-ask : (meaning (world_of first before) 100001).execute ask_part start ≡ (Ok Next, between)
unfolding deep turns statement expression values_of block_of step named_value scope_at called call_object run_body touch seen owners_at field_value assign_field assigned create take_name new_object
runs-ask = simp forms refl

runs-add : (meaning (world_of first before) 100001).execute add_it between ≡ (Ok Next, end)
unfolding deep turns statement expression values_of block_of step named_value scope_at called call_object run_body touch seen owners_at field_value assign_field assigned create take_name new_object
runs-add = simp forms refl

runs-first : run_of first adding before [] ≡ Some first_ran
unfolding run_of execute_all
runs-first = ap (λ (q : Result Flow Stop × Machine). ran_by before [] q.0 q.1) (in-turn (meaning (world_of first before) 100001).execute ask_part add_it start between end runs-ask runs-add)

none-due : (w : Obj) → is_due schemas 0 w ≡ false
unfolding greatest
none-due w = refl

first-rests : TxRests schemas items run (at 1) added
first-rests = record {
  tx = adding;
  item = refl;
  runs = runs;
  undue = λ r v x w is read stands. none-due w;
  unborn = λ r v x is new wrote. cc;
  distinct = none-twice;
  created = λ x h. cc;
}
  where
    agree : (M : Plain) → PlainMet run (at 1) added M → (x : Oref) → Contains (o ∷ p ∷ a ∷ []) x → get M.objects x ≡ get before.objects x
    agree M met x c = by x (to-in (o ∷ p ∷ a ∷ []) x c)
      where
        by : (x : Oref) → In x (o ∷ p ∷ a ∷ []) → get M.objects x ≡ get before.objects x
        by x (inl e) = subst (λ y. get M.objects y ≡ get before.objects y) e (met.old 0 added_known o refl refl refl)
        by x (inr (inl e)) = subst (λ y. get M.objects y ≡ get before.objects y) e (met.old 0 added_known p refl refl refl)
        by x (inr (inr (inl e))) = subst (λ y. get M.objects y ≡ get before.objects y) e (met.old 1 added_away a refl refl refl)
        by x (inr (inr (inr e))) = absurd e

    -- what it read is what the run touched
    forth : (x : Oref) → HasRead run (at 1) x → Contains (o ∷ p ∷ a ∷ []) x ⊎ IsSome (left_at first_ran.written x)
    forth x (zero, v, is, read) = inl (from-in (o ∷ p ∷ a ∷ []) x (by (among x (o ∷ p ∷ []) (subst (λ (k : Known). has_read k.request x ≡ true) (sym (there added_known v is)) read))))
      where
        by : In x (o ∷ p ∷ []) → In x (o ∷ p ∷ a ∷ [])
        by (inl e) = inl e
        by (inr (inl e)) = inr (inl e)
        by (inr (inr e)) = absurd e
    forth x (suc zero, v, is, read) = inl (from-in (o ∷ p ∷ a ∷ []) x (by (among x (a ∷ []) (subst (λ (k : Known). has_read k.request x ≡ true) (sym (there added_away v is)) read))))
      where
        by : In x (a ∷ []) → In x (o ∷ p ∷ a ∷ [])
        by (inl e) = inr (inr (inl e))
        by (inr e) = absurd e
    forth x (suc (suc n), v, is, read) = cc

    reads : (x : Oref) → In x (o ∷ p ∷ a ∷ []) → HasRead run (at 1) x
    reads x (inl e) = subst (HasRead run (at 1)) e (0, added_known, refl, refl)
    reads x (inr (inl e)) = subst (HasRead run (at 1)) e (0, added_known, refl, refl)
    reads x (inr (inr (inl e))) = subst (HasRead run (at 1)) e (1, added_away, refl, refl)
    reads x (inr (inr (inr e))) = absurd e

    back : (x : Oref) → Contains (o ∷ p ∷ a ∷ []) x ⊎ IsSome (left_at first_ran.written x) → HasRead run (at 1) x
    back x (inl c) = reads x (to-in (o ∷ p ∷ a ∷ []) x c)
    back x (inr w) = reads x (inr (inr (inl (at-one x a (bare (a_box 12)) w))))

    runs : (M : Plain) → PlainMet run (at 1) added M → IsSomeAnd (run_on schemas M adding []) (RanAs run (at 1) added)
    runs M met = some-and (run_on schemas M adding []) (RanAs run (at 1) added) (on_store M first_ran)
        (ap (λ e. option_and_then (λ (c : Schema). run_of c adding M []) (schema_at schemas e)) met.epoch ∙ store_alike first adding before M [] first_ran runs-first (agree M met))
        (record { answer = refl; reads = λ x. (forth x, back x); writes = λ x. in-its-epoch 0 x a (bare (a_box 12)) })

-- ---- the last transaction

abbrev behind : Plain
behind = record { objects = overwrite empty ((o, bare an_owner) ∷ (p, bare (a_part 1 70)) ∷ []); epoch = 1; roots = [] }

abbrev last_ran : Ran
last_ran = record { answer = Ints (pos 70 ∷ []); touched = o ∷ p ∷ []; written = []; store = changed behind [] }

runs-last : run_of second asking behind [] ≡ Some last_ran
unfolding run_of execute_all deep turns statement expression values_of block_of step named_value scope_at called call_object run_body touch seen owners_at field_value assign_field assigned create take_name new_object
runs-last = simp forms refl

owner-undue : is_due schemas 1 an_owner ≡ false
unfolding greatest lags
owner-undue = refl

part-undue : is_due schemas 1 (a_part 1 70) ≡ false
unfolding greatest lags
part-undue = refl

last-rests : TxRests schemas items run (at 4) asked
last-rests = record {
  tx = asking;
  item = refl;
  runs = runs;
  undue = undue;
  unborn = λ r v x is new wrote. cc;
  distinct = none-twice;
  created = λ x h. cc;
}
  where
    agree : (M : Plain) → PlainMet run (at 4) asked M → (x : Oref) → Contains (o ∷ p ∷ []) x → get M.objects x ≡ get behind.objects x
    agree M met x c = by x (to-in (o ∷ p ∷ []) x c)
      where
        by : (x : Oref) → In x (o ∷ p ∷ []) → get M.objects x ≡ get behind.objects x
        by x (inl e) = subst (λ y. get M.objects y ≡ get behind.objects y) e (met.old 0 asked_known o refl refl refl)
        by x (inr (inl e)) = subst (λ y. get M.objects y ≡ get behind.objects y) e (met.old 0 asked_known p refl refl refl)
        by x (inr (inr e)) = absurd e

    undue : (r : ℕ) (v : Known) (x : Oref) (w : Obj) → part run r (at 4) ≡ Some v → has_read v.request x ≡ true → get (objects_at (run.base r) (run.history r) v.place) x ≡ Some w → is_due schemas 1 w ≡ false
    undue zero v x w is read stands =
        let same : asked_known ≡ v = there asked_known v is in
        by x (among x (o ∷ p ∷ []) (subst (λ (k : Known). has_read k.request x ≡ true) (sym same) read)) (subst (λ (k : Known). get (objects_at (run.base 0) (run.history 0) k.place) x ≡ Some w) (sym same) stands)
      where
        by : (x : Oref) → In x (o ∷ p ∷ []) → get (objects_at (run.base 0) (run.history 0) 6) x ≡ Some w → is_due schemas 1 w ≡ false
        by x (inl e) k = subst (λ (u : Obj). is_due schemas 1 u ≡ false) (same_Some an_owner w (subst (λ y. get (objects_at (run.base 0) (run.history 0) 6) y ≡ Some w) (sym e) k)) owner-undue
        by x (inr (inl e)) k = subst (λ (u : Obj). is_due schemas 1 u ≡ false) (same_Some (a_part 1 70) w (subst (λ y. get (objects_at (run.base 0) (run.history 0) 6) y ≡ Some w) (sym e) k)) part-undue
        by x (inr (inr e)) k = absurd e
    undue (suc zero) v x w is read stands = cc
    undue (suc (suc n)) v x w is read stands = cc

    forth : (x : Oref) → HasRead run (at 4) x → Contains (o ∷ p ∷ []) x ⊎ IsSome (left_at last_ran.written x)
    forth x (zero, v, is, read) = inl (from-in (o ∷ p ∷ []) x (among x (o ∷ p ∷ []) (subst (λ (k : Known). has_read k.request x ≡ true) (sym (there asked_known v is)) read)))
    forth x (suc zero, v, is, read) = cc
    forth x (suc (suc n), v, is, read) = cc

    back : (x : Oref) → Contains (o ∷ p ∷ []) x ⊎ IsSome (left_at last_ran.written x) → HasRead run (at 4) x
    back x (inl c) = reads x (to-in (o ∷ p ∷ []) x c)
      where
        reads : (x : Oref) → In x (o ∷ p ∷ []) → HasRead run (at 4) x
        reads x (inl e) = subst (HasRead run (at 4)) e (0, asked_known, refl, refl)
        reads x (inr (inl e)) = subst (HasRead run (at 4)) e (0, asked_known, refl, refl)
        reads x (inr (inr e)) = absurd e
    back x (inr w) = cc

    runs : (M : Plain) → PlainMet run (at 4) asked M → IsSomeAnd (run_on schemas M asking []) (RanAs run (at 4) asked)
    runs M met = some-and (run_on schemas M asking []) (RanAs run (at 4) asked) (on_store M last_ran)
        (ap (λ e. option_and_then (λ (c : Schema). run_of c asking M []) (schema_at schemas e)) met.epoch ∙ store_alike second asking behind M [] last_ran runs-last (agree M met))
        (record { answer = refl; reads = λ x. (forth x, back x); writes = λ x. refl })

-- ---- the transform

-- what the upgrade makes of the part, on every map
made : (N : Stored) → N.epoch ≡ 1 → brought schemas N (a_part 0 7) ≡ a_part 1 70
unfolding value_of
made N is = subst (λ e. in_epoch e (value_of schemas N.objects e (a_part 0 7)) ≡ a_part 1 70) (sym is) (simp tf_forms refl)

transform-rests : TransformRests schemas roots run (at 3) brought_there
transform-rests N fits same met = record {
  x = p;
  object = a_part 0 7;
  there = met.objects 0 brought_known p refl refl;
  writes = ap (λ (v : Obj). (p, v) ∷ []) (sym (made N met.epoch));
  undue = λ n x v above stands. undue (above-is n x above) v stands;
}
  where
    owns : Owns schemas N.objects o 0 p
    owns = record { class = 1; part = refl; reference = record { object = an_owner; stored = met.objects 0 brought_known o refl refl; refers = record { declared = refl; names = refl } } }

    class-of : (k : Option Obj) (d : ℕ) → k ≡ Some an_owner → IsSomeAnd k (λ v. v.class ≡ d) → 0 ≡ d
    class-of None d is h = cc
    class-of (Some v) d is h = sym (ap (λ (u : Obj). u.class) (same_Some v an_owner is)) ∙ h

    -- nobody owns the owner
    free : (x : Oref) (i : ℕ) → Owns schemas N.objects x i o → ⊥
    free x i own =
        let d : 0 ≡ own.class = class-of (get N.objects o) own.class (met.objects 0 brought_known o refl refl) (fits.owned.declared x i own.class o own.reference) in
        let wrong : IsPart schemas 0 = subst (IsPart schemas) (sym d) own.part in
        cc

    above-is : (n : ℕ) (x : Oref) → IsAbove schemas N.objects (suc n) x p → x ≡ o
    above-is zero x (y, (i, (own, same))) = (fits.owned.once x o i 0 p (subst (λ z. Owns schemas N.objects x i z) same own) owns).0
    above-is (suc n) x (y, (i, (own, more))) = absurd (free x i (subst (λ z. Owns schemas N.objects x i z) (above-is n y more) own))

    undue : {x : Oref} → x ≡ o → (v : Obj) → get N.objects x ≡ Some v → is_due schemas N.epoch v ≡ false
    undue is v stands =
        subst (λ e. is_due schemas e v ≡ false) (sym met.epoch)
        (subst (λ (u : Obj). is_due schemas 1 u ≡ false) (same_Some an_owner v (sym (met.objects 0 brought_known o refl refl) ∙ subst (λ y. get N.objects y ≡ Some v) is stands)) owner-undue)

-- ---- all of them

pub each-rests : EachRests schemas items roots run
each-rests t w h = each (λ r u v. r ≡ u.repo → RestsAs schemas items roots run u v.request v.request.kind)
    (λ same. first-rests)
    (λ same. record { upgrade = upgrade; item = refl; leads = refl })
    (λ same. transform-rests)
    (λ same. last-rests)
    (λ wrong. cc) (λ wrong. cc) t.repo t w h.there refl
