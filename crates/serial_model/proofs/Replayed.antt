-- Histories taken entry by entry.
use Rattle.std.proofs.Common.{◌≡◌, ◌≤◌, ◌<◌, ℕ, zero, suc, ◌+◌, Bool, true, false, cond, List, [], ◌∷◌, ◌++◌, length, take, get_or, Option, Some, None, option_and_then, option_map, unwrap_or, refl, ap, sym, subst, ◌∙◌, Result, Ok, Err, ◌==◌, arith}
use Rattle.std.proofs.lemmas.List.{take_more, take_all}
use Rattle.thor_value.specs.FiniteMap.{Map, IsSorted, insert, overwrite, get}
use Rattle.thor_value.specs.Names.{oref_cmp}
use Rattle.thor_value.specs.declared.names.Oref.{Oref}
use Rattle.thor_value.specs.declared.names.Ts.{Ts}
use Rattle.thor_value.proofs.FiniteMap.{IsSorted-insert}
use Rattle.thor_value.proofs.NameOrders.{oref_total}
use Rattle.class_defs.specs.Run.{Ran, begun, execute_all, ran_by, run, takes, world_of}
use Rattle.class_defs.specs.Upgrades.{transformed, up, upgrade_of}
use Rattle.class_defs.specs.declared.machine.Flow.{Flow}
use Rattle.class_defs.specs.declared.machine.Machine.{Machine}
use Rattle.class_defs.specs.declared.machine.Stop.{Stop}
use Rattle.class_defs.specs.declared.machine.Stop.TheVariants as stop
use Rattle.class_defs.specs.declared.statements.Stmt.{Stmt}
use Rattle.class_defs.specs.declared.store.Object.{Object}
use Rattle.class_defs.specs.declared.store.Plain.{Plain}
use Rattle.class_defs.specs.declared.store.Schema.{Schema}
use Rattle.class_defs.specs.declared.store.Schemas.{Schemas}
use Rattle.class_defs.specs.Applied.{number_of}
use Rattle.method_eval.specs.declared.view.View.{View}
use Rattle.class_defs.specs.Epochs.{classes_of, no_schema, schema_at, schema_of}
use Rattle.serial_model.specs.History.{after, after_doing, after_entry, AreLegal, IsLegal, IsLegalEntry, Rise}
use Rattle.serial_model.specs.Replays.{AppliesDoing, AreMade, IsAbove, IsFirstNotLegal, last_ts}
use Rattle.serial_model.specs.Whole.{bare_objects, plain, IsFirst, IsOfItsEpoch}
use Rattle.serial_model.specs.declared.entries.Did.{Did}
use Rattle.serial_model.specs.declared.entries.What.{What}
use Rattle.serial_model.specs.declared.entries.What.TheVariants.{Tx, Upgrade as UpgradeItem}
use Rattle.serial_model.proofs.SortedMaps.{order_kept}

-- ---- one entry more

last_more : (ds : List Did) (d : Did) → last_ts (ds ++ d ∷ []) ≡ Some d.ts
last_more [] d = refl
last_more (x ∷ []) d = refl
last_more (x ∷ y ∷ ds) d = last_more (y ∷ ds) d

rise_more : (ds : List Did) (d : Did) → Rise ds → IsAbove (last_ts ds) d.ts → Rise (ds ++ d ∷ [])
rise_more [] d h above = tt
rise_more (x ∷ []) d h above = (above, tt)
rise_more (x ∷ y ∷ ds) d h above = (h.0, rise_more (y ∷ ds) d h.1 above)

pub rise_back : (ds : List Did) (d : Did) → Rise (ds ++ d ∷ []) → IsAbove (last_ts ds) d.ts
rise_back [] d h = tt
rise_back (x ∷ []) d h = h.0
rise_back (x ∷ y ∷ ds) d h = rise_back (y ∷ ds) d h.1

rise_front : (n : ℕ) (ds : List Did) → Rise ds → Rise (take n ds)
rise_front zero ds h = tt
rise_front (suc n) [] h = tt
rise_front (suc zero) (x ∷ ds) h = tt
rise_front (suc (suc n)) (x ∷ []) h = tt
rise_front (suc (suc n)) (x ∷ y ∷ ds) h = (h.0, rise_front (suc n) (y ∷ ds) h.1)

module _ (s : Schemas) where
  pub after_more : (ds : List Did) (d : Did) (store : Plain) → after s (ds ++ d ∷ []) store ≡ after_entry s (after s ds store) d
  after_more [] d store = refl
  after_more (x ∷ ds) d store = after_more ds d (after_entry s store x)

  legal_more : (ds : List Did) (d : Did) (store : Plain) → AreLegal s ds store → IsLegalEntry s (after s ds store) d → AreLegal s (ds ++ d ∷ []) store
  legal_more [] d store h is = (is, tt)
  legal_more (x ∷ ds) d store h is = (h.0, legal_more ds d (after_entry s store x) h.1 is)

  pub legal_back : (ds : List Did) (d : Did) (store : Plain) → AreLegal s (ds ++ d ∷ []) store → IsLegalEntry s (after s ds store) d
  legal_back [] d store h = h.0
  legal_back (x ∷ ds) d store h = legal_back ds d (after_entry s store x) h.1

  legal_front : (n : ℕ) (ds : List Did) (store : Plain) → AreLegal s ds store → AreLegal s (take n ds) store
  legal_front zero ds store h = tt
  legal_front (suc n) [] store h = tt
  legal_front (suc n) (x ∷ ds) store h = (h.0, legal_front n ds (after_entry s store x) h.1)

  pub front_legal : (n : ℕ) (ds : List Did) (store : Plain) → IsLegal s ds store → IsLegal s (take n ds) store
  front_legal n ds store h = record { rising = rise_front n ds h.rising; each = legal_front n ds store h.each }

  -- a legal history goes on
  pub goes_on : (ds : List Did) (d : Did) (store : Plain) → IsLegal s ds store → IsAbove (last_ts ds) d.ts → IsLegalEntry s (after s ds store) d → IsLegal s (ds ++ d ∷ []) store
  goes_on ds d store h above is = record { rising = rise_more ds d h.rising above; each = legal_more ds d store h.each is }

  none_behind : s.upgraded ≡ [] → (n : ℕ) → schema_of s (suc n) ≡ no_schema
  none_behind none n = rw none refl

  -- schemas without upgrades
  pub first_made : length s.first.classes ≤ 65536 → IsFirst s.first → s.upgraded ≡ [] → AreMade s
  first_made few first none = record { few = few_at; past = past_at }
    where
      few_at : (n : ℕ) → length (schema_of s n).classes ≤ 65536
      few_at zero = few
      few_at (suc n) = subst (λ (k : Schema). length k.classes ≤ 65536) (sym (none_behind none n)) (omega arith)

      past_at : (n c : ℕ) → number_of (schema_of s n).upgraded c ≤ n
      past_at zero c = let h = first c in omega arith
      past_at (suc n) c = subst (λ (k : Schema). number_of k.upgraded c ≤ suc n) (sym (none_behind none n)) (omega arith)

-- ---- the names stay in order

overwritten : (m : Map oref_cmp Object) (ws : List (Oref × Object)) → IsSorted m → IsSorted (overwrite m ws)
overwritten m [] h = h
overwritten m (w ∷ ws) h = overwritten (insert m w.0 w.1) ws (IsSorted-insert oref_total m w.0 w.1 h)

by_test : (b : Bool) (r : Ran) (store : Plain) → IsSorted r.store.objects → IsSorted store.objects → IsSorted (unwrap_or (option_map (λ r. r.store) (cond b (Some r) None)) store).objects
by_test true r store h g = h
by_test false r store h g = g

run_by : (store : Plain) (names : List Oref) (r : Result Flow Stop) (m : Machine) → IsSorted store.objects → IsSorted (unwrap_or (option_map (λ r. r.store) (ran_by store names r m)) store).objects
run_by store names (Ok flow) m h = by_test (takes m.created names) _ store (overwritten store.objects m.writes.pairs h) h
run_by store names (Err (stop.Fault f)) m h = by_test (length names == 0) _ store h h
run_by store names (Err (stop.Need x owners)) m h = h
run_by store names (Err (stop.NeedName repo)) m h = h

run_sorted : (o : Option Schema) (store : Plain) (d : Did) (tx : List Stmt) → IsSorted store.objects
    → IsSorted (unwrap_or (option_map (λ r. r.store) (option_and_then (λ k. run k tx store d.fresh) o)) store).objects
unfolding run
run_sorted None store d tx h = h
run_sorted (Some k) store d tx h = let r = execute_all (world_of k store) tx (begun d.fresh (Some 0)) in run_by store d.fresh r.0 r.1 h

doing_sorted : (s : Schemas) (store : Plain) (d : Did) (w : What) → IsSorted store.objects → IsSorted (after_doing s store d w).objects
unfolding up
doing_sorted s store d (Tx tx) h = run_sorted (schema_at s store.epoch) store d tx h
doing_sorted s store d (UpgradeItem u) h =
    let old = classes_of s store.epoch in
    order_kept oref_cmp (λ (p : Oref × Object). transformed old (classes_of s (store.epoch + 1)) (get store.objects) p.1 (upgrade_of old u p.1.class)) store.objects.pairs _ refl h

pub after_sorted : (s : Schemas) (ds : List Did) (store : Plain) → IsSorted store.objects → IsSorted (after s ds store).objects
after_sorted s [] store h = h
after_sorted s (d ∷ ds) store h = after_sorted s ds (after_entry s store d) (doing_sorted s store d d.what h)

-- ---- the state of a replay

-- The entries so far are a legal history, whose store the view has, and the last of them has this timestamp.
pub record IsSoFar (s : Schemas) (ds : List Did) (store : Plain) (view : View) (last : Option Ts) : Type 0 where
  pub legal : IsLegal s ds store
  pub behind : plain store.roots view ≡ after s ds store
  pub versions : IsOfItsEpoch view
  pub newest : last ≡ last_ts ds

pub so_far_sorted : (s : Schemas) (ds : List Did) (store : Plain) (view : View) (last : Option Ts) → IsSorted store.objects → IsSoFar s ds store view last → IsSorted (bare_objects view.objects)
so_far_sorted s ds store view last sorted h = subst (λ (p : Plain). IsSorted p.objects) (sym h.behind) (after_sorted s ds store sorted)

pub so_far_first : (s : Schemas) (store : Plain) (view : View) → plain store.roots view ≡ store → IsOfItsEpoch view → IsSoFar s [] store view None
so_far_first s store view is versions = record { legal = record { rising = tt; each = tt }; behind = is; versions = versions; newest = refl }

applied_next : (s : Schemas) (ds : List Did) (d : Did) (store : Plain) (old new : View) (last : Option Ts)
    → IsSoFar s ds store old last → IsAbove last d.ts → AppliesDoing s d d.what store.roots old true new → IsSoFar s (ds ++ d ∷ []) store new (Some d.ts)
applied_next s ds d store old new last h above applied = record {
  legal = goes_on s ds d store h.legal (subst (λ (o : Option Ts). IsAbove o d.ts) h.newest above) (subst (λ (p : Plain). IsLegalEntry s p d) h.behind applied.0);
  behind = applied.1 ∙ ap (λ (p : Plain). after_entry s p d) h.behind ∙ sym (after_more s ds d store);
  versions = applied.2;
  newest = sym (last_more ds d);
}

-- one entry more, which was applied
pub so_far_next : (s : Schemas) (all : List Did) (i : ℕ) (d e : Did) (store : Plain) (old new : View) (last : Option Ts) (b : Bool) → i < length all → d ≡ get_or all i e
    → IsSoFar s (take i all) store old last → IsAbove last d.ts → AppliesDoing s d d.what store.roots old b new → b ≡ true → IsSoFar s (take (i + 1) all) store new (Some d.ts)
so_far_next s all i d e store old new last b within is h above applied t =
    let applied : AppliesDoing s d d.what store.roots old true new = subst (λ (b : Bool). AppliesDoing s d d.what store.roots old b new) t applied in
    let same : take i all ++ d ∷ [] ≡ take (i + 1) all = ap (λ (x : Did). take i all ++ x ∷ []) is ∙ sym (take_more all i e within) in
    subst (λ (ds : List Did). IsSoFar s ds store new (Some d.ts)) same (applied_next s (take i all) d store old new last h above applied)

stops : (s : Schemas) (all : List Did) (i : ℕ) (d e : Did) (store : Plain) → i < length all → d ≡ get_or all i e → IsLegal s (take i all) store → ¬ IsLegal s (take i all ++ d ∷ []) store → IsFirstNotLegal s all store i
stops s all i d e store within is before no_more =
    let same : take (i + 1) all ≡ take i all ++ d ∷ [] = take_more all i e within ∙ ap (λ (x : Did). take i all ++ x ∷ []) (sym is) in
    let with_it : ¬ IsLegal s (take (i + 1) all) store = λ h. no_more (subst (λ (ds : List Did). IsLegal s ds store) same h) in
    record { within = within; before = before; with_it = with_it; whole = λ h. with_it (front_legal s (i + 1) all store h) }

-- one entry more, whose timestamp isn't above
pub stops_below : (s : Schemas) (all : List Did) (i : ℕ) (d e : Did) (store : Plain) (view : View) (last : Option Ts) → i < length all → d ≡ get_or all i e
    → IsSoFar s (take i all) store view last → ¬ IsAbove last d.ts → IsFirstNotLegal s all store i
stops_below s all i d e store view last within is h below =
    stops s all i d e store within is h.legal (λ l. below (subst (λ (o : Option Ts). IsAbove o d.ts) (sym h.newest) (rise_back (take i all) d l.rising)))

-- one entry more, which isn't legal on the store
pub stops_there : (s : Schemas) (all : List Did) (i : ℕ) (d e : Did) (store : Plain) (old new : View) (last : Option Ts) (b : Bool) → i < length all → d ≡ get_or all i e
    → IsSoFar s (take i all) store old last → AppliesDoing s d d.what store.roots old b new → b ≡ false → IsFirstNotLegal s all store i
stops_there s all i d e store old new last b within is h applied f =
    let other : ¬ IsLegalEntry s (plain store.roots old) d = subst (λ (b : Bool). AppliesDoing s d d.what store.roots old b new) f applied in
    stops s all i d e store within is h.legal (λ l. other (subst (λ (p : Plain). IsLegalEntry s p d) (sym h.behind) (legal_back s (take i all) d store l.each)))

-- all of them
pub so_far_all : (s : Schemas) (all : List Did) (i : ℕ) (store end : Plain) (view : View) (last : Option Ts) → length all ≤ i → IsSoFar s (take i all) store view last → end ≡ plain store.roots view → IsLegal s all store × (end ≡ after s all store)
so_far_all s all i store end view last past h is =
    (subst (λ (ds : List Did). IsLegal s ds store) (take_all i all past) h.legal, is ∙ h.behind ∙ ap (λ (ds : List Did). after s ds store) (take_all i all past))
