-- A run begins with what was found.
use Rattle.class_defs.specs.declared.store.Setup.{Setup}
use Rattle.cluster_core.specs.Seated.{AreBegun, Begins, IsBegun, are_settled, base_at, is_settled_at, run_of}
use Rattle.cluster_core.specs.declared.plan.Start.TheVariants as start
use Rattle.cluster_core.specs.declared.plan.Start.{Start}
use Rattle.cluster_port.specs.Begun.{new_base}
use Rattle.cluster_port.specs.Run.{Run, no_run}
use Rattle.std.proofs.Common.{Bool, List, [], ap, arith, false, length, refl, subst, suc, sym, true, ℕ, ◌&&◌, ◌+◌, ◌∙◌, ◌∷◌, ◌≡◌}
use Rattle.std.specs.List.{slice_get}
use Rattle.std.specs.Prelude.{Some}
use Rattle.store_opening.specs.declared.closed.Closed.TheVariants as found
use Rattle.store_opening.specs.declared.closed.Closed.{Closed}

first_so : (a b : Bool) → (a && b) ≡ true → a ≡ true
first_so true b e = refl
first_so false b e = e

second_so : (a b : Bool) → (a && b) ≡ true → b ≡ true
second_so true b e = e
second_so false b e = cc

module _ {P : Type 0} (mob : ℕ) (all : List (Closed P)) where
  abbrev stored : Run
  stored = run_of all mob start.Stored

  one : (n : ℕ) (c : Closed P) → slice_get all n ≡ Some c → (stored.based ≡ true → is_settled_at n c ≡ true) → IsBegun stored (length all) n c
  one n (found.Parts p) at settled = tt
  one n (found.Fresh p) at settled = tt
  one n (found.Known k) at settled = λ based. (ap (base_at (length all)) at, settled based)

  from : (n : ℕ) (rest : List (Closed P)) → ((i : ℕ) → slice_get all (n + i) ≡ slice_get rest i) → (stored.based ≡ true → are_settled n rest ≡ true) → AreBegun stored (length all) n rest
  from n [] at settled = tt
  from n (c ∷ cs) at settled = (
    one n c (subst (λ (k : ℕ). slice_get all k ≡ Some c) (omega arith) (at 0)) (λ based. first_so (is_settled_at n c) (are_settled (suc n) cs) (settled based)),
    from (suc n) cs (λ i. subst (λ (k : ℕ). slice_get all k ≡ slice_get cs i) (omega arith) (at (suc i))) (λ based. second_so (is_settled_at n c) (are_settled (suc n) cs) (settled based)),
  )

  all_begun : AreBegun stored (length all) 0 all
  all_begun = from 0 all (λ i. ap (slice_get all) (omega arith)) (λ based. based)

  begins : (s : Start) → Begins (run_of all mob s) all mob s
  begins start.Stored = record { stored = λ is. all_begun; new = λ setup is n based. absurd (let no : start.Stored ≡ start.Setup setup = is in cc) }
  begins (start.Setup given) = record {
    stored = λ is. absurd (let no : start.Setup given ≡ start.Stored = is in cc);
    new = λ setup is n based. let same : given ≡ setup = same_setup given setup is in ap (λ (x : Setup). new_base n (length all) x mob) same;
  }
    where
      same_setup : (x y : Setup) → start.Setup x ≡ start.Setup y → x ≡ y
      same_setup x y e = cc

pub begins_over : {P : Type 0} (run : Run) (places : List (Closed P)) (mob : ℕ) (s : Start) → run ≡ run_of places mob s → Begins run places mob s
begins_over run places mob s is = subst (λ (r : Run). Begins r places mob s) (sym is) (begins mob places s)

-- where the run has no base nothing is asked
none_begun : {P : Type 0} (run : Run) (repos : ℕ) → (run.based ≡ true → ⊥) → (n : ℕ) (places : List (Closed P)) → AreBegun run repos n places
none_begun run repos none n [] = tt
none_begun run repos none n (found.Parts p ∷ cs) = (tt, none_begun run repos none (suc n) cs)
none_begun run repos none n (found.Fresh p ∷ cs) = (tt, none_begun run repos none (suc n) cs)
none_begun run repos none n (found.Known k ∷ cs) = (λ based. absurd (none based), none_begun run repos none (suc n) cs)

not_based : no_run.based ≡ true → ⊥
not_based e = cc

pub unbased : {P : Type 0} (places : List (Closed P)) (mob : ℕ) (s : Start) → Begins no_run places mob s
unbased places mob s = record { stored = λ is. none_begun no_run (length places) not_based 0 places; new = λ setup is n based. absurd (not_based based) }
