-- The traces of a run that ends.
use Rattle.cluster_core.proofs.Seating.{length_more, none_in, right_next}
use Rattle.cluster_core.specs.Seated.{AreLeft, AreRight}
use Rattle.cluster_core.specs.declared.finishing.Ran.{Ran}
use Rattle.cluster_port.specs.Run.{Run}
use Rattle.cluster_port.specs.Sited.{IsLeftOf, IsRightTrace}
use Rattle.disk_trait.specs.Disks.{Disks}
use Rattle.repo_trace.specs.declared.trace.Trace.{Trace}
use Rattle.std.proofs.Common.{Bool, Err, IfOk, List, Ok, OnOk, Result, [], ap, arith, false, length, subst, suc, sym, ℕ, ◌++◌, ◌+◌, ◌∙◌, ◌∷◌, ◌≡◌}
use Rattle.std.specs.Prelude.{IsOkAnd}

-- so many traces, each right by its base
pub record AreTold (run : Run) (n : ℕ) (ts : List Trace) : Type 0 where
  pub right : AreRight run 0 ts
  pub count : length ts ≡ n

pub none_told : (run : Run) (ts : List Trace) (n : ℕ) → ts ≡ [] → n ≡ 0 → AreTold run n ts
none_told run ts n none count = subst (λ (us : List Trace). AreTold run n us) (sym none) (record { right = tt; count = sym count })

pub told_next : {E : Type 0} (run : Run) (before after : Result (List Trace) E) (n m : ℕ) (t : Trace) (number : ℕ) → IfOk after (λ more. IsOkAnd before (λ ts. more ≡ ts ++ t ∷ [])) → IfOk before (AreTold run n) → number ≡ n → m ≡ n + 1 → IsRightTrace run number t → IfOk after (AreTold run m)
told_next run before (Err e) n m t number is told place more right = tt
told_next run (Err e) (Ok us) n m t number is told place more right = absurd is
told_next run (Ok ts) (Ok us) n m t number is told place more right = record {
  right = right_next run ts us t number is (place ∙ sym told.count) told.right right;
  count = let longer = length_more ts us t is in omega (arith, longer, told.count, more);
}

-- those that are told of a run are those that its repositories had
pub ran_right : {E : Type 0} (run : Run) (ts : Result (List Trace) E) (ran : Result Ran E) → IfOk ran (λ r. IsOkAnd ts (λ us. r.traces ≡ us)) → IfOk ts (AreRight run 0) → IfOk ran (λ r. AreRight run 0 r.traces)
ran_right run ts (Err e) is right = tt
ran_right run (Err e) (Ok r) is right = absurd is
ran_right run (Ok us) (Ok r) is right = subst (AreRight run 0) (sym is) right

-- as many are told of a run as its repositories had
pub ran_told : {E : Type 0} (n : ℕ) (ts : Result (List Trace) E) (ran : Result Ran E) → IfOk ran (λ r. IsOkAnd ts (λ us. r.traces ≡ us)) → IfOk ts (λ us. length us ≡ n) → IfOk ran (λ r. length r.traces ≡ n)
ran_told n ts (Err e) is count = tt
ran_told n (Err e) (Ok r) is count = absurd is
ran_told n (Ok us) (Ok r) is count = ap length is ∙ count

-- ---- what the disks say

-- for one more behind those before: its disks say so
left_more : {P : Type 0} (disks : P → Disks) (run : Run) (n m : ℕ) (ps : List P) (p : P) (ts : List Trace) (t : Trace) → AreLeft disks run n ps ts → m ≡ n + length ts → IsLeftOf run m (disks p) t → AreLeft disks run n (ps ++ p ∷ []) (ts ++ t ∷ [])
left_more disks run n m [] p [] t left at last = (subst (λ (k : ℕ). IsLeftOf run k (disks p) t) (omega (arith, at)) last, tt)
left_more disks run n m [] p (u ∷ us) t left at last = absurd left
left_more disks run n m (q ∷ qs) p [] t left at last = absurd left
left_more disks run n m (q ∷ qs) p (u ∷ us) t left at last = (left.0, left_more disks run (suc n) m qs p us t left.1 (omega (arith, at)) last)

none_left : {P : Type 0} (disks : P → Disks) (run : Run) (ps : List P) (ts : List Trace) → length ps ≡ 0 → ts ≡ [] → AreLeft disks run 0 ps ts
none_left disks run ps ts no_part none = subst (λ (us : List Trace). AreLeft disks run 0 ps us) (sym none) (subst (λ (qs : List _). AreLeft disks run 0 qs []) (sym (none_in ps no_part)) tt)

-- so many traces, each right by its base, and the disks of as many parts say what they say
pub record AreEnded {P : Type 0} (disks : P → Disks) (run : Run) (ps : List P) (ts : List Trace) : Type 0 where
  pub told : AreTold run (length ps) ts
  pub left : AreLeft disks run 0 ps ts

pub none_ended : {P : Type 0} (disks : P → Disks) (run : Run) (ps : List P) (ts : List Trace) → length ps ≡ 0 → ts ≡ [] → AreEnded disks run ps ts
none_ended disks run ps ts no_part none = record { told = none_told run ts (length ps) none no_part; left = none_left disks run ps ts no_part none }

-- with one more, which isn't torn
pub ended_next : {P E : Type 0} (disks : P → Disks) (run : Run) (before after : Result (List Trace) E) (ps qs : List P) (p : P) (t : Trace) (number : ℕ) (torn : Bool) → qs ≡ ps ++ p ∷ [] → IfOk after (λ more. IsOkAnd before (λ ts. more ≡ ts ++ t ∷ [])) → OnOk after (torn ≡ false)
    → number ≡ length ps → IsRightTrace run number t → (torn ≡ false → IsLeftOf run number (disks p) t) → IfOk before (AreEnded disks run ps) → IfOk after (AreEnded disks run qs)
ended_next {E = E} disks run before (Err e) ps qs p t number torn parts is whole place right left ended = tt
ended_next {E = E} disks run (Err e) (Ok us) ps qs p t number torn parts is whole place right left ended = absurd is
ended_next {E = E} disks run (Ok ts) (Ok us) ps qs p t number torn parts is whole place right left ended = record {
  told = told_next {E = E} run (Ok ts) (Ok us) (length ps) (length qs) t number is ended.told place (let longer = length_more ps qs p parts in omega (arith, longer)) right;
  left = subst (λ (vs : List Trace). AreLeft disks run 0 qs vs) (sym is)
      (subst (λ (rs : List _). AreLeft disks run 0 rs (ts ++ t ∷ [])) (sym parts)
      (left_more disks run 0 number ps p ts t ended.left (let many = ended.told.count in omega (arith, place, many)) (left whole)));
}

pub ended_right : {P E : Type 0} (disks : P → Disks) (run : Run) (ps : List P) (ts : Result (List Trace) E) → IfOk ts (AreEnded disks run ps) → IfOk ts (AreRight run 0)
ended_right disks run ps (Ok us) ended = ended.told.right
ended_right disks run ps (Err e) ended = tt

pub ended_told : {P E : Type 0} (disks : P → Disks) (run : Run) (ps : List P) (n : ℕ) (ts : Result (List Trace) E) → length ps ≡ n → IfOk ts (AreEnded disks run ps) → IfOk ts (λ us. length us ≡ n)
ended_told disks run ps n (Ok us) many ended = ended.told.count ∙ many
ended_told disks run ps n (Err e) many ended = tt

pub ended_left : {P E : Type 0} (disks : P → Disks) (run : Run) (ps : List P) (ts : Result (List Trace) E) → IfOk ts (AreEnded disks run ps) → IfOk ts (AreLeft disks run 0 ps)
ended_left disks run ps (Ok us) ended = ended.left
ended_left disks run ps (Err e) ended = tt

-- those of a run
pub ran_left : {P E : Type 0} (disks : P → Disks) (run : Run) (ps : List P) (ts : Result (List Trace) E) (ran : Result Ran E) → IfOk ran (λ r. IsOkAnd ts (λ us. r.traces ≡ us)) → IfOk ts (AreLeft disks run 0 ps) → IfOk ran (λ r. AreLeft disks run 0 ps r.traces)
ran_left disks run ps ts (Err e) is left = tt
ran_left disks run ps (Err e) (Ok r) is left = absurd is
ran_left disks run ps (Ok us) (Ok r) is left = subst (AreLeft disks run 0 ps) (sym is) left
