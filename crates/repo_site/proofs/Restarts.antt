-- A repository that is started again goes on.
use Rattle.repo_site.specs.Happening.{ComesBack, GoesOn}
use Rattle.repo_core.specs.Behind.{IsRecovered, IsRestarted}
use Rattle.repo_core.specs.Restarting.{AllTold}
use Rattle.repo_core.specs.Shown.{Shown, ShowsPages, faults_of}
use Rattle.repo_durable.specs.Failing.{HasFailed}
use Rattle.repo_durable.specs.Kept.{is_fault}
use Rattle.repo_refusals.specs.declared.refusal.Refusal.TheVariants as refused
use Rattle.repo_refusals.specs.declared.refusal.Refusal.{Refusal}
use Rattle.std.proofs.Common.{Err, List, Ok, OnErr, OnOk, Option, Result, None, Some, arith, false, inl, inr, is_some, refl, suc, true, zero, ℕ, ◌≡◌}
use Rattle.std.specs.Prelude.{IfErr, IsErrOf, ◌⊎◌}

pub goes_on : {X E : Type 0} (old new : Shown) (r : Result X E) → OnOk r (new.is_up ≡ true) → OnErr r (new.is_up ≡ false) → OnOk r (IsRestarted old.trace new.trace) → OnErr r (IsRecovered old.trace new.trace) → GoesOn old new
goes_on old new (Ok x) up down begun refused = inl (up, begun)
goes_on old new (Err e) up down begun refused = inr (down, refused)

-- ---- and comes back

told : (o : Option (List ℕ)) → is_some o ≡ true → (bytes : List ℕ) × (o ≡ Some bytes)
told (Some bytes) e = (bytes, refl)
told None e = absurd (let no : false ≡ true = e in cc)

all_told : (x : Shown) → ShowsPages x → AllTold x
all_told x tells zero within = told x.logs.0 tells.first_told
all_told x tells (suc zero) within = told x.logs.1 tells.second_told
all_told x tells (suc (suc zero)) within = told x.pages tells.pages_told
all_told x tells (suc (suc (suc d))) within = absurd (omega (arith, within))

pub comes_back : {X : Type 0} (x y : Shown) (r : Result X Refusal) → OnOk r (y.is_up ≡ true) → IfErr r (λ e. is_fault e ≡ true) → ((n : ℕ) → IsErrOf r (refused.Stopped n) → HasFailed (faults_of x) (faults_of y)) → ((n place : ℕ) → IsErrOf r (refused.Damaged n place) → AllTold x → ⊥)
    → IsErrOf r refused.NoMemory ⊎ ComesBack x y
comes_back x y (Ok v) up fault stopped damaged = inr (λ tells. inl up)
comes_back x y (Err refused.NoMemory) up fault stopped damaged = inl refl
comes_back x y (Err (refused.Stopped n)) up fault stopped damaged = inr (λ tells. inr (stopped n refl))
comes_back x y (Err (refused.Damaged n place)) up fault stopped damaged = inr (λ tells. absurd (damaged n place refl (all_told x tells)))
comes_back x y (Err (refused.Down n)) up fault stopped damaged = absurd (let no : false ≡ true = fault in cc)
comes_back x y (Err (refused.Reason q)) up fault stopped damaged = absurd (let no : false ≡ true = fault in cc)
