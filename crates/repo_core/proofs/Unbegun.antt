-- A disk fails as a repository is opened, and what is counted of its disks before and behind that.
use Rattle.disk_trait.specs.Disks.{Disks, Rose}
use Rattle.repo_core.proofs.Failing.{counts_in}
use Rattle.repo_core.specs.Shown.{Shown, count_at, faults_of}
use Rattle.repo_durable.proofs.Failing.{failed_after, failed_before, fell_none, fell_then}
use Rattle.repo_durable.specs.Failing.{HasFailed, NoneFell, is_stopped}
use Rattle.repo_refusals.specs.declared.refusal.Refusal.TheVariants as refused
use Rattle.repo_refusals.specs.declared.refusal.Refusal.{Refusal}
use Rattle.std.proofs.lemmas.Bool.Decides.{nat_tests}
use Rattle.std.proofs.lemmas.Bool.{not-false}
use Rattle.std.proofs.Common.{Err, IfErr, IfOk, Ok, Result, arith, false, nat_eq, not, refl, subst, suc, sym, true, zero, ℕ, ◌-◌, ◌<◌, ◌^◌, ◌≡◌, ◌≤◌}

-- what is shown of the counts is that of the disks
pub shown_of : (disks : Disks) (new : ℕ → ℕ) → NoneFell disks.faults new → NoneFell (count_at (counts_in disks)) new
shown_of disks new none = record { each = by }
  where
    by : (d : ℕ) → d < 3 → new d < 2 ^ 64 - 1 → count_at (counts_in disks) d ≤ new d
    by zero within = none.each 0 within
    by (suc zero) within = none.each 1 within
    by (suc (suc zero)) within = none.each 2 within
    by (suc (suc (suc d))) within = absurd (omega (arith, within))

pub shown_in : (disks : Disks) (old : ℕ → ℕ) → NoneFell old disks.faults → NoneFell old (count_at (counts_in disks))
shown_in disks old none = record { each = by }
  where
    by : (d : ℕ) → d < 3 → count_at (counts_in disks) d < 2 ^ 64 - 1 → old d ≤ count_at (counts_in disks) d
    by zero within = none.each 0 within
    by (suc zero) within = none.each 1 within
    by (suc (suc zero)) within = none.each 2 within
    by (suc (suc (suc d))) within = absurd (omega (arith, within))

failed_at : (disks : Disks) (new : ℕ → ℕ) (d : ℕ) → d < 3 → Rose (count_at (counts_in disks) d) (new d) → HasFailed disks.faults new
failed_at disks new zero within rose = record { disk = 0; within = within; rose = rose }
failed_at disks new (suc zero) within rose = record { disk = 1; within = within; rose = rose }
failed_at disks new (suc (suc zero)) within rose = record { disk = 2; within = within; rose = rose }
failed_at disks new (suc (suc (suc d))) within rose = absurd (omega (arith, within))

-- a disk failed in the Life of an opening, and then the parts came back
pub failed_out : (disks : Disks) (y : Shown) (new : ℕ → ℕ) → HasFailed (count_at (counts_in disks)) (faults_of y) → NoneFell (faults_of y) new → HasFailed disks.faults new
failed_out disks y new failed none =
    let whole = failed_before (count_at (counts_in disks)) (faults_of y) new failed none in
    failed_at disks new whole.disk whole.within whole.rose

-- the counts behind it, where none failed
pub fell_out : (disks : Disks) (y : Shown) → y.faults ≡ counts_in disks → NoneFell disks.faults (faults_of y)
fell_out disks y stays = subst (λ (p : ℕ × ℕ × ℕ). NoneFell disks.faults (count_at p)) (sym stays) (shown_in disks disks.faults (fell_none disks.faults))

-- no stop fell
pub no_fall : (n : ℕ) → not (nat_eq n 0) ≡ false → n ≡ 0
no_fall n none = grind (arith, nat_tests, not-false (nat_eq n 0) none)

pub stopped_of : (r : Refusal) → is_stopped r ≡ true → (n : ℕ) × (r ≡ refused.Stopped n)
stopped_of (refused.Stopped n) is = (n, refl)
stopped_of (refused.Damaged n k) is = absurd (cc)
stopped_of refused.NoMemory is = absurd (cc)
stopped_of (refused.Down n) is = absurd (cc)
stopped_of (refused.Reason q) is = absurd (cc)

-- ---- behind what came before

pub ok_fell : {T E : Type 0} (r : Result T E) (old mid : ℕ → ℕ) (counts : T → ℕ → ℕ) → NoneFell old mid → IfOk r (λ x. NoneFell mid (counts x)) → IfOk r (λ x. NoneFell old (counts x))
ok_fell (Ok x) old mid counts first then = fell_then old mid (counts x) first then
ok_fell (Err e) old mid counts first then = tt

pub err_failed : {T E : Type 0} (r : Result T E) (old mid : ℕ → ℕ) (counts : E → ℕ → ℕ) (Is : E → Type 0) → NoneFell old mid → IfErr r (λ e. Is e → HasFailed mid (counts e)) → IfErr r (λ e. Is e → HasFailed old (counts e))
err_failed (Ok x) old mid counts Is first then = tt
err_failed (Err e) old mid counts Is first then = λ is. failed_after old mid (counts e) first (then is)
