-- A disk failed in a call that answers Stopped.
use Rattle.disk_trait.specs.AllDisks.{NoFault}
use Rattle.disk_trait.specs.Disks.{Disks, Rose}
use Rattle.base_reasons.specs.declared.reason.Reason.TheVariants.{Gone}
use Rattle.repo_core.proofs.Refused.{no_fault}
use Rattle.repo_core.specs.Behind.{is_marked}
use Rattle.repo_core.specs.Shown.{Shown, count_at, faults_of}
use Rattle.repo_durable.proofs.Failing.{failed_behind, fewer_none, fewer_then}
use Rattle.repo_durable.specs.Failing.{HasFailed, NoFewer, is_stopped}
use Rattle.repo_durable.specs.Kept.{is_fault}
use Rattle.std.proofs.Common.{Err, Ok, Result, ap, arith, refl, subst, suc, sym, true, zero, ℕ, ◌<◌, ◌∙◌, ◌≡◌}
use Rattle.std.specs.Prelude.{IfErr, IsErrOf, OnOk, false}
use Rattle.repo_refusals.specs.declared.refusal.Refusal.TheVariants as refused
use Rattle.repo_refusals.specs.declared.refusal.Refusal.{Refusal}

abbrev pub counts_in : Disks → ℕ × ℕ × ℕ
counts_in disks = (disks.faults 0, disks.faults 1, disks.faults 2)

three_failed : (old new : Disks) (d : ℕ) → d < 3 → Rose (old.faults d) (new.faults d) → HasFailed (count_at (counts_in old)) (count_at (counts_in new))
three_failed old new zero within rose = record { disk = 0; within = within; rose = rose }
three_failed old new (suc zero) within rose = record { disk = 1; within = within; rose = rose }
three_failed old new (suc (suc zero)) within rose = record { disk = 2; within = within; rose = rose }
three_failed old new (suc (suc (suc d))) within rose = absurd (omega (arith, within))

three_fewer : (old new : Disks) → NoFewer old.faults new.faults → NoFewer (count_at (counts_in old)) (count_at (counts_in new))
three_fewer old new rises zero = rises 0
three_fewer old new rises (suc zero) = rises 1
three_fewer old new rises (suc (suc d)) = rises 2

-- what is shown of the counts is that of the disks
pub failed_between : (old new : Disks) (x y : Shown) → counts_in old ≡ x.faults → counts_in new ≡ y.faults → HasFailed old.faults new.faults → HasFailed (faults_of x) (faults_of y)
failed_between old new x y was is failed =
    subst (λ (p : ℕ × ℕ × ℕ). HasFailed (count_at p) (count_at y.faults)) was
    (subst (λ (p : ℕ × ℕ × ℕ). HasFailed (count_at (counts_in old)) (count_at p)) is (three_failed old new failed.disk failed.within failed.rose))

pub fewer_between : (old new : Disks) (x y : Shown) → counts_in old ≡ x.faults → counts_in new ≡ y.faults → NoFewer old.faults new.faults → NoFewer (faults_of x) (faults_of y)
fewer_between old new x y was is rises =
    subst (λ (p : ℕ × ℕ × ℕ). NoFewer (count_at p) (count_at y.faults)) was
    (subst (λ (p : ℕ × ℕ × ℕ). NoFewer (count_at (counts_in old)) (count_at p)) is (three_fewer old new rises))

-- calls behind those in which no count fell
pub failed_shown : (x y z : Shown) → NoFewer (faults_of x) (faults_of y) → HasFailed (faults_of y) (faults_of z) → HasFailed (faults_of x) (faults_of z)
failed_shown x y z rises failed = failed_behind (faults_of x) (faults_of y) (faults_of z) rises failed

pub fewer_shown : (x y z : Shown) → NoFewer (faults_of x) (faults_of y) → NoFewer (faults_of y) (faults_of z) → NoFewer (faults_of x) (faults_of z)
fewer_shown x y z first then = fewer_then (faults_of x) (faults_of y) (faults_of z) first then

-- the counts stay
pub failed_same : (x y z : Shown) → y.faults ≡ x.faults → HasFailed (faults_of y) (faults_of z) → HasFailed (faults_of x) (faults_of z)
failed_same x y z same failed = subst (λ (p : ℕ × ℕ × ℕ). HasFailed (count_at p) (faults_of z)) same failed

pub fewer_same : (x y : Shown) → y.faults ≡ x.faults → NoFewer (faults_of x) (faults_of y)
fewer_same x y same = subst (λ (p : ℕ × ℕ × ℕ). NoFewer (faults_of x) (count_at p)) (sym same) (fewer_none (faults_of x) (faults_of x) (λ d. refl))

-- ---- counts that stay

-- those of the disks stay, and so do those that are shown
pub counts_between : (old new : Disks) (x y : Shown) → counts_in old ≡ x.faults → counts_in new ≡ y.faults → NoFault old new → y.faults ≡ x.faults
counts_between old new x y was is same = sym is ∙ (each (old.faults 0) (old.faults 1) (old.faults 2) (new.faults 0) (new.faults 1) (new.faults 2) (same 0) (same 1) (same 2) ∙ was)
  where
    each : (a b c d e f : ℕ) → d ≡ a → e ≡ b → f ≡ c → ◌≡◌ {A = ℕ × ℕ × ℕ} (d, e, f) (a, b, c)
    each a b c d e f p q r = cc

-- where a call of the disks answers so, so do those that are shown
pub ok_shown : {T : Type 0} (result : Result T Refusal) (old new : Disks) (x y : Shown) → counts_in old ≡ x.faults → counts_in new ≡ y.faults → OnOk result (NoFault old new) → OnOk result (y.faults ≡ x.faults)
ok_shown (Ok t) old new x y was is steady = counts_between old new x y was is steady
ok_shown (Err r) old new x y was is steady = tt

pub err_shown : {T : Type 0} (result : Result T Refusal) (old new : Disks) (x y : Shown) → counts_in old ≡ x.faults → counts_in new ≡ y.faults → IfErr result (λ r. is_stopped r ≡ false → NoFault old new) → IfErr result (λ r. is_stopped r ≡ false → y.faults ≡ x.faults)
err_shown (Ok t) old new x y was is quiet = tt
err_shown (Err r) old new x y was is quiet = λ other. counts_between old new x y was is (quiet other)

-- no count rose before a call, nor in it
pub ok_before : {T : Type 0} (result : Result T Refusal) (x y z : ℕ × ℕ × ℕ) → y ≡ x → OnOk result (z ≡ y) → OnOk result (z ≡ x)
ok_before (Ok t) x y z before steady = steady ∙ before
ok_before (Err r) x y z before steady = tt

pub err_before : {T : Type 0} (result : Result T Refusal) (x y z : ℕ × ℕ × ℕ) → y ≡ x → IfErr result (λ r. is_stopped r ≡ false → z ≡ y) → IfErr result (λ r. is_stopped r ≡ false → z ≡ x)
err_before (Ok t) x y z before quiet = tt
err_before (Err r) x y z before quiet = λ other. quiet other ∙ before

-- ---- a call that is refused so didn't answer Stopped

pub stopped_none : (r : Refusal) (n k : ℕ) (G : Type 0) → r ≡ refused.Down k → r ≡ refused.Stopped n → G
stopped_none r n k G is stopped = absurd (never (sym stopped ∙ is))
  where
    never : refused.Stopped n ≡ refused.Down k → ⊥
    never e = no_fault true (ap is_fault e) refl

pub stopped_gone : (r : Refusal) (n s : ℕ) (G : Type 0) → r ≡ refused.Reason (Gone s) → r ≡ refused.Stopped n → G
stopped_gone r n s G is stopped = absurd (never (sym stopped ∙ is))
  where
    never : refused.Stopped n ≡ refused.Reason (Gone s) → ⊥
    never e = no_fault true (ap is_fault e) refl

pub stopped_marked : (r s : Refusal) (n : ℕ) (G : Type 0) → is_marked s ≡ true → (is_marked r ≡ true → r ≡ s) → (is_marked r ≡ false → r ≡ refused.NoMemory) → r ≡ refused.Stopped n → G
stopped_marked r s n G marked same other is = absurd (never (sym is ∙ other (ap is_marked is)))
  where
    never : refused.Stopped n ≡ refused.NoMemory → ⊥
    never e = cc

pub stopped_memory : {T : Type 0} (result : Result T Refusal) (n : ℕ) (G : Type 0) → IfErr result (λ r. r ≡ refused.NoMemory) → IsErrOf result (refused.Stopped n) → G
stopped_memory (Ok t) n G lacks is = absurd (cc)
stopped_memory (Err r) n G lacks is = absurd (cc)
