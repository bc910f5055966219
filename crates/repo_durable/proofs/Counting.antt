-- Counts of faults that stay, where no call answered that its disk failed.
use Rattle.disk_trait.specs.AllDisks.{GoesOn, NoFault}
use Rattle.disk_trait.specs.Disks.{Disks, OnDisk}
use Rattle.disk_trait.specs.declared.parts.Outage.TheVariants as outage
use Rattle.disk_trait.specs.declared.parts.Outage.{Outage}
use Rattle.log_frame.specs.declared.fault.LogFault.TheVariants as log
use Rattle.log_frame.specs.declared.fault.LogFault.{LogFault}
use Rattle.page_store.specs.declared.fault.StoreFault.TheVariants as store
use Rattle.page_store.specs.declared.fault.StoreFault.{StoreFault}
use Rattle.recovery.specs.declared.fault.RecoverFault.TheVariants as recover
use Rattle.recovery.specs.declared.fault.RecoverFault.{RecoverFault}
use Rattle.disk_trait.specs.Fused.{fused_disks}
use Rattle.disk_trait.specs.declared.fused.Fused.{Fused}
use Rattle.repo_durable.specs.Causes.{is_log_failed, is_outage_failed, is_pages_failed, is_recovery_failed}
use Rattle.repo_durable.specs.Failing.{is_stopped}
use Rattle.repo_durable.specs.Kept.{disks_of, down_with}
use Rattle.repo_durable.specs.declared.stable.Stable.{Stable}
use Rattle.std.proofs.Common.{Err, None, Ok, Result, false, inl, inr, refl, subst, sym, ℕ, ◌∙◌, ◌≡◌}
use Rattle.std.proofs.lemmas.Bool.{cases_eq}
use Rattle.std.specs.Prelude.{IfErr, IsErrOf, OnOk}
use Rattle.repo_refusals.specs.declared.refusal.Refusal.{Refusal}

-- the count of one disk stays, and no other was called
pub stays_on : (old new : Disks) (disk : ℕ) → OnDisk old new disk → new.faults disk ≡ old.faults disk → NoFault old new
stays_on old new disk alone same d = elim (cases_eq d disk) [
  | inl is ↦ subst (λ (n : ℕ). new.faults n ≡ old.faults n) (sym is) same
  | inr other ↦ alone.others_faults d other
]

pub stays_none : (disks : Disks) → NoFault disks disks
stays_none disks d = refl

pub stays_then : (old mid new : Disks) → NoFault old mid → NoFault mid new → NoFault old new
stays_then old mid new first then d = then d ∙ first d

-- the log was taken out before
pub stays_taken : {P : Type 0} (disks : P → Disks) (old mid : Stable P) (new : Disks) → mid ≡ down_with old None → NoFault (disks_of disks mid) new → NoFault (disks_of disks old) new
stays_taken {P = P} disks old mid new same stays = subst (λ (s : Stable P). NoFault (disks_of disks s) new) same stays

pub goes_taken : {P : Type 0} (disks : P → Disks) (old mid : Stable P) (new : Disks) → mid ≡ down_with old None → GoesOn (disks_of disks mid) new → GoesOn (disks_of disks old) new
goes_taken {P = P} disks old mid new same goes = subst (λ (s : Stable P). GoesOn (disks_of disks s) new) same goes

-- ---- a fault of a layer below that tells of no disk

pub outage_quiet : {T : Type 0} (result : Result T Outage) (fault : Outage) (A : Type 0) → result ≡ Err fault → (IsErrOf result outage.NoMemory → A) → is_outage_failed fault ≡ false → A
outage_quiet result outage.NoMemory A is wanting quiet = wanting is
outage_quiet result outage.Failed A is wanting quiet = absurd (cc)

pub store_quiet : {T : Type 0} (result : Result T StoreFault) (fault : StoreFault) (A : Type 0) → result ≡ Err fault → (IsErrOf result store.NoMemory → A) → ((place : ℕ) → IsErrOf result (store.Damaged place) → A) → is_pages_failed fault ≡ false → A
store_quiet result store.NoMemory A is wanting harmed quiet = wanting is
store_quiet result (store.Damaged place) A is wanting harmed quiet = harmed place is
store_quiet result store.Failed A is wanting harmed quiet = absurd (cc)

pub log_quiet : {T : Type 0} (result : Result T LogFault) (fault : LogFault) (A : Type 0) → result ≡ Err fault → (IsErrOf result log.NoMemory → A) → ((place : ℕ) → IsErrOf result (log.Damaged place) → A) → is_log_failed fault ≡ false → A
log_quiet result log.NoMemory A is wanting harmed quiet = wanting is
log_quiet result (log.Damaged place) A is wanting harmed quiet = harmed place is
log_quiet result log.Failed A is wanting harmed quiet = absurd (cc)

pub recovery_quiet : {T : Type 0} (result : Result T RecoverFault) (fault : RecoverFault) (A : Type 0) → result ≡ Err fault → (IsErrOf result recover.NoMemory → A) → ((d place : ℕ) → IsErrOf result (recover.Damaged d place) → A) → is_recovery_failed fault ≡ false → A
recovery_quiet result recover.NoMemory A is wanting harmed quiet = wanting is
recovery_quiet result (recover.Damaged d place) A is wanting harmed quiet = harmed d place is
recovery_quiet result (recover.Failed d) A is wanting harmed quiet = absurd (cc)

-- ---- calls in a row

-- while the log was taken out, these parts were called and are put back
pub stays_between : {P : Type 0} (disks : P → Disks) (old mid new : Stable P) (parts : Fused P) → mid ≡ down_with old None → new.parts ≡ parts → NoFault (disks_of disks mid) (fused_disks disks parts) → NoFault (disks_of disks old) (disks_of disks new)
stays_between {P = P} disks old mid new parts taken back stays =
    subst (λ (p : Fused P). NoFault (disks_of disks old) (fused_disks disks p)) (sym back) (stays_taken disks old mid (fused_disks disks parts) taken stays)

pub goes_between : {P : Type 0} (disks : P → Disks) (old mid new : Stable P) (parts : Fused P) → mid ≡ down_with old None → new.parts ≡ parts → GoesOn (disks_of disks mid) (fused_disks disks parts) → GoesOn (disks_of disks old) (disks_of disks new)
goes_between {P = P} disks old mid new parts taken back goes =
    subst (λ (p : Fused P). GoesOn (disks_of disks old) (fused_disks disks p)) (sym back) (goes_taken disks old mid (fused_disks disks parts) taken goes)

-- no disk failed before a call, nor in it
pub ok_behind : {T : Type 0} (result : Result T Refusal) (old mid new : Disks) → NoFault old mid → OnOk result (NoFault mid new) → OnOk result (NoFault old new)
ok_behind (Ok x) old mid new before steady = stays_then old mid new before steady
ok_behind (Err r) old mid new before steady = tt

pub err_behind : {T : Type 0} (result : Result T Refusal) (old mid new : Disks) → NoFault old mid → IfErr result (λ r. is_stopped r ≡ false → NoFault mid new) → IfErr result (λ r. is_stopped r ≡ false → NoFault old new)
err_behind (Ok x) old mid new before quiet = tt
err_behind (Err r) old mid new before quiet = λ other. stays_then old mid new before (quiet other)

pub if_err_any : {T : Type 0} (result : Result T Refusal) (A : Type 0) → A → IfErr result (λ r. is_stopped r ≡ false → A)
if_err_any (Ok x) A a = tt
if_err_any (Err r) A a = λ other. a

-- a refusal that is handed on
quiet_of : {S : Type 0} (call : Result S Refusal) (r : Refusal) (A : Type 0) → call ≡ Err r → IfErr call (λ r. is_stopped r ≡ false → A) → is_stopped r ≡ false → A
quiet_of call r A is quiet = subst (λ (o : Result _ Refusal). IfErr o (λ r. is_stopped r ≡ false → A)) is quiet

pub err_through : {S T : Type 0} (call : Result S Refusal) (result : Result T Refusal) (A : Type 0) → ((r : Refusal) → IsErrOf result r → IsErrOf call r) → IfErr call (λ r. is_stopped r ≡ false → A) → IfErr result (λ r. is_stopped r ≡ false → A)
err_through call (Ok x) A of quiet = tt
err_through call (Err r) A of quiet = quiet_of call r A (of r refl) quiet
