-- A disk fails as a repository is formatted.
use Rattle.disk_trait.proofs.Several.{goes_one}
use Rattle.disk_trait.specs.AllDisks.{GoesOn}
use Rattle.disk_trait.specs.Calls.{IsCall}
use Rattle.disk_trait.specs.Disks.{Disks, OnDisk, Rose}
use Rattle.disk_trait.specs.declared.parts.Outage.TheVariants.{Failed}
use Rattle.disk_trait.specs.declared.parts.Outage.TheVariants as outage
use Rattle.disk_trait.specs.declared.parts.Outage.{Outage}
use Rattle.log_frame.specs.declared.fault.LogFault.TheVariants as log
use Rattle.log_frame.specs.declared.fault.LogFault.{LogFault}
use Rattle.page_store.specs.declared.fault.StoreFault.TheVariants as page
use Rattle.page_store.specs.declared.fault.StoreFault.{StoreFault}
use Rattle.repo_durable.proofs.Failing.{failed_behind}
use Rattle.repo_durable.specs.Causes.{cause_of_log, cause_of_outage, cause_of_store}
use Rattle.repo_durable.specs.Failing.{HasFailed}
use Rattle.repo_durable.specs.declared.fault.OpenCause.TheVariants as cause
use Rattle.std.proofs.Common.{IsErrOf, Result, arith, refl, ◌<◌, ◌∙◌, ◌≡◌, ℕ}

-- in a call of this disk
pub call_failed : {T : Type 0} (old new : Disks) (disk : ℕ) (result : Result T Outage) → disk < 2 → IsCall old new disk result → IsErrOf result Failed → HasFailed old.faults new.faults
call_failed old new disk result log call is = record { disk = disk; within = omega (arith, log); rose = call.failed is }

-- behind calls
pub failed_second : (old mid new : Disks) (disk : ℕ) → OnDisk old mid disk → HasFailed mid.faults new.faults → HasFailed old.faults new.faults
failed_second old mid new disk alone failed = failed_behind old.faults mid.faults new.faults (goes_one old mid disk alone).faults failed

pub failed_goes : (old mid new : Disks) → GoesOn old mid → HasFailed mid.faults new.faults → HasFailed old.faults new.faults
failed_goes old mid new goes failed = failed_behind old.faults mid.faults new.faults goes.faults failed

pub call_failed_second : {T : Type 0} (old mid new : Disks) (disk : ℕ) (result : Result T Outage) → disk < 2 → OnDisk old mid disk → IsCall mid new disk result → IsErrOf result Failed → HasFailed old.faults new.faults
call_failed_second old mid new disk result log alone call is = failed_second old mid new disk alone (record { disk = disk; within = omega (arith, log); rose = call.failed is })

-- ---- the faults of the layers below that are told so

pub outage_is : (o : Outage) → cause_of_outage o ≡ cause.Failed → o ≡ outage.Failed
outage_is outage.Failed is = refl
outage_is outage.NoMemory is = absurd (cc)

pub store_is : (f : StoreFault) → cause_of_store f ≡ cause.Failed → f ≡ page.Failed
store_is page.Failed is = refl
store_is (page.Damaged place) is = absurd (cc)
store_is page.NoMemory is = absurd (cc)

pub log_is : (f : LogFault) → cause_of_log f ≡ cause.Failed → f ≡ log.Failed
log_is log.Failed is = refl
log_is (log.Damaged place) is = absurd (cc)
log_is log.NoMemory is = absurd (cc)

-- this disk failed
pub failed_at : (old new : Disks) (disk : ℕ) → disk < 3 → Rose (old.faults disk) (new.faults disk) → HasFailed old.faults new.faults
failed_at old new disk within rose = record { disk = disk; within = within; rose = rose }
