-- Why a repository wasn't opened, by what refused.
use Rattle.disk_trait.specs.declared.parts.Outage.TheVariants as outage
use Rattle.disk_trait.specs.declared.parts.Outage.{Outage}
use Rattle.log_frame.specs.declared.fault.LogFault.TheVariants as log
use Rattle.log_frame.specs.declared.fault.LogFault.{LogFault}
use Rattle.page_store.specs.declared.fault.StoreFault.TheVariants as store
use Rattle.page_store.specs.declared.fault.StoreFault.{StoreFault}
use Rattle.recovery.specs.declared.fault.RecoverFault.TheVariants as recover
use Rattle.recovery.specs.declared.fault.RecoverFault.{RecoverFault}
use Rattle.repo_durable.specs.declared.fault.OpenCause.TheVariants.{Changed, Failed, NoMemory}
use Rattle.repo_durable.specs.declared.fault.OpenCause.{OpenCause}
use Rattle.std.specs.Prelude.{Bool, false, true}

abbrev pub cause_of_outage : Outage → OpenCause
cause_of_outage outage.Failed = Failed
cause_of_outage outage.NoMemory = NoMemory

-- a disk that is damaged has changed since it was recovered
abbrev pub cause_of_store : StoreFault → OpenCause
cause_of_store store.Failed = Failed
cause_of_store (store.Damaged place) = Changed
cause_of_store store.NoMemory = NoMemory

abbrev pub cause_of_log : LogFault → OpenCause
cause_of_log log.Failed = Failed
cause_of_log (log.Damaged place) = Changed
cause_of_log log.NoMemory = NoMemory

-- ---- which faults of the layers below tell of a disk that failed

abbrev pub is_outage_failed : Outage → Bool
is_outage_failed outage.Failed = true
is_outage_failed outage.NoMemory = false

abbrev pub is_pages_failed : StoreFault → Bool
is_pages_failed store.Failed = true
is_pages_failed (store.Damaged place) = false
is_pages_failed store.NoMemory = false

abbrev pub is_log_failed : LogFault → Bool
is_log_failed log.Failed = true
is_log_failed (log.Damaged place) = false
is_log_failed log.NoMemory = false

abbrev pub is_recovery_failed : RecoverFault → Bool
is_recovery_failed (recover.Failed disk) = true
is_recovery_failed (recover.Damaged disk place) = false
is_recovery_failed recover.NoMemory = false
