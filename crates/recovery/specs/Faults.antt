-- A fault of finding logs, of a page or of a log, as one of recovery.
use Rattle.log_frame.specs.declared.fault.LogFault.TheVariants as of_log
use Rattle.log_frame.specs.declared.fault.LogFault.{LogFault}
use Rattle.page_store.specs.declared.fault.StoreFault.TheVariants as of_page
use Rattle.page_store.specs.declared.fault.StoreFault.{StoreFault}
use Rattle.std.specs.Prelude.{ℕ}
use Rattle.recovery.specs.declared.fault.RecoverFault.TheVariants as recovered
use Rattle.recovery.specs.declared.fault.RecoverFault.{RecoverFault}
use Rattle.commit_log.specs.declared.fault.FindFault.TheVariants as found
use Rattle.commit_log.specs.declared.fault.FindFault.{FindFault}

abbrev pub found_fault : FindFault → RecoverFault
found_fault (found.Failed disk) = recovered.Failed disk
found_fault (found.Damaged disk place) = recovered.Damaged disk place
found_fault found.NoMemory = recovered.NoMemory

abbrev pub page_fault : StoreFault → RecoverFault
page_fault of_page.Failed = recovered.Failed 2
page_fault (of_page.Damaged place) = recovered.Damaged 2 place
page_fault of_page.NoMemory = recovered.NoMemory

abbrev pub log_fault : ℕ → LogFault → RecoverFault
log_fault disk of_log.Failed = recovered.Failed disk
log_fault disk (of_log.Damaged place) = recovered.Damaged disk place
log_fault disk of_log.NoMemory = recovered.NoMemory
