-- How a fault of a repository is told of its store.
use Rattle.disk_trait.specs.declared.parts.Outage.TheVariants as outage
use Rattle.disk_trait.specs.declared.parts.Outage.{Outage}
use Rattle.page_store.specs.declared.fault.StoreFault.TheVariants as page
use Rattle.page_store.specs.declared.fault.StoreFault.{StoreFault}
use Rattle.recovery.specs.declared.fault.RecoverFault.TheVariants as recovered
use Rattle.recovery.specs.declared.fault.RecoverFault.{RecoverFault}
use Rattle.repo_opening.specs.declared.unopened.Unopened.TheVariants.{Damaged, Failed, NoMemory}
use Rattle.repo_opening.specs.declared.unopened.Unopened.{Unopened}
use Rattle.std.specs.Prelude.{ℕ}

abbrev pub fault_of : ℕ → RecoverFault → Unopened
fault_of repo (recovered.Failed disk) = Failed repo
fault_of repo (recovered.Damaged disk place) = Damaged repo disk place
fault_of repo recovered.NoMemory = NoMemory

abbrev pub outage_of : ℕ → Outage → Unopened
outage_of repo outage.Failed = Failed repo
outage_of repo outage.NoMemory = NoMemory

abbrev pub page_fault_of : ℕ → StoreFault → Unopened
page_fault_of repo page.Failed = Failed repo
page_fault_of repo (page.Damaged place) = Damaged repo 2 place
page_fault_of repo page.NoMemory = NoMemory
