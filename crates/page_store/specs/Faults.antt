-- What an outage of the parts is to a store of pages.
use Rattle.disk_trait.specs.declared.parts.Outage.{Outage}
use Rattle.disk_trait.specs.declared.parts.Outage.TheVariants.{Failed as DiskFailed, NoMemory as DiskMemory}
use Rattle.page_store.specs.declared.fault.StoreFault.{StoreFault}
use Rattle.page_store.specs.declared.fault.StoreFault.TheVariants.{Failed, NoMemory}

abbrev pub fault_of : Outage → StoreFault
fault_of DiskFailed = Failed
fault_of DiskMemory = NoMemory
