-- What an outage of the parts is to a log.
use Rattle.disk_trait.specs.declared.parts.Outage.{Outage}
use Rattle.disk_trait.specs.declared.parts.Outage.TheVariants.{Failed as DiskFailed, NoMemory as DiskMemory}
use Rattle.log_frame.specs.declared.fault.LogFault.{LogFault}
use Rattle.log_frame.specs.declared.fault.LogFault.TheVariants.{Failed, NoMemory}

abbrev pub fault_of : Outage → LogFault
fault_of DiskFailed = Failed
fault_of DiskMemory = NoMemory
