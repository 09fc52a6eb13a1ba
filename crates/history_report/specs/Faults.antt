-- Which fault of telling a fault of reading an event back is.
use Rattle.executor.specs.declared.manager.ReadFault.{ReadFault}
use Rattle.executor.specs.declared.manager.ReadFault.TheVariants as reading
use Rattle.history_report.specs.declared.lines.TellFault.{TellFault}
use Rattle.history_report.specs.declared.lines.TellFault.TheVariants.{BadRecord, Disk, Memory}

-- each is the fault of that name
abbrev pub read_fault : ReadFault → TellFault
read_fault (reading.BadRecord n) = BadRecord n
read_fault reading.Disk = Disk
read_fault reading.Memory = Memory
