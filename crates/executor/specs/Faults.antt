-- Which fault of the manager a fault of its journal is.
use Rattle.journal_core.specs.declared.loading.LoadFault.{LoadFault}
use Rattle.journal_core.specs.declared.loading.LoadFault.TheVariants as loading
use Rattle.journal_core.specs.declared.journal.AppendFault.{AppendFault}
use Rattle.journal_core.specs.declared.journal.AppendFault.TheVariants as appending
use Rattle.journal_core.specs.declared.back.BackFault.{BackFault}
use Rattle.journal_core.specs.declared.back.BackFault.TheVariants as backing
use Rattle.executor.specs.declared.manager.ReadFault.{ReadFault}
use Rattle.executor.specs.declared.manager.ReadFault.TheVariants as reading
use Rattle.executor.specs.declared.manager.WorkFault.{WorkFault}
use Rattle.executor.specs.declared.manager.WorkFault.TheVariants as work
use Rattle.executor.specs.declared.manager.OpenFault.{OpenFault}
use Rattle.executor.specs.declared.manager.OpenFault.TheVariants.{Unmade, Foreign, BadRecord, Disk, Memory}

-- which fault of opening a fault of loading is: a broken record is a bad one
abbrev pub opened_fault : LoadFault → OpenFault
opened_fault loading.Unmade = Unmade
opened_fault (loading.Foreign place) = Foreign place
opened_fault (loading.Broken n) = BadRecord n
opened_fault loading.Disk = Disk
opened_fault loading.Memory = Memory

-- which fault of recording a fault of appending is
abbrev pub work_fault : AppendFault → WorkFault
work_fault (appending.Full end more) = work.Full end more
work_fault appending.Disk = work.Disk

-- which fault of reading an event back a fault of reading a record back is: a broken record is a bad one
abbrev pub read_fault : BackFault → ReadFault
read_fault (backing.Broken n) = reading.BadRecord n
read_fault backing.Disk = reading.Disk
