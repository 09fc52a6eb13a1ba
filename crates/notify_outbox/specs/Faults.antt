-- Which fault of a delivery a fault of reading an event back is.
use Rattle.executor.specs.declared.manager.ReadFault.{ReadFault}
use Rattle.executor.specs.declared.manager.ReadFault.TheVariants as reading
use Rattle.notify_outbox.specs.declared.faults.DeliveryFault.{DeliveryFault}
use Rattle.notify_outbox.specs.declared.faults.DeliveryFault.TheVariants as fault

-- which fault of a delivery it is
abbrev pub delivery_fault : ReadFault → DeliveryFault
delivery_fault (reading.BadRecord n) = fault.BadRecord n
delivery_fault reading.Disk = fault.Disk
delivery_fault reading.Memory = fault.Memory
