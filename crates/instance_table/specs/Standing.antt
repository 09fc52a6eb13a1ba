-- What the row of an instance says stands of it (SOL 003 5.5.2.2, instantiatedVnfInfo).
use Rattle.std.specs.Prelude.{List, Some, ℕ, ◌≡◌}
use Rattle.lcm_events.specs.declared.descriptor.Vnfd.{Vnfd}
use Rattle.lcm_events.specs.declared.events.Event.{Event}
use Rattle.lcm_model.specs.Allowed.{IsLegalWithin}
use Rattle.lcm_model.specs.Instances.{holding}
use Rattle.lcm_model.specs.Lives.{descriptor}
use Rattle.instance_table.specs.Rows.{instance}
use Rattle.instance_table.specs.declared.rows.InstanceRow.{InstanceRow}

-- in a legal history a live instance has a descriptor, and its row the holding by this descriptor (SOL 003 5.5.2.2)
abbrev pub RowsHaveHoldings : Type 0
RowsHaveHoldings =
    (width m : ℕ) (H : List Event) → IsLegalWithin width m H → (i : ℕ) (r : InstanceRow) → instance H i ≡ Some r
    → (d : Vnfd) × (descriptor H i ≡ Some d) × (r.holding ≡ holding d H i)
