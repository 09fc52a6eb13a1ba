-- The rows of a legal history can be shown (own rule over SOL 003 5.4.2.3.2 and 5.4.3.3.2, GET on VNF instances and on
-- one).
use Rattle.std.specs.Prelude.{List, Some, ℕ, is_some, length, true, ◌<◌, ◌≡◌}
use Rattle.lcm_events.specs.declared.events.Event.{Event}
use Rattle.lcm_model.specs.Allowed.{IsLegalWithin}
use Rattle.lcm_model.specs.Lives.{descriptor_named}
use Rattle.vnfm_base.specs.Ident.{IsIdentNumber}
use Rattle.held_items.specs.Items.{AreInOrder}
use Rattle.instance_table.specs.Rows.{Rows, StandsFor, instance}
use Rattle.instance_table.specs.declared.rows.InstanceRow.{InstanceRow}
use Rattle.json_views.specs.Instances.{CanBeShown}

-- the row that is found of instance n can be shown as instance n, with the descriptor that it names (SOL 003 5.4.3.3.2)
pub record IsFoundShowable (H : List Event) (n : ℕ) (row : InstanceRow) : Type 0 where
  pub number : IsIdentNumber n
  pub same : row.number ≡ n
  pub order : AreInOrder row.holding.items
  pub onboarded : is_some (descriptor_named H row.vnfd) ≡ true

-- all rows can be shown, and each that is found by its number (own rule)
pub record CanAllBeShown (rs : Rows) (H : List Event) : Type 0 where
  pub all : CanBeShown rs
  pub each : (n : ℕ) (row : InstanceRow) → instance H n ≡ Some row → IsFoundShowable H n row

-- the rows of a legal history can be shown, while identifiers can carry the numbers of its events (own rule)
abbrev pub LegalRowsCanBeShown : Type 0
LegalRowsCanBeShown =
    (width m : ℕ) (H : List Event) (rs : Rows) → length H < 4611686018427387903 → IsLegalWithin width m H
    → StandsFor rs H → CanAllBeShown rs H
