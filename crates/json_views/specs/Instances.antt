-- The view of all live instances (SOL 003 5.4.2.3.2, GET on VNF instances), and when their rows can be shown.
use Rattle.std.specs.Option.{option_map_or}
use Rattle.std.specs.Prelude.{All, List, ℕ, is_some, true, ◌≡◌}
use Rattle.serde_json.specs.Data.{Data, null}
use Rattle.serde_json.specs.Written.{compact_text}
use Rattle.vnfm_base.specs.Ident.{IsIdentNumber}
use Rattle.held_items.specs.Items.{AreInOrder}
use Rattle.instance_table.specs.Rows.{Rows}
use Rattle.instance_table.specs.Table.{vnfd_named}
use Rattle.instance_table.specs.declared.rows.InstanceRow.{InstanceRow}
use Rattle.json_views.specs.Instance.{instance_value}
use Rattle.json_views.specs.Views.{array_of}

-- the instance of a row, as the descriptor that the row names has it; null where that isn't there (SOL 003 5.5.2.2)
abbrev pub row_value : ℕ → Rows → InstanceRow → Data
row_value manager rs row = option_map_or (instance_value manager row.number row) (vnfd_named rs row.vnfd) null

-- all live instances, in the order of their rows (SOL 003 5.4.2.3.2)
abbrev pub instances_value : ℕ → Rows → Data
instances_value manager rs = array_of (row_value manager rs) rs.instances

-- its text
unfoldable pub instances_text : ℕ → Rows → List ℕ
instances_text manager rs = compact_text (instances_value manager rs)

-- a row can be shown: its number is one of an identifier, its descriptor is there, and what stands of it is in order
-- (own rule)
pub record IsShowable (rs : Rows) (row : InstanceRow) : Type 0 where
  pub number : IsIdentNumber row.number
  pub onboarded : is_some (vnfd_named rs row.vnfd) ≡ true
  pub order : AreInOrder row.holding.items

-- each row of an instance can be shown (own rule)
abbrev pub CanBeShown : Rows → Type 0
CanBeShown rs = All (IsShowable rs) rs.instances
