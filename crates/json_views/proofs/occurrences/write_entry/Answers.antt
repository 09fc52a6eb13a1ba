-- The view has no float.
use Rattle.std.proofs.Common.{ap, ◌∙◌}
use Rattle.serde_json.specs.Written.{has_float}
use Rattle.instance_table.specs.Table.{vnfd_named}
use Rattle.json_views.proofs.OccurrenceLists.{row_plain}
use Rattle.json_views.proofs.occurrences.write_entry.Goals as goal

pub value-requires : goal.value-requires
value-requires c =
    ap has_float c.in_ok-value.ensures
    ∙ row_plain c.args.manager c.args.n c.args.row.now (vnfd_named c.args.instances.now.rows c.args.row.now.vnfd)
