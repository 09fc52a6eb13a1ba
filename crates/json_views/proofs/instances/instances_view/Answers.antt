-- Every row is shown, and none has a float.
use Rattle.std.proofs.Common.{rules}
use Rattle.instance_table.specs.Table.{vnfd_named}
use Rattle.json_views.specs.Instances.{instances_text}
use Rattle.json_views.proofs.ListLemmas.{filter-all}
use Rattle.json_views.proofs.ViewLemmas.{row_plain}
use Rattle.json_views.proofs.instances.instances_view.Goals as goal

pub array_text-requires-clause-plain : goal.array_text-requires-clause-plain
array_text-requires-clause-plain c = λ row. row_plain c.args.manager row (vnfd_named c.args.table.now.rows row.vnfd)

pub returns : goal.returns
unfolding instances_text
returns c = search (rules, filter-all)
