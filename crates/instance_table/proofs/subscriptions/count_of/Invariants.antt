use Rattle.std.proofs.Common.{filter, length, take, ◌≡◌, ◌≤◌}
use Rattle.instance_table.specs.Table.{is_role_of}
use Rattle.instance_table.proofs.subscriptions.count_of.Given as goal

abbrev pub invariant-loop-row : goal.invariant-loop-row
invariant-loop-row l = (l.count ≡ length (filter (is_role_of l.role) (take l.row-index l.rows))) × (l.count ≤ l.row-index)
