-- The changes that are made so far, and those of the numbers that are left, are all.
use Rattle.std.proofs.Common.{◌≡◌, ◌++◌, ◌-◌, length}
use Rattle.std.specs.List.{range_with_len}
use Rattle.std.specs.Prelude.{filter_map}
use Rattle.json_views.specs.Affected.{affected, made_at}
use Rattle.json_views.proofs.affected.changes_made.Given as goal

abbrev pub invariant-loop-number : goal.invariant-loop-number
invariant-loop-number l = l.list.items ++ filter_map (made_at l.fn.row) (range_with_len l.number (length l.fn.row.changes - l.number))
    ≡ affected l.fn.row
