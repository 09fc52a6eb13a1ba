use Rattle.std.proofs.Common.{rules}
use Rattle.std.proofs.lemmas.List.Sorted.{IsPartitionPoint-from_clause}
use Rattle.change_planner.specs.Rolls.{comes_before}
use Rattle.change_planner.proofs.SpanLaws.{parted_before, point_count}
use Rattle.change_planner.proofs.spans.count_before.Goals as goal

pub returns-clause-value : goal.returns-clause-value
returns-clause-value c =
    point_count (comes_before c.args.vdu c.args.serial) c.args.items.now c.partition_point.result c.partition_point.ensures.bound
    (IsPartitionPoint-from_clause (comes_before c.args.vdu c.args.serial) _ _ c.partition_point.ensures.partitioned
    (parted_before c.args.vdu c.args.serial c.args.items.now c.requires) (λ a r q k. search rules))
