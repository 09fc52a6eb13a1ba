use Rattle.std.proofs.Common.{take, ◌≡◌}
use Rattle.instance_table.proofs.copies.copied_levels.Given as goal

abbrev pub invariant-loop-level : goal.invariant-loop-level
invariant-loop-level l = l.copies.items ≡ take l.level-index l.levels
