use Rattle.std.proofs.Common.{take, ◌≡◌}
use Rattle.instance_table.proofs.copies.copied_aspects.Given as goal

abbrev pub invariant-loop-aspect : goal.invariant-loop-aspect
invariant-loop-aspect l = l.copies.items ≡ take l.aspect-index l.aspects
