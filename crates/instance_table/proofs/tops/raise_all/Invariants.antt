use Rattle.std.proofs.Common.{drop, ◌≡◌}
use Rattle.instance_table.specs.Steps.{raised}
use Rattle.instance_table.proofs.tops.raise_all.Given as goal

abbrev pub invariant-loop-change : goal.invariant-loop-change
invariant-loop-change l = raised (drop l.change-index l.changes) l.tops.items ≡ raised l.changes l.initial.tops.items
