use Rattle.std.proofs.Common.{take, ◌≡◌}
use Rattle.instance_table.proofs.copies.copied_vdus.Given as goal

abbrev pub invariant-loop-vdu : goal.invariant-loop-vdu
invariant-loop-vdu l = l.copies.items ≡ take l.vdu-index l.vdus
