use Rattle.std.proofs.Common.{◌≡◌, true}
use Rattle.door_cases.proofs.gathering.print_reads.Given as goal

abbrev pub invariant-reads : goal.invariant-reads
invariant-reads g l = (g.D.Door.counts l.door).up ≡ true
