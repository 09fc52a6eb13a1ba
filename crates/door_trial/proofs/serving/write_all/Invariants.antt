use Rattle.std.proofs.Common.{◌≡◌, ◌-◌, length, true}
use Rattle.door_trial.proofs.serving.write_all.Given as goal

-- the connection is up still
abbrev pub invariant-loop-at : goal.invariant-loop-at
invariant-loop-at g l = (g.D.Door.counts l.door).up ≡ true

abbrev pub decreases-loop-at : goal.decreases-loop-at
decreases-loop-at g l = length l.bytes - l.at
