use Rattle.std.proofs.Common.{◌≡◌, true}
use Rattle.door_trial.proofs.serving.write_filler.Given as goal

-- the connection is up still
abbrev pub invariant-loop : goal.invariant-loop
invariant-loop g l = (g.D.Door.counts l.door).up ≡ true
