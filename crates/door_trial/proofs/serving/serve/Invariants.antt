use Rattle.std.proofs.Common.{◌≡◌, true}
use Rattle.door_trial.proofs.serving.serve.Given as goal

-- the connection is up still
abbrev pub invariant-loop : goal.invariant-loop
invariant-loop g l = l.wire.intake.counts.up ≡ true
