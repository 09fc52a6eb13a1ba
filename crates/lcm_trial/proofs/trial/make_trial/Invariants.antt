-- So many steps were played.
use Rattle.std.proofs.Common.{◌-◌, ◌≤◌}
use Rattle.lcm_trial.proofs.TrialLemmas.{IsPlayed}
use Rattle.lcm_trial.proofs.trial.make_trial.Given as goal

abbrev pub invariant-loop-made : goal.invariant-loop-made
invariant-loop-made l = IsPlayed l.fn.start l.made l.trial × (l.made ≤ l.fn.count)

abbrev pub decreases-loop-made : goal.decreases-loop-made
decreases-loop-made l = l.fn.count - l.made
