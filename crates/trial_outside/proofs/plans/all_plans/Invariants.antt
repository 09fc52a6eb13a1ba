-- The plans so far are those of the first begins.
use Rattle.std.proofs.Common.{◌≡◌, length}
use Rattle.trial_outside.specs.Taken.{ArePlans}
use Rattle.trial_outside.proofs.plans.all_plans.Given as goal

abbrev pub invariant-loop-before : goal.invariant-loop-before
invariant-loop-before l = (length l.plans.items ≡ l.before) × ArePlans l.plans.items
