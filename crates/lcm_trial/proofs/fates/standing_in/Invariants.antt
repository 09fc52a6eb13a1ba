-- The rows before the place are counted.
use Rattle.std.proofs.Common.{◌≡◌, length, take}
use Rattle.std.specs.Prelude.{sum_by}
use Rattle.lcm_trial.proofs.fates.standing_in.Given as goal

abbrev pub invariant-loop-row : goal.invariant-loop-row
invariant-loop-row l = l.standing ≡ sum_by (λ r. length r.holding.items) (take l.row-index l.rows)
