-- The request and the turns lead on, one after the other.
use Rattle.lcm_trial.specs.Stages.{asked_of, stepped, turned}
use Rattle.lcm_trial.proofs.trial.Trial.step.Goals as goal

pub returns-clause-at : goal.returns-clause-at
unfolding stepped
returns-clause-at c = λ s at.
    c.turn-3.ensures.at (turned (turned (asked_of s)))
    (c.in_ok-turn-2.ensures.at (turned (asked_of s)) (c.in_ok-turn.ensures.at (asked_of s) (c.in_ok-ask.ensures.at s at)))
