-- A call of the door failed exactly where that is the answer.
use Rattle.lcm_sessions.proofs.HeardLemmas.{onboarding_fails}
use Rattle.lcm_sessions.proofs.hearing.onboard.Goals as goal

pub returns-clause-door : goal.returns-clause-door
returns-clause-door g c =
    let it = c.onboard_into.ensures.onboards c.requires.ready.0 c.requires.ready.1 in
    rw it.2 (onboarding_fails _ _ c.requires.ready.0 it.0 _ _ it.1.brings.door)
