-- A valid descriptor's event has a spelling.
use Rattle.std.proofs.Common.{refl}
use Rattle.lcm_sessions.specs.Verdict.{onboarding}
use Rattle.lcm_sessions.proofs.VerdictLemmas.{may_record}
use Rattle.lcm_sessions.proofs.judge.onboardings_may_be_recorded.Goals as goal

pub returns : goal.returns
returns c = λ m now H d may. may_record m H now d (onboarding now d) refl may
