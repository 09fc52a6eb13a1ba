use Rattle.lcm_laws.proofs.GrantLaws.{begun_granted}
use Rattle.lcm_laws.proofs.granting.attempts_stand_behind_grants.Goals as goal

pub returns : goal.returns
returns c = begun_granted
