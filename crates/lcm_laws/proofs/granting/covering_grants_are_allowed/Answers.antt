use Rattle.lcm_laws.proofs.CoverLaws.{cover_allowed}
use Rattle.lcm_laws.proofs.granting.covering_grants_are_allowed.Goals as goal

pub returns : goal.returns
returns c = cover_allowed
