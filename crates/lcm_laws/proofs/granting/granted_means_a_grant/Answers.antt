use Rattle.lcm_laws.proofs.GrantLaws.{granted_grant}
use Rattle.lcm_laws.proofs.granting.granted_means_a_grant.Goals as goal

pub returns : goal.returns
returns c = granted_grant
