use Rattle.lcm_laws.proofs.GrantLaws.{place_grant}
use Rattle.lcm_laws.proofs.granting.places_are_the_grants.Goals as goal

pub returns : goal.returns
returns c = place_grant
