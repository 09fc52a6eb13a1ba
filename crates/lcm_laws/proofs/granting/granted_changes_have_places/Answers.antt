use Rattle.lcm_laws.proofs.GrantLaws.{all_placed}
use Rattle.lcm_laws.proofs.granting.granted_changes_have_places.Goals as goal

pub returns : goal.returns
returns c = all_placed
