use Rattle.lcm_laws.proofs.OpenLaws.{open_of-other}
use Rattle.lcm_laws.proofs.attempting.other_events_leave_attempts.Goals as goal

pub returns : goal.returns
returns c = open_of-other
