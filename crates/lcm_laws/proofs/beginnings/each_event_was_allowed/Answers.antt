use Rattle.lcm_laws.proofs.Histories.{allowed_at}
use Rattle.lcm_laws.proofs.beginnings.each_event_was_allowed.Goals as goal

pub returns : goal.returns
returns c = allowed_at
