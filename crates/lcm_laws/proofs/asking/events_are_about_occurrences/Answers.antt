use Rattle.lcm_laws.proofs.AboutLaws.{about_asked}
use Rattle.lcm_laws.proofs.asking.events_are_about_occurrences.Goals as goal

pub returns : goal.returns
returns c = about_asked
