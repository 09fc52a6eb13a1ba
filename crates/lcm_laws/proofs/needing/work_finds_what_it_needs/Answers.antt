use Rattle.lcm_laws.proofs.WorldLaws.{work_needs}
use Rattle.lcm_laws.proofs.needing.work_finds_what_it_needs.Goals as goal

pub returns : goal.returns
returns c = work_needs
