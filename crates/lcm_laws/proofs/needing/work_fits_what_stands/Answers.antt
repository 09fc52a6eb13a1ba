use Rattle.lcm_laws.proofs.BeginLaws.{work_fits}
use Rattle.lcm_laws.proofs.needing.work_fits_what_stands.Goals as goal

pub returns : goal.returns
returns c = work_fits
