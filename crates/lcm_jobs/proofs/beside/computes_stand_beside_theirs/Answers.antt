use Rattle.lcm_jobs.proofs.BesideLemmas.{beside_theirs}
use Rattle.lcm_jobs.proofs.beside.computes_stand_beside_theirs.Goals as goal

pub returns : goal.returns
returns c = beside_theirs
