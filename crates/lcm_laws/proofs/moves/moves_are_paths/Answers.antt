use Rattle.lcm_laws.proofs.PathLaws.{path}
use Rattle.lcm_laws.proofs.moves.moves_are_paths.Goals as goal

pub returns : goal.returns
returns c = path
