use Rattle.json_bodies.proofs.MachineLemmas.{read_back}
use Rattle.json_bodies.proofs.laws.machines_are_read_back.Goals as goal

pub returns : goal.returns
returns c = read_back
