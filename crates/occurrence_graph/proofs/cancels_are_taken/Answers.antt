use Rattle.occurrence_graph.proofs.CancelLaws.{cancels_taken}
use Rattle.occurrence_graph.proofs.cancels_are_taken.Goals as goal

pub returns : goal.returns
returns c = cancels_taken
