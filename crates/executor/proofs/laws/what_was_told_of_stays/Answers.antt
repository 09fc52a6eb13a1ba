use Rattle.executor.proofs.ChainLemmas.{chains_join, standing_stays}
use Rattle.executor.proofs.laws.what_was_told_of_stays.Goals as goal

pub returns-clause-joins : goal.returns-clause-joins
returns-clause-joins g c = λ a b d m H G w n o later earlier before between now one within first other second.
    chains_join _ m H G w n o later earlier before between now _ _ _ one within first other second

pub returns-clause-stands : goal.returns-clause-stands
returns-clause-stands g c = λ a b m H w n at told. standing_stays m H w n _ _ (at told)
