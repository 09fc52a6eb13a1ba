-- Opening syncs and reads, and so does reading all.
use Rattle.executor.proofs.ManagerLemmas.{syncs_then}
use Rattle.journal_migration.proofs.reading.read_packed.Goals as goal

pub returns-in_err-judged-clause-told : goal.returns-in_err-judged-clause-told
returns-in_err-judged-clause-told g c = λ tells. syncs_then _ _ _ (c.open.ensures.told tells) (c.read_all.ensures.told tells).reads

pub returns-in-Some-clause-told : goal.returns-in-Some-clause-told
returns-in-Some-clause-told g c = λ tells. syncs_then _ _ _ (c.open.ensures.told tells) (c.read_all.ensures.told tells).reads

pub returns-clause-told : goal.returns-clause-told
returns-clause-told g c = λ tells. syncs_then _ _ _ (c.open.ensures.told tells) (c.read_all.ensures.told tells).reads
