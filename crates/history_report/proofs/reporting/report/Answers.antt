-- The file is synced and read when the journal is opened, and then read once more.
use Rattle.journal_core.proofs.LoadLemmas.{syncs_then_reads}
use Rattle.history_report.proofs.reporting.report.Goals as goal

pub returns-in_err-tell-clause-reads : goal.returns-in_err-tell-clause-reads
returns-in_err-tell-clause-reads g c = λ told.
    syncs_then_reads _ _ _ (c.load.ensures.told told) (c.tell.ensures.reads told)

pub returns-clause-reads : goal.returns-clause-reads
returns-clause-reads g c = λ told.
    syncs_then_reads _ _ _ (c.load.ensures.told told) (c.tell.ensures.reads told)
