use Rattle.journal_core.proofs.LoadLemmas.{loading_keeps}
use Rattle.journal_migration.proofs.migration.refuse_full.Goals as goal

pub returns-in_err-may_be_made-clause-jobs : goal.returns-in_err-may_be_made-clause-jobs
returns-in_err-may_be_made-clause-jobs g c = λ tells. loading_keeps _ _ (c.may_be_made.ensures.told tells)

pub returns-then-not-branch-clause-jobs : goal.returns-then-not-branch-clause-jobs
returns-then-not-branch-clause-jobs g c = λ tells. loading_keeps _ _ (c.may_be_made.ensures.told tells)

pub returns-clause-jobs : goal.returns-clause-jobs
returns-clause-jobs g c = λ tells. loading_keeps _ _ (c.may_be_made.ensures.told tells)
