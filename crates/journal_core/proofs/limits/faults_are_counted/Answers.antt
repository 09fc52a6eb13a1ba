use Rattle.journal_core.proofs.AskLemmas.{append_fails, create_fails}
use Rattle.journal_core.proofs.limits.faults_are_counted.Goals as goal

pub returns-clause-append : goal.returns-clause-append
returns-clause-append c = append_fails

pub returns-clause-create : goal.returns-clause-create
returns-clause-create c = create_fails
