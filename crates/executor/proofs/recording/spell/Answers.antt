-- Every event has a spelling of a byte or more.
use Rattle.executor.proofs.ManagerLemmas.{spelling-some}
use Rattle.executor.proofs.recording.spell.Goals as goal

pub returns-clause-some : goal.returns-clause-some
returns-clause-some c = spelling-some _

pub returns-in_err-encode-clause-some : goal.returns-in_err-encode-clause-some
returns-in_err-encode-clause-some c = spelling-some _
