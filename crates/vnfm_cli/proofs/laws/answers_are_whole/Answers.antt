use Rattle.vnfm_cli.proofs.WholeLemmas.{whole_answer}
use Rattle.vnfm_cli.proofs.laws.answers_are_whole.Goals as goal

pub returns : goal.returns
returns g c = whole_answer _
