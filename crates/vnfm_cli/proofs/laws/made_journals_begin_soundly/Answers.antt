use Rattle.vnfm_cli.proofs.HeadlineLemmas.{made_begins}
use Rattle.vnfm_cli.proofs.laws.made_journals_begin_soundly.Goals as goal

pub returns : goal.returns
returns g c = λ m s small made none. made_begins m (g.S.Site.state s) small made none
