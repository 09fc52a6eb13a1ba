use Rattle.vnfm_cli.proofs.HeadlineLemmas.{init_goes_on}
use Rattle.vnfm_cli.proofs.laws.inits_go_on.Goals as goal

pub returns : goal.returns
returns g c = λ m p s small fresh left. init_goes_on m p (g.S.Site.state s) small fresh left
