use Rattle.vnfm_cli.proofs.HeadlineLemmas.{life_goes_on}
use Rattle.vnfm_cli.proofs.laws.lives_go_on.Goals as goal

pub returns : goal.returns
returns g c = λ m H p s sound left. life_goes_on c.jobs_may_end.ensures m H p (g.S.Site.state s) sound left
