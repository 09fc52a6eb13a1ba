use Rattle.vnfm_commands.specs.Course.{ending_of}
use Rattle.vnfm_cli.proofs.EndingLemmas.{done_status}
use Rattle.vnfm_cli.proofs.ExactLemmas.{made_ending}
use Rattle.vnfm_cli.proofs.laws.init_makes_the_journal.Goals as goal

pub returns : goal.returns
returns g c = λ words course status m a b c d of did ends told are at.
    made_ending course words (g.S.Site.state a) (g.S.Site.state b) m are of (did told)
    (done_status ends.put (ending_of course) status ends.status_is at)
