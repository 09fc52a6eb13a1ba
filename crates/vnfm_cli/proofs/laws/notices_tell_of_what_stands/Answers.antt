use Rattle.vnfm_cli.proofs.DeliveryLemmas.{tells_of_what_stands}
use Rattle.vnfm_cli.proofs.laws.notices_tell_of_what_stands.Goals as goal

pub returns : goal.returns
returns g c = tells_of_what_stands c.notices_go_in_order.ensures.beginning _
