use Rattle.vnfm_cli.proofs.DeliveryLemmas.{goes_in_order}
use Rattle.vnfm_cli.proofs.laws.deliveries_go_in_order.Goals as goal

pub returns : goal.returns
returns g c = goes_in_order c.notices_go_in_order.ensures.order c.notices_go_in_order.ensures.again c.notices_go_in_order.ensures.skipped _
