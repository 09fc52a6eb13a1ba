use Rattle.instance_table.proofs.DeliveryLaws.{tries-next}
use Rattle.instance_table.proofs.deliveries.tries_are_of_the_next_notice.Goals as goal

pub returns : goal.returns
returns c = tries-next
