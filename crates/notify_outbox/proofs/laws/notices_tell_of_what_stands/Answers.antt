-- What is posted was there when the deliveries began.
use Rattle.notify_outbox.proofs.OrderLemmas.{stands_since}
use Rattle.notify_outbox.proofs.laws.notices_tell_of_what_stands.Goals as goal

pub returns : goal.returns
returns g c = λ p ps end n a b i j d e did told x there. stands_since _ p ps end n _ _ did told x there
