-- One notice after another.
use Rattle.notify_outbox.proofs.OrderLemmas.{from_beginning, in_order, none_skipped, unpassed}
use Rattle.notify_outbox.proofs.laws.notices_go_in_order.Goals as goal

pub returns-clause-order : goal.returns-clause-order
returns-clause-order c = in_order

pub returns-clause-again : goal.returns-clause-again
returns-clause-again c = unpassed

pub returns-clause-skipped : goal.returns-clause-skipped
returns-clause-skipped c = none_skipped

pub returns-clause-beginning : goal.returns-clause-beginning
returns-clause-beginning c = from_beginning
