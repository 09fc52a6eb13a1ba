-- What is in a history is in each that goes on from it.
use Rattle.notify_outbox.proofs.NoticeLemmas.{notice_stays}
use Rattle.notify_outbox.proofs.laws.notices_stay.Goals as goal

pub returns : goal.returns
returns c = notice_stays
