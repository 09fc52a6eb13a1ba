-- All of the request went out before the reply was waited for, and the calls in vain are those of both.
use Rattle.std.proofs.Common.{Some, ◌∙◌}
use Rattle.peer_exchange.proofs.LostLaws.{counts_from, interrupted_from}
use Rattle.peer_exchange.proofs.SentLaws.{whole_sent}
use Rattle.peer_exchange.proofs.exchanging.exchange.Goals as goal

pub returns-in-Err-receive-clause-sends : goal.returns-in-Err-receive-clause-sends
returns-in-Err-receive-clause-sends g c = λ told.
    whole_sent c.in-Err-receive.lost _ _ _ c.in-Err-receive.ensures.why
    (c.in-Err-receive.ensures.kept told ∙ c.in-Ok.ensures.sent told)

pub returns-in-Ok-receive-clause-counts : goal.returns-in-Ok-receive-clause-counts
returns-in-Ok-receive-clause-counts g c = λ told.
    interrupted_from _ _ _ (c.in-Ok.ensures.counts told) (c.in-Ok-receive.ensures.counts told)

pub returns-in-Err-receive-clause-counts : goal.returns-in-Err-receive-clause-counts
returns-in-Err-receive-clause-counts g c = λ told.
    counts_from (Some c.in-Err-receive.lost) _ _ _ (c.in-Ok.ensures.counts told) (c.in-Err-receive.ensures.counts told)
