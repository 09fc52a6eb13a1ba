use Rattle.subscription_asks.proofs.FilterLemmas.{body_small}
use Rattle.subscription_asks.proofs.records.asked_filters_are_small.Goals as goal

pub returns : goal.returns
returns c = body_small
