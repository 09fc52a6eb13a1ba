use Rattle.subscription_asks.proofs.SizeLemmas.{subscribed_fits}
use Rattle.subscription_asks.proofs.records.subscribed_events_fit_records.Goals as goal

pub returns : goal.returns
returns c = subscribed_fits
