-- No more subscriptions were made than the journal has records.
use Rattle.std.proofs.Common.{arith}
use Rattle.executor.proofs.SerialLemmas.{subscribed_within}
use Rattle.executor.proofs.manager.Manager.next_subscription.Goals as goal

pub after-requires-clause-within : goal.after-requires-clause-within
after-requires-clause-within g c =
    let usable = rw (← c.self.view_is) at c.requires in
    let H = c.self.invariant.0.0 in
    let keeps = c.self.invariant.0.1 in
    let count = keeps.kept.count usable in
    let made = c.made-made.ensures.made H keeps.tables.instances in
    let within = subscribed_within H in
    omega (arith, made, count, within, c.count-records.ensures.value)
