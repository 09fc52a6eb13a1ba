-- The deliveries so far were made, and no disk call failed.
use Rattle.notify_outbox.specs.Lent.{lent, telling}
use Rattle.notify_outbox.proofs.RoundLemmas.{RoundSoFar}
use Rattle.notify_outbox.proofs.rounds.deliver_all.Given as goal
use Rattle.site_traits.specs.Counts.{OnlyDiskFails}

abbrev pub invariant-deliveries : goal.invariant-deliveries
invariant-deliveries g l = RoundSoFar (telling g.S.Site.tells g.C.Courier.tells) l.fn.manager l.manager l.fn.now l.k l.made
    (lent (g.S.Site.state l.fn.site) (g.S.Site.counts l.fn.site) (g.C.Courier.state l.fn.courier) (g.C.Courier.counts l.fn.courier))
    (lent (g.S.Site.state l.site) (g.S.Site.counts l.site) (g.C.Courier.state l.courier) (g.C.Courier.counts l.courier))
    × OnlyDiskFails ⊥ (g.S.Site.counts l.fn.site) (g.S.Site.counts l.site)
