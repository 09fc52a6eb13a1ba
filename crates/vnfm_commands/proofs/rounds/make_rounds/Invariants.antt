-- The rounds so far were made, and no disk call failed.
use Rattle.std.proofs.Common.{◌-◌, ◌≤◌}
use Rattle.occ_work.specs.Around.{DiskFails}
use Rattle.vnfm_commands.specs.Outside.{outside, telling}
use Rattle.vnfm_commands.proofs.RoundLemmas.{RoundsSoFar}
use Rattle.vnfm_commands.proofs.rounds.make_rounds.Given as goal

abbrev pub invariant-rounds : goal.invariant-rounds
invariant-rounds g l = RoundsSoFar (telling g.S.Site.tells g.D.Door.tells g.O.Orchestrator.tells g.C.Courier.tells g.K.Clock.tells)
    l.fn.role l.fn.manager l.manager l.made
    (outside (g.S.Site.state l.fn.site) (g.S.Site.counts l.fn.site) l.fn.mouth (g.O.Orchestrator.state l.fn.orchestrator)
    (g.O.Orchestrator.counts l.fn.orchestrator) (g.C.Courier.state l.fn.courier) (g.C.Courier.counts l.fn.courier)
    (g.K.Clock.state l.fn.clock))
    (outside (g.S.Site.state l.site) (g.S.Site.counts l.site) l.mouth (g.O.Orchestrator.state l.orchestrator)
    (g.O.Orchestrator.counts l.orchestrator) (g.C.Courier.state l.courier) (g.C.Courier.counts l.courier) (g.K.Clock.state l.clock))
    × DiskFails ⊥ (g.S.Site.counts l.fn.site) (g.S.Site.counts l.site)
    × (l.made ≤ l.fn.wanted)

abbrev pub decreases-rounds : goal.decreases-rounds
decreases-rounds g l = l.fn.wanted - l.made
