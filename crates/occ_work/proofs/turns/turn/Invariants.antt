-- The acts so far were made, and no disk call failed.
use Rattle.std.proofs.Common.{◌-◌, ◌^◌}
use Rattle.occ_work.specs.Around.{DiskFails, reach, telling}
use Rattle.occ_work.proofs.TurnLemmas.{TurnSoFar}
use Rattle.occ_work.proofs.turns.turn.Given as goal

abbrev pub invariant-acts : goal.invariant-acts
invariant-acts g l = TurnSoFar (telling g.S.Site.tells g.O.Orchestrator.tells) l.fn.manager l.manager l.fn.now l.last l.turn
    (reach (g.S.Site.state l.fn.site) (g.S.Site.counts l.fn.site) (g.O.Orchestrator.state l.fn.orchestrator)
    (g.O.Orchestrator.counts l.fn.orchestrator))
    (reach (g.S.Site.state l.site) (g.S.Site.counts l.site) (g.O.Orchestrator.state l.orchestrator)
    (g.O.Orchestrator.counts l.orchestrator))
    × DiskFails ⊥ (g.S.Site.counts l.fn.site) (g.S.Site.counts l.site)

abbrev pub decreases-acts : goal.decreases-acts
decreases-acts g l = 2 ^ 64 - l.last
