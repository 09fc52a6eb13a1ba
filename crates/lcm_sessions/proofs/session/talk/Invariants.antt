-- So many requests were answered, and all replies to them were told whole. No disk call failed.
use Rattle.std.proofs.Common.{◌-◌, ◌≡◌}
use Rattle.http_wire.specs.declared.TheConstants.{CONNECTION_REQUESTS}
use Rattle.lcm_mouth.specs.World.{telling, world}
use Rattle.lcm_sessions.proofs.TalkLemmas.{TalksSoFar}
use Rattle.site_traits.specs.Counts.{OnlyDiskFails}
use Rattle.lcm_sessions.proofs.session.talk.Given as goal

abbrev pub invariant-steps : goal.invariant-steps
invariant-steps g l = TalksSoFar (telling g.S.Site.tells g.D.Door.tells g.K.Clock.tells) l.role l.fn.manager l.manager l.told
    (world (g.S.Site.state l.fn.site) l.fn.mouth (g.K.Clock.state l.fn.clock))
    (world (g.S.Site.state l.site) l.mouth (g.K.Clock.state l.clock))
    × OnlyDiskFails ⊥ (g.S.Site.counts l.fn.site) (g.S.Site.counts l.site)
    × (l.role ≡ l.fn.role)

abbrev pub decreases-steps : goal.decreases-steps
decreases-steps g l = CONNECTION_REQUESTS - l.mouth.wire.taken
