-- The jobs of the attempts so far were aborted.
use Rattle.std.proofs.Common.{◌≡◌, List, map, reverse, take}
use Rattle.lcm_events.specs.declared.attempts.Tag.{Tag}
use Rattle.site_traits.specs.declared.jobs.AbortAnswer.{AbortAnswer}
use Rattle.occ_work.specs.Attempting.{AbortsEach, shows}
use Rattle.occ_work.proofs.attempts.abort_each.Given as goal

abbrev pub invariant-loop-attempt : goal.invariant-loop-attempt
invariant-loop-attempt g l = (each : List (Tag × AbortAnswer))
    × (map (λ a. a.0) each ≡ map (λ p. p.tag) (reverse (take l.attempt-index l.pending)))
    × AbortsEach g.S.Site.tells each (shows (g.S.Site.state l.fn.site) (g.S.Site.counts l.fn.site))
    (shows (g.S.Site.state l.site) (g.S.Site.counts l.site))
