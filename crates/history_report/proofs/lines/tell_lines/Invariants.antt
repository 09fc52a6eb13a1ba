-- What stands behind event k of the journal.
use Rattle.std.proofs.Common.{◌≡◌, ◌++◌}
use Rattle.history_report.proofs.TellLemmas.{TellsSoFar}
use Rattle.history_report.proofs.lines.tell_lines.Given as goal

abbrev pub invariant-events : goal.invariant-events
invariant-events g l =
    TellsSoFar g.S.Site.tells g.L.Sink.tells l.fn.chosen l.fn.manager l.manager (g.S.Site.state l.fn.site)
    (g.S.Site.state l.site) (g.L.Sink.state l.fn.out) (g.L.Sink.state l.out ++ l.text.items) l.k
    × (g.S.Site.counts l.site ≡ g.S.Site.counts l.fn.site)
