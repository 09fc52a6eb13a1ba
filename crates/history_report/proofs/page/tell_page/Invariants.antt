-- The file was only read, and nothing was put.
use Rattle.std.proofs.Common.{◌≡◌}
use Rattle.history_report.proofs.TellLemmas.{ReadsSoFar}
use Rattle.history_report.proofs.page.tell_page.Given as goal

abbrev pub invariant-events : goal.invariant-events
invariant-events g l =
    ReadsSoFar g.S.Site.tells l.fn.manager l.manager (g.S.Site.state l.fn.site) (g.S.Site.state l.site)
    × (g.S.Site.counts l.site ≡ g.S.Site.counts l.fn.site)
