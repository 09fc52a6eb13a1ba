use Rattle.std.proofs.Common.{◌≡◌, ◌<◌, ◌+◌, ◌-◌}
use Rattle.site_traits.specs.Site.{Reads}
use Rattle.journal_records.specs.declared.limits.TheConstants.{MAX_FILE}
use Rattle.executor.specs.Loading.{IsUnderWay}
use Rattle.executor.proofs.open.judge_all.Given as goal

-- the records so far were judged
abbrev pub invariant-loop-judged : goal.invariant-loop-judged
invariant-loop-judged g l =
    let start = g.S.Site.state l.fn.site in
    record {
      judged : IsUnderWay g.S.Site.tells l.judged l.loading (g.S.Site.state l.site);
      manager : l.loading.manager ≡ l.fn.loading.manager;
      within : l.loading.total < MAX_FILE + MAX_FILE;
      counts : g.S.Site.counts l.site ≡ g.S.Site.counts l.fn.site;
      reads : g.S.Site.tells → Reads start (g.S.Site.state l.site);
    }

abbrev pub decreases-loop-judged : goal.decreases-loop-judged
decreases-loop-judged g l = MAX_FILE + MAX_FILE - l.loading.total
