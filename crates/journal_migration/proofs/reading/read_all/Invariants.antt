use Rattle.std.proofs.Common.{◌≡◌, ◌<◌, ◌-◌}
use Rattle.site_traits.specs.Site.{Reads}
use Rattle.journal_records.specs.declared.limits.TheConstants.{MAX_FILE}
use Rattle.journal_migration.specs.Reading.{IsUnderWay}
use Rattle.journal_migration.proofs.reading.read_all.Given as goal

-- the records so far were judged and packed
abbrev pub invariant-loop-packing : goal.invariant-loop-packing
invariant-loop-packing g l =
    let start = g.S.Site.state l.fn.site in
    record {
      read : IsUnderWay g.S.Site.tells l.judged l.packing l.loading (g.S.Site.state l.site);
      manager : l.loading.manager ≡ l.fn.loading.manager;
      within : l.loading.end < MAX_FILE;
      counts : g.S.Site.counts l.site ≡ g.S.Site.counts l.fn.site;
      reads : g.S.Site.tells → Reads start (g.S.Site.state l.site);
    }

abbrev pub decreases-loop-packing : goal.decreases-loop-packing
decreases-loop-packing g l = MAX_FILE - l.loading.end
