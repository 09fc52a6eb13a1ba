use Rattle.std.proofs.Common.{◌≡◌}
use Rattle.site_traits.specs.Site.{Reads}
use Rattle.old_journal.specs.File.{records}
use Rattle.old_journal.specs.Marks.{IsMark}
use Rattle.old_journal.proofs.back.place_of.Given as goal

-- so many records stand before the place
abbrev pub invariant-loop : goal.invariant-loop
invariant-loop g l = record {
  mark : g.S.Site.tells → IsMark (records (g.S.Site.state l.fn.site).image)
      (record { before = l.counter; place = l.place });
  told : g.S.Site.tells → Reads (g.S.Site.state l.fn.site) (g.S.Site.state l.site);
  counts : g.S.Site.counts l.site ≡ g.S.Site.counts l.fn.site;
}
