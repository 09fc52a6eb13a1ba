use Rattle.std.proofs.Common.{◌≡◌, ℕ, ◌+◌, ◌-◌, ◌≤◌, List, [], get_or}
use Rattle.site_traits.specs.Site.{Reads}
use Rattle.journal_records.specs.File.{records_of_all}
use Rattle.journal_core.specs.Journal.{IsReadUpTo}
use Rattle.journal_core.specs.Back.{CanGive}
use Rattle.journal_core.proofs.back.give_many.Given as goal

-- so many records were given, and the last of them is the one that was given last
abbrev pub invariant-loop : goal.invariant-loop
invariant-loop g l = record {
  given : g.S.Site.tells → (bs : List (List (List ℕ))) (n : ℕ)
      → CanGive bs n l.fn.many l.fn.reader l.fn.end (g.S.Site.state l.fn.site).image
      → IsReadUpTo bs (n + l.counter) l.reader l.fn.end (g.S.Site.state l.site).image
      × (1 ≤ l.counter → l.reader.record_bytes ≡ get_or (records_of_all bs) (n + l.counter - 1) []);
  told : g.S.Site.tells → Reads (g.S.Site.state l.fn.site) (g.S.Site.state l.site);
  counts : g.S.Site.counts l.site ≡ g.S.Site.counts l.fn.site;
}
