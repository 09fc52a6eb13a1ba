use Rattle.std.proofs.Common.{◌≡◌, ◌-◌, ℕ, List}
use Rattle.site_traits.specs.Counts.{asked}
use Rattle.site_traits.specs.Counts.Ask.{sync}
use Rattle.old_journal.specs.Load.{Loads}
use Rattle.journal_core.specs.Load.{SyncsAndReads}
use Rattle.old_journal.proofs.journal.OldJournal.load.Given as goal

-- the records read so far are those that the file begins with
abbrev pub invariant-loop-loading : goal.invariant-loop-loading
invariant-loop-loading g l = record {
  loads : g.S.Site.tells → (rs : List (List ℕ)) × Loads rs l.loading (g.S.Site.state l.site);
  told : g.S.Site.tells → SyncsAndReads (g.S.Site.state l.fn.site) (g.S.Site.state l.site);
  counts : g.S.Site.counts l.site ≡ asked sync (g.S.Site.counts l.fn.site);
}

abbrev pub decreases-loop-loading : goal.decreases-loop-loading
decreases-loop-loading g l = 268435456 - l.loading.end
