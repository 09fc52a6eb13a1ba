-- What a trial's site tells, and how it is at first.
use Rattle.std.specs.Prelude.{◌≡◌, []}
use Rattle.site_traits.specs.Book.{none_counted}
use Rattle.site_traits.specs.Counts.{SiteCounts}
use Rattle.site_traits.specs.Jobs.{unanswered}
use Rattle.site_traits.specs.MemSite as mem
use Rattle.site_traits.specs.Site.{IsSettled, SiteState}
use Rattle.trial_outside.specs.declared.site.TrialSite.{TrialSite}

-- it tells what the site in it does
abbrev pub state_of : TrialSite → SiteState
state_of s = mem.state_of s.inner

-- the counts of the site in it, but for the calls on jobs that failed, which it counts itself
abbrev pub counts_of : TrialSite → SiteCounts
counts_of s = record (mem.counts_of s.inner) { vim = s.vim_faults; look = s.look_faults }

-- its file is empty, nothing is pending, there is no job, and no call was made
pub record IsFreshSite (s : TrialSite) : Type 0 where
  pub image : (state_of s).image ≡ []
  pub settled : IsSettled (state_of s)
  pub jobs : (state_of s).jobs ≡ []
  pub answers : (state_of s).answers ≡ unanswered
  pub counts : counts_of s ≡ none_counted
