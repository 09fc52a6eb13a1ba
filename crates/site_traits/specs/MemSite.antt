-- A site in memory.
use Rattle.std.specs.Prelude.{◌≡◌, ℕ, List, [], map}
use Rattle.site_traits.specs.Book.{counts_in}
use Rattle.site_traits.specs.Counts.{SiteCounts}
use Rattle.site_traits.specs.declared.mem_site.MemSite.{MemSite}
use Rattle.site_traits.specs.Disk.{change_of, disk, told_by}
use Rattle.site_traits.specs.Jobs.{Job}
use Rattle.site_traits.specs.KeptJobs.{jobs_at}
use Rattle.site_traits.specs.Site.{SiteState}

-- nothing was done to the site since it had this file and these jobs
pub record IsFresh (m : MemSite) (file : List ℕ) (jobs : List Job) : Type 0 where
  pub first : m.first.items ≡ file
  pub log : m.book.past.log.calls ≡ []
  pub jobs_are : jobs_at 0 m.book.past.kept.items ≡ jobs

-- what a read of the site's file gives
abbrev pub image_of : MemSite → List ℕ
image_of m = (disk m.first.items (map change_of m.book.past.log.calls)).seen

-- what the site tells
abbrev pub state_of : MemSite → SiteState
state_of m = told_by m.first.items m.book.past.log.calls m.book.past.kept.items

-- how often its disk calls failed, and what was asked of it
abbrev pub counts_of : MemSite → SiteCounts
counts_of m = counts_in m.book
