-- How the files that the words name are opened: that of the journal, and behind it, for `migrate`, the one that the
-- journal goes to (own rule, docs/FORMATS.md).
use Rattle.std.specs.Prelude.{◌≡◌, ◌⊎◌, List, ℕ, Option, Some}
use Rattle.command_line.specs.declared.options.Command.{Command}
use Rattle.command_line.specs.declared.options.Command.TheVariants.{Check, Init, Migrate, Onboard, Once, Serve, Trial}
use Rattle.command_line.specs.declared.options.Settings.{Settings}
use Rattle.host_calls.specs.Files.{FilesState, Hold}
use Rattle.outside_edges.specs.Having.{LeavesAll, Seeks}
use Rattle.outside_edges.specs.Site.{IsExplained, IsHeld, counts_of}
use Rattle.outside_edges.specs.declared.jobs.NoJobs.{NoJobs}
use Rattle.outside_edges.specs.declared.real_site.FolderSync.{FolderSync}
use Rattle.outside_edges.specs.declared.real_site.FolderSync.TheVariants.{Always, WhereMade}
use Rattle.outside_edges.specs.declared.real_site.RealSite.{RealSite}
use Rattle.outside_edges.specs.declared.real_site.WhyLost.{WhyLost}
use Rattle.outside_edges.specs.declared.real_site.WhyLost.TheVariants.{Memory}
use Rattle.site_traits.specs.Site.{SiteState}

-- what tells of files, and what that which opens them and a file show
pub record FilesMeaning (H F : Type 0) : Type 1 where
  pub tells : Type 0
  pub file_tells : Type 0
  pub places : H → FilesState
  pub state : F → SiteState
  pub hold : F → Hold

-- what opens the files, the site of the journal, and that of the file that it goes to
pub record Sites (H F J : Type 0) : Type 0 where
  pub files : H
  pub site : RealSite F J
  pub spare : RealSite F NoJobs

-- the folder of a file that `init` makes is synced each time, so that the name of a journal that it answered for is on
-- the disk
abbrev pub folder_of : Command → FolderSync
folder_of Init = Always
folder_of Onboard = WhereMade
folder_of Once = WhereMade
folder_of Serve = WhereMade
folder_of Check = WhereMade
folder_of Migrate = WhereMade
folder_of Trial = WhereMade

module _ {H F : Type 0} where
  -- The file at this path was asked for. Where it was lost, it was for this cause. Whatever stood at a path stands as
  -- it did.
  pub record AsksForFile (m : FilesMeaning H F) (path : List ℕ) (folder : FolderSync) (lost : Option WhyLost)
      (old new : H) : Type 0 where
    pub seeks : m.tells → Seeks path folder lost (m.places old) (m.places new)
    pub stands : m.tells → LeavesAll path (m.places old) (m.places new)

  -- The file at this path was opened on the site, or it is told why it couldn't be had. Nothing else was done.
  pub record OpensFile {J : Type 0} (m : FilesMeaning H F) (path : List ℕ) (folder : FolderSync) (old new : H)
      (before behind : RealSite F J) : Type 0 where
    pub asks : AsksForFile m path folder behind.why old new
    pub file : m.tells → m.file_tells → IsHeld m.state m.hold path folder behind.file (m.places old) (m.places new)
    pub why : IsExplained behind.file behind.why
    pub counts : counts_of behind ≡ counts_of before
    pub jobs : behind.jobs ≡ before.jobs

  -- For `migrate` the file at this path was opened on the spare, its folder synced each time, so that the name of a
  -- journal that it answered for is on the disk. Every other command leaves the spare as it is, and opens no second
  -- file.
  abbrev pub OpensSpare : FilesMeaning H F → Command → List ℕ → H → H → RealSite F NoJobs → RealSite F NoJobs → Type 0
  OpensSpare m Migrate path old new before behind = OpensFile m path Always old new before behind
  OpensSpare m command path old new before behind = (new ≡ old) × (behind ≡ before)

module _ {H F J : Type 0} where
  -- the file of the journal was opened first, and that of the spare behind it
  pub record OpensFiles (m : FilesMeaning H F) (settings : Settings) (a b : Sites H F J) : Type 0 where
    pub between : H
    pub journal : OpensFile m settings.journal (folder_of settings.command) a.files between a.site b.site
    pub spare : OpensSpare m settings.command settings.to between b.files a.spare b.spare

  -- there was no memory to open the file of the journal
  pub record StarvesAtJournal (m : FilesMeaning H F) (settings : Settings) (a b : Sites H F J) : Type 0 where
    pub asks : AsksForFile m settings.journal (folder_of settings.command) (Some Memory) a.files b.files
    pub kept : b ≡ record a { files = b.files }

  -- the file of the journal was opened, and for that of the spare of `migrate` there was no memory
  pub record StarvesAtSpare (m : FilesMeaning H F) (settings : Settings) (a b : Sites H F J) : Type 0 where
    pub migrates : settings.command ≡ Migrate
    pub between : H
    pub journal : OpensFile m settings.journal (folder_of settings.command) a.files between a.site b.site
    pub asks : AsksForFile m settings.to Always (Some Memory) between b.files
    pub kept : b.spare ≡ a.spare

  -- there was no memory to open one of them
  abbrev pub StarvesOpening : FilesMeaning H F → Settings → Sites H F J → Sites H F J → Type 0
  StarvesOpening m settings a b = StarvesAtJournal m settings a b ⊎ StarvesAtSpare m settings a b
