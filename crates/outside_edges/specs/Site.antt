-- The journal's real file.
use Rattle.std.specs.Prelude.{◌≡◌, ◌≢◌, ◌⊎◌, ℕ, ◌+◌, ◌-◌, nat_le, List, [], length, take, drop, true, Option, Some}
use Rattle.std.specs.Prelude.{None, IfSome, IsSome, IsSomeAnd, Result, Ok, Err, if◌then◌else◌}
use Rattle.std.specs.Int.{w32, from_be_bytes}
use Rattle.std.specs.declared.io.ErrorKind.{ErrorKind}
use Rattle.std.specs.declared.io.ErrorKind.TheVariants as kind
use Rattle.site_traits.specs.Counts.{SiteCounts, one_more}
use Rattle.site_traits.specs.Site.{SiteState, untold}
use Rattle.host_calls.specs.Files.{FilesState, Hold, Standing, whole}
use Rattle.outside_edges.specs.declared.real_site.FolderSync.{FolderSync}
use Rattle.outside_edges.specs.declared.real_site.FolderSync.TheVariants.{Always}
use Rattle.outside_edges.specs.declared.real_site.RealSite.{RealSite}
use Rattle.outside_edges.specs.declared.real_site.WhyLost.{WhyLost}
use Rattle.outside_edges.specs.declared.real_site.WhyLost.TheVariants as why

-- how often its disk calls, its calls on jobs and the looks among these failed, how often a begin was refused, and what
-- was asked of its file
abbrev pub counts_of : {F J : Type 0} → RealSite F J → SiteCounts
counts_of site =
    record {
      disk = site.faults;
      vim = site.vim_faults;
      look = site.look_faults;
      refusals = site.refusals;
      writes =
          site.writes;
      cuts = site.cuts;
      syncs = site.syncs;
    }

-- the manager's number, which are bytes 9 to 12 of a journal's file, where these bytes of it, from this place on, hold
-- all of them
abbrev pub number_in : ℕ → List ℕ → Option ℕ
number_in at bytes =
    if nat_le at 9 then (if nat_le 13 (at + length bytes) then Some (from_be_bytes w32 (take 4 (drop (9 - at) bytes)))
    else None) else None

-- the number that is known behind a read: the one that was read, else the one from before
abbrev pub manager_by : Option ℕ → ℕ → ℕ
manager_by None known = known
manager_by (Some read) known = read

-- what the site tells: what its file does, or nothing where it has none
abbrev pub state_in : {F : Type 0} → (F → SiteState) → Option F → SiteState
state_in state None = untold
state_in state (Some file) = state file

-- one call was made on the file, which stays, or there was none and is none
abbrev pub OneCall : {F : Type 0} → (F → ℕ) → Option F → Option F → Type 0
OneCall calls None new = new ≡ None
OneCall calls (Some file) new = IsSomeAnd new (λ f. calls f ≡ one_more (calls file))

-- the file's name is on the disk where its folder is to be synced each time, and where it was made
abbrev pub IsNamed : List ℕ → FolderSync → FilesState → FilesState → Type 0
IsNamed path folder old new = (folder ≡ Always) ⊎ (old.at path ≡ None) → new.named path ≡ true

-- what a read of what stands there gives, and nothing where none does
abbrev pub content_of : Option Standing → List ℕ
content_of None = []
content_of (Some standing) = standing.content

-- it is what stood at the path, or an empty file where nothing did; it is a regular file, is locked, and reads what the
-- disk has
pub record IsHad {F : Type 0} (state : F → SiteState) (hold : F → Hold) (path : List ℕ) (folder : FolderSync) (file : F)
    (old new : FilesState) : Type 0 where
  pub image : (state file).image ≡ content_of (old.at path)
  pub hold_is : hold file ≡ whole
  pub named : IsNamed path folder old new

-- where a file was opened, it is the one that is to be had
abbrev pub IsHeld : {F : Type 0} → (F → SiteState) → (F → Hold) → List ℕ → FolderSync → Option F → FilesState
    → FilesState → Type 0
IsHeld state hold path folder file old new = IfSome file (λ f. IsHad state hold path folder f old new)

-- Why a file couldn't be had, or a call on it failed, by the kind of the fault of the call that failed. That something
-- is there is said of a making alone, which comes where an opening found nothing: so it is a symbolic link to nothing.
-- The kinds of an address no call on a file gives: by them it is told that nothing, or another file, stands at its path.
abbrev pub why_by : ErrorKind → WhyLost
why_by kind.WouldBlock = why.Locked
why_by kind.NotFound = why.NoFolder
why_by kind.NotADirectory = why.NoFolder
why_by kind.PermissionDenied = why.NotPermitted
why_by kind.ReadOnlyFilesystem = why.ReadOnly
why_by kind.IsADirectory = why.NotAFile
why_by kind.AlreadyExists = why.DanglingLink
why_by kind.FilesystemLoop = why.LinkLoop
why_by kind.InvalidFilename = why.NameTooLong
why_by kind.StorageFull = why.NoSpace
why_by kind.QuotaExceeded = why.Quota
why_by kind.FileTooLarge = why.TooLarge
why_by kind.StaleNetworkFileHandle = why.Removed
why_by kind.AddrNotAvailable = why.Moved
why_by kind.AddrInUse = why.Replaced
why_by kind.UnexpectedEof = why.Shortened
why_by kind.OutOfMemory = why.Memory
why_by _ = why.Other

-- a file that is there has no word why it was lost, and one that isn't has one, which isn't want of memory
abbrev pub IsExplained : {F : Type 0} → Option F → Option WhyLost → Type 0
IsExplained (Some file) lost = lost ≡ None
IsExplained None lost = IsSomeAnd lost (λ cause. cause ≢ why.Memory)

-- the word behind a disk call: where the call succeeded it stays, and where there is no file, and else there is one
abbrev pub IsWhyBehind : {T E F : Type 0} → Result T E → Option F → Option WhyLost → Option WhyLost → Type 0
IsWhyBehind (Ok done) file old new = new ≡ old
IsWhyBehind (Err failed) None old new = new ≡ old
IsWhyBehind (Err failed) (Some file) old new = IsSome new
