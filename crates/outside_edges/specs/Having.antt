-- How the file at a path is had: by which calls, in which order, what they leave, and why it can't be (own rule).
use Rattle.std.specs.Prelude.{◌≡◌, ◌≢◌, ◌≤◌, ◌⊎◌, ℕ, List, [], ◌∷◌, ◌++◌, length, Option, Some, None, Result, Ok, Err}
use Rattle.std.specs.declared.alloc.AllocError.{AllocError}
use Rattle.std.specs.declared.io.ErrorKind.{ErrorKind}
use Rattle.std.specs.declared.io.ErrorKind.TheVariants as kind
use Rattle.host_calls.specs.Files.{Answer, FileCall, FileCalls, FilesState, Hold, Standing, called, made_once, new_file}
use Rattle.host_calls.specs.Files.{whole}
use Rattle.site_traits.specs.Site.{SiteState}
use Rattle.outside_edges.specs.Site.{why_by}
use Rattle.outside_edges.specs.declared.real_site.FolderSync.{FolderSync}
use Rattle.outside_edges.specs.declared.real_site.FolderSync.TheVariants.{Always, WhereMade}
use Rattle.outside_edges.specs.declared.real_site.WhyLost.{WhyLost}
use Rattle.outside_edges.specs.declared.real_site.WhyLost.TheVariants as why

-- what was opened is lent by these calls, in this order: whether it is a regular file, then its lock, and only then its
-- pages
abbrev pub to_lend : List FileCall
to_lend = FileCall.kind_check ∷ FileCall.locking ∷ FileCall.page_drop ∷ FileCall.lending ∷ []

-- and its name is brought to the disk before, where that is asked for
abbrev pub to_name : List FileCall
to_name = FileCall.folder_sync ∷ to_lend

abbrev pub to_take : FolderSync → List FileCall
to_take Always = to_name
to_take WhereMade = to_lend

-- the counts once these were made, the first of them first
abbrev pub all_made : List FileCall → FileCalls → FileCalls
all_made [] c = c
all_made (call ∷ calls) c = all_made calls (made_once call c)

-- the word for an answer that isn't yes
abbrev pub why_answered : Answer → WhyLost
why_answered (Answer.fault fault) = why_by fault
why_answered Answer.no = why.NotAFile
why_answered Answer.yes = why.Other

-- From these counts on the calls were made up to the first that wasn't answered by yes, and none behind it. The word is
-- that for its answer.
pub record StopsIn (calls : List FileCall) (cause : WhyLost) (before : FileCalls) (new : FilesState) : Type 0 where
  pub made : List FileCall
  pub rest : List FileCall
  pub front : calls ≡ made ++ rest
  pub some : 1 ≤ length made
  pub counts : new.calls ≡ all_made made before
  pub failed : new.last ≢ Answer.yes
  pub cause_is : cause ≡ why_answered new.last

-- all of the calls were made, where there is no word why the file was lost, or the front of them up to the one that the
-- word is for
abbrev pub Goes : List FileCall → Option WhyLost → FileCalls → FilesState → Type 0
Goes calls None before new = new.calls ≡ all_made calls before
Goes calls (Some cause) before new = StopsIn calls cause before new

-- the opening failed, for another cause than that nothing is there, and nothing else was tried
pub record Refuses (lost : Option WhyLost) (old new : FilesState) : Type 0 where
  pub fault : ErrorKind
  pub there : fault ≢ kind.NotFound
  pub called_once : new ≡ called FileCall.opening (Answer.fault fault) old
  pub cause : lost ≡ Some (why_by fault)

-- What stood at the path was opened. Whether it was had then or not, everything stands as it did.
pub record Takes (folder : FolderSync) (lost : Option WhyLost) (old new : FilesState) : Type 0 where
  pub goes : Goes (to_take folder) lost (made_once FileCall.opening old.calls) new
  pub stands : new.at ≡ old.at

-- none could be made, so everything stands as it did, and nothing else was tried
pub record MakesNone (lost : Option WhyLost) (before : FilesState) (new : FilesState) : Type 0 where
  pub fault : ErrorKind
  pub calls : new.calls ≡ made_once FileCall.making before.calls
  pub last : new.last ≡ Answer.fault fault
  pub cause : lost ≡ Some (why_by fault)
  pub stands : new.at ≡ before.at

-- A file was made at the path. Whether it was had then or not, it stands there, empty, and all else stands as it did.
pub record MakesOne (path : List ℕ) (lost : Option WhyLost) (before new : FilesState) : Type 0 where
  pub goes : Goes to_name lost (made_once FileCall.making before.calls) new
  pub here : new.at path ≡ Some new_file
  pub others : (p : List ℕ) → p ≢ path → new.at p ≡ before.at p

-- one or the other
abbrev pub MakesAtAll : List ℕ → Option WhyLost → FilesState → FilesState → Type 0
MakesAtAll path lost before new = MakesNone lost before new ⊎ MakesOne path lost before new

-- nothing stood at the path, where the opening found nothing, and one was made or not
pub record Makes (path : List ℕ) (lost : Option WhyLost) (old new : FilesState) : Type 0 where
  pub missing : old.at path ≡ None
  pub makes : MakesAtAll path lost (called FileCall.opening (Answer.fault kind.NotFound) old) new

-- the file at the path was had, or lost for this cause
abbrev pub Seeks : List ℕ → FolderSync → Option WhyLost → FilesState → FilesState → Type 0
Seeks path folder lost old new = Refuses lost old new ⊎ (Takes folder lost old new ⊎ Makes path lost old new)

-- What stood at a path stands there as it did, and nothing stands anywhere else that didn't.
pub record LeavesAll (path : List ℕ) (old new : FilesState) : Type 0 where
  pub stood : (p : List ℕ) (s : Standing) → old.at p ≡ Some s → new.at p ≡ Some s
  pub others : (p : List ℕ) → p ≢ path → new.at p ≡ old.at p

-- what was opened was lent as it stands
pub record IsLent {F : Type 0} (state : F → SiteState) (hold : F → Hold) (opened : Standing) (file : F) : Type 0 where
  pub image : (state file).image ≡ opened.content
  pub hold_is : hold file ≡ whole

-- why a file was lost, by what came of a call that was to have it
abbrev pub lost_in : {F : Type 0} → Result F WhyLost → Option WhyLost
lost_in (Ok file) = None
lost_in (Err cause) = Some cause

-- the same, where want of memory is a refusal, and each other word is kept
abbrev pub lost_by : Result (Unit {0}) AllocError → Option WhyLost → Option WhyLost
lost_by (Ok done) kept = kept
lost_by (Err fault) kept = Some why.Memory
