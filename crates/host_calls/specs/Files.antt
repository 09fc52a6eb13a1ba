-- What calls of std on paths and open files do to the files that stand there.
use Rattle.std.specs.Prelude.{◌≡◌, ◌≢◌, ◌*◌, ℕ, List, [], ◌∷◌, Bool, true, false, Option, Some, None, Result, Ok, Err}
use Rattle.std.specs.Prelude.{IfOk, IfErr, OnOk, OnErr}
use Rattle.std.specs.IoError.{error_kind}
use Rattle.std.specs.Path.{cur_dir, path_parent}
use Rattle.std.specs.declared.io.ErrorKind.{ErrorKind}
use Rattle.std.specs.declared.io.ErrorKind.TheVariants as kind
use Rattle.std.specs.declared.io.Error.{Error}
use Rattle.site_traits.specs.Counts.{one_more}
use Rattle.site_traits.specs.Site.{SiteState}

-- how an open file is held: whether it is a regular file, whether it is locked against every other opening, and whether
-- what it reads is what the disk has
pub record Hold : Type 0 where
  pub regular : Bool
  pub locked : Bool
  pub from_disk : Bool

-- a file that was just opened, regular or not
abbrev pub free : Bool → Hold
free regular = record { regular = regular; locked = false; from_disk = false }

-- a regular file that is locked and reads what the disk has
abbrev pub whole : Hold
whole = record { regular = true; locked = true; from_disk = true }

-- Where the call succeeds the file is locked. What was dropped of it before says nothing any more: until then others
-- may have written.
pub record Locks {T E : Type 0} (result : Result T E) (old new : Hold) : Type 0 where
  pub locked : OnOk result (new ≡ record old { locked = true; from_disk = false })
  pub failed : OnErr result (new ≡ old)

-- where the call succeeds what the file reads is what the disk has
pub record Forgets {T E : Type 0} (result : Result T E) (old new : Hold) : Type 0 where
  pub from_disk : OnOk result (new ≡ record old { from_disk = true })
  pub failed : OnErr result (new ≡ old)

-- what stands at a path: whether it is a regular file, its mode, and what a read of it gives
pub record Standing : Type 0 where
  pub regular : Bool
  pub mode : ℕ
  pub content : List ℕ

-- an empty file that its owner alone may read and write
abbrev pub new_file : Standing
new_file = record { regular = true; mode = 6 * 8 * 8; content = [] }

-- a call by which a file is had: an opening of what stands at a path, a making of what is missing there, a sync of its
-- folder; of what was opened the question whether it is a regular file, a lock and a dropping of its pages; and its
-- lending to whoever reads and writes it
pub data FileCall : Type 0 where
  opening making folder_sync kind_check locking page_drop lending : FileCall

-- how often each was made, as far as a u64 counts
pub record FileCalls : Type 0 where
  pub opens : ℕ
  pub makes : ℕ
  pub folder_syncs : ℕ
  pub kinds : ℕ
  pub locks : ℕ
  pub drops : ℕ
  pub lends : ℕ

-- none was made
abbrev pub uncalled : FileCalls
uncalled = record { opens = 0; makes = 0; folder_syncs = 0; kinds = 0; locks = 0; drops = 0; lends = 0 }

-- this one was made once more
abbrev pub made_once : FileCall → FileCalls → FileCalls
made_once opening c = record c { opens = one_more c.opens }
made_once making c = record c { makes = one_more c.makes }
made_once folder_sync c = record c { folder_syncs = one_more c.folder_syncs }
made_once kind_check c = record c { kinds = one_more c.kinds }
made_once locking c = record c { locks = one_more c.locks }
made_once page_drop c = record c { drops = one_more c.drops }
made_once lending c = record c { lends = one_more c.lends }

-- how a call was answered: it succeeded, it said no, or it failed by a fault of this kind
pub data Answer : Type 0 where
  yes no : Answer
  fault : ErrorKind → Answer

-- the answer of a call that only succeeds or fails
abbrev pub answer_of : {T : Type 0} → Result T Error → Answer
answer_of (Ok value) = yes
answer_of (Err e) = fault (error_kind e)

-- the answer of a call that may say no
abbrev pub yes_or_no : Result Bool Error → Answer
yes_or_no (Ok true) = yes
yes_or_no (Ok false) = no
yes_or_no (Err e) = fault (error_kind e)

-- What stands at paths, whether it was opened or not, until it is lent; whether its name is on the disk; which calls
-- were made, and how the last of them was answered.
pub record FilesState : Type 0 where
  pub at : List ℕ → Option Standing
  pub named : List ℕ → Bool
  pub calls : FileCalls
  pub last : Answer

-- nothing stands anywhere
abbrev pub nothing : FilesState
nothing = record { at = λ _. None; named = λ _. false; calls = uncalled; last = yes }

-- this call was made and was answered so, and nothing else changed
abbrev pub called : FileCall → Answer → FilesState → FilesState
called call answer s = record s { calls = made_once call s.calls; last = answer }

-- What stands at the path was opened as it is, or nothing was; that none is there is said only where it is so (std,
-- `OpenOptions::open`).
pub record Finds {F : Type 0} (standing : F → Standing) (hold : F → Hold) (path : List ℕ) (result : Result F Error)
    (old new : FilesState) : Type 0 where
  pub file : IfOk result (λ f. (old.at path ≡ Some (standing f)) × (hold f ≡ free (standing f).regular))
  pub missing : IfErr result (λ e. error_kind e ≡ kind.NotFound → old.at path ≡ None)
  pub called_once : new ≡ called opening (answer_of result) old

-- an empty file was made where nothing was, and opened, or nothing changed (std, `OpenOptions::create_new`)
pub record Makes {F : Type 0} (standing : F → Standing) (hold : F → Hold) (path : List ℕ) (result : Result F Error)
    (old new : FilesState) : Type 0 where
  pub missing : OnOk result (old.at path ≡ None)
  pub file : IfOk result (λ f. (standing f ≡ new_file) × (hold f ≡ free true))
  pub here : OnOk result (new.at path ≡ Some new_file)
  pub others : (p : List ℕ) → p ≢ path → new.at p ≡ old.at p
  pub names : (p : List ℕ) → p ≢ path → new.named p ≡ old.named p
  pub failed : OnErr result (new.at ≡ old.at)
  pub calls : new.calls ≡ made_once making old.calls
  pub last : new.last ≡ answer_of result

-- where the call succeeds the name of the file at the path is on the disk, and none that is there is lost
pub record SyncsFolder {T : Type 0} (path : List ℕ) (result : Result T Error) (old new : FilesState) : Type 0 where
  pub named : OnOk result (new.named path ≡ true)
  pub names : (p : List ℕ) → old.named p ≡ true → new.named p ≡ true
  pub at : new.at ≡ old.at
  pub calls : new.calls ≡ made_once folder_sync old.calls
  pub last : new.last ≡ answer_of result

-- what was opened was lent, as it stood there
pub record Lends {F : Type 0} (state : F → SiteState) (hold : F → Hold) (opened : Standing) (file : F)
    (old new : FilesState) : Type 0 where
  pub image : (state file).image ≡ opened.content
  pub hold_is : hold file ≡ whole
  pub called_once : new ≡ called lending yes old

-- the folder of this name, or `.` where there is no name or an empty one
abbrev pub folder_or_here : Option (List ℕ) → List ℕ
folder_or_here (Some (byte ∷ bytes)) = byte ∷ bytes
folder_or_here _ = cur_dir

-- the folder that a path's last name is in: its parent (std, `Path::parent`), or `.` where it has none or an empty one
abbrev pub folder_in : List ℕ → List ℕ
folder_in path = folder_or_here (path_parent path)
