-- The line that says why a run ended as it did (own rule, docs/FORMATS.md).
use Rattle.std.specs.Prelude.{◌≡◌, ◌||◌, ℕ, List, [], ◌∷◌, ◌++◌, Bool, true, false, codes, decimal, drop}
use Rattle.std.specs.Prelude.{if◌then◌else◌, Option, Some, None, slice_get}
use Rattle.std.specs.Str.{bytes_eq}
use Rattle.command_line.specs.Words.{value_in}
use Rattle.outside_edges.specs.declared.real_site.WhyLost.{WhyLost}
use Rattle.outside_edges.specs.declared.real_site.WhyLost.TheVariants as why
use Rattle.program_words.specs.Wrong.{wrong_of}
use Rattle.program_words.specs.declared.reason.Reason.{Reason}
use Rattle.program_words.specs.declared.reason.Reason.TheVariants as say
use Rattle.program_words.specs.declared.reason.TheConstants.{ADVICE, NO_JOURNAL}
use Rattle.program_words.specs.declared.wrong.Wrong.{Wrong}
use Rattle.served_account.specs.declared.account.Hearing.{Hearing}
use Rattle.served_account.specs.declared.account.Hearing.TheVariants as hearing
use Rattle.served_account.specs.declared.account.JsonBreak.{JsonBreak}
use Rattle.program_words.specs.declared.wrong.Wrong.TheVariants.{Word, Twice, NoCommand, NoValue, Value}
use Rattle.program_words.specs.declared.wrong.Wrong.TheVariants.{NoJournal, NoManager, NoTo, NoListen, NoEmListen}
use Rattle.program_words.specs.declared.wrong.Wrong.TheVariants.{NoStart, NoCount, Nothing}

-- a line that says this
abbrev pub plain_line : List ℕ → List ℕ
plain_line text = codes "vnfm: " ++ text ++ codes "\n"

-- a line that says this of a word, which stands in it quoted (which bytes a quoted word has is tested alone)
abbrev pub IsLineOn : List ℕ → List ℕ → List ℕ → Type 0
IsLineOn joint text line = (quoted : List ℕ) × (line ≡ codes "vnfm: " ++ (quoted ++ (joint ++ (text ++ codes "\n"))))

-- a line that says this of a path, where there is one
abbrev pub IsAboutPath : Option (List ℕ) → List ℕ → List ℕ → Type 0
IsAboutPath (Some path) text line = IsLineOn (codes ": ") text line
IsAboutPath None text line = line ≡ plain_line text

-- the journal's path, where the words name one behind `--journal`
abbrev pub path_in : List (List ℕ) → Option (List ℕ)
path_in words = value_in (codes "--journal") (drop 1 words)

-- the path that the journal goes to, where the words name one behind `--to`
abbrev pub path_to : List (List ℕ) → Option (List ℕ)
path_to words = value_in (codes "--to") (drop 1 words)

-- a line that says this of the journal's path
abbrev pub IsAboutJournal : List (List ℕ) → List ℕ → List ℕ → Type 0
IsAboutJournal words text line = IsAboutPath (path_in words) text line

-- a line that says this of the path that the journal goes to
abbrev pub IsAboutSpare : List (List ℕ) → List ℕ → List ℕ → Type 0
IsAboutSpare words text line = IsAboutPath (path_to words) text line

-- the words are those of `migrate`, by the command's name
abbrev pub are_to_migrate : List (List ℕ) → Bool
are_to_migrate [] = false
are_to_migrate (name ∷ rest) = bytes_eq name (codes "migrate")

-- a line that says this of one of the words
abbrev pub IsAboutWord : List ℕ → Option (List ℕ) → List ℕ → Type 0
IsAboutWord text (Some word) line = IsLineOn (codes " ") text line
IsAboutWord text None line = line ≡ plain_line (codes "the words are no command; vnfm --help says more")

-- what an option takes
abbrev pub wanted_by : List ℕ → List ℕ
wanted_by option =
    if bytes_eq option (codes "--manager") || bytes_eq option (codes "--rounds")
    then codes "a number from 0 to 4294967295, in at most 20 digits"
    else (if bytes_eq option (codes "--role") then codes "orchestrator or em"
    else (if bytes_eq option (codes "--start")
    then codes "a number from 0 to 18446744073709551615, in at most 20 digits"
    else (if bytes_eq option (codes "--count") then codes "a number from 0 to 2000, in at most 20 digits"
    else (if bytes_eq option (codes "--listen") || bytes_eq option (codes "--em-listen") then codes "an address and port"
    else codes "a word that doesn't begin with -"))))

-- a line that says of a word, quoted, that this option doesn't take it, and what it takes
abbrev pub IsNoValueOf : List ℕ → List ℕ → Type 0
IsNoValueOf option line = (quoted : List ℕ) × (line ≡ codes "vnfm: " ++ (quoted ++ (codes " is no value of "
    ++ (option ++ (codes ", which takes " ++ (wanted_by option ++ codes "; vnfm --help says more\n"))))))

-- a line that says so of the first two of these words, an option and what stands behind it
abbrev pub IsAboutValue : List (List ℕ) → List ℕ → Type 0
IsAboutValue (option ∷ value ∷ rest) line = IsNoValueOf option line
IsAboutValue words line = line ≡ plain_line (codes "the words are no command; vnfm --help says more")

-- a line that says what is wrong first with the words
abbrev pub IsWrongLine : List (List ℕ) → Wrong → List ℕ → Type 0
IsWrongLine words (Word place) line = IsAboutWord (codes "isn't understood; vnfm --help says more")
    (slice_get words place) line
IsWrongLine words (Twice place) line = IsAboutWord (codes "stands twice; vnfm --help says more")
    (slice_get words place) line
IsWrongLine words (NoValue place) line = IsAboutWord (codes "has no value; vnfm --help says more")
    (slice_get words place) line
IsWrongLine words (Value place) line = IsAboutValue (drop place words) line
IsWrongLine words NoCommand line = line ≡ plain_line (codes "a command is missing; vnfm --help says more")
IsWrongLine words NoJournal line = line ≡ plain_line (codes "--journal PATH is missing; vnfm --help says more")
IsWrongLine words NoManager line = line ≡ plain_line (codes "--manager N is missing; vnfm --help says more")
IsWrongLine words NoTo line = line ≡ plain_line (codes "--to PATH is missing; vnfm --help says more")
IsWrongLine words NoListen line = line ≡ plain_line (codes "--listen ADDR is missing; vnfm --help says more")
IsWrongLine words NoEmListen line = line ≡ plain_line (codes "--em-listen ADDR is missing; vnfm --help says more")
IsWrongLine words NoStart line = line ≡ plain_line (codes "--start N is missing; vnfm --help says more")
IsWrongLine words NoCount line = line ≡ plain_line (codes "--count N is missing; vnfm --help says more")
IsWrongLine words Nothing line = line ≡ plain_line (codes "the words are no command; vnfm --help says more")

-- what is said where there is no such folder: of an empty path that it is empty
abbrev pub no_folder_text : Option (List ℕ) → List ℕ
no_folder_text (Some []) = codes "the path is empty"
no_folder_text path = codes "there is no such folder"

-- what is said of a file that was lost for this cause, at this path, where there is one
abbrev pub lost_text : WhyLost → Option (List ℕ) → List ℕ
lost_text why.Locked path = codes "another manager holds its lock"
lost_text why.NoFolder path = no_folder_text path
lost_text why.NotPermitted path = codes "there is no permission to read and write it"
lost_text why.ReadOnly path = codes "its file system is read-only"
lost_text why.NotAFile path = codes "it is not a regular file"
lost_text why.DanglingLink path = codes "it is a symbolic link to nothing, or was made just now by another"
lost_text why.LinkLoop path = codes "its symbolic links form a loop, or are too many"
lost_text why.NameTooLong path = codes "a name in the path, or all of it, is too long"
lost_text why.NoSpace path = codes "its file system has no space left, or no inode"
lost_text why.Quota path = codes "the quota on its file system is used up"
lost_text why.TooLarge path = codes "it would be larger than a file may be"
lost_text why.Removed path = codes "it was removed while the program had it open"
lost_text why.Moved path = codes "nothing stands there any more; it was moved while the program had it open"
lost_text why.Replaced path = codes "another file stands there; it was moved or removed while the program had it open"
lost_text why.Shortened path = codes "it is shorter than it was; another program cut it"
lost_text why.Memory path = codes "there was no memory"
lost_text why.Other path = codes "a call on it failed; if its disk did, the kernel's log says how"

-- the line of a descriptor that is refused, which may end being JSON there
abbrev pub descriptor_line : Option JsonBreak → List ℕ
descriptor_line (Some at) = codes "vnfm: the descriptor is not taken: it is no JSON from line " ++ (decimal at.line
    ++ (codes ", column " ++ (decimal at.column ++ (codes " on; " ++ (ADVICE.now ++ codes "\n")))))
descriptor_line None = plain_line (codes "the descriptor is not taken")

-- why the bytes that were left weren't answered, by how the last hearing ended
abbrev pub unanswered_text : Hearing → List ℕ
unanswered_text hearing.Malformed = codes "the bytes that are left are no request"
unanswered_text hearing.TooLarge = codes "the bytes that are left are a request beyond a limit"
unanswered_text hearing.Unfinished = codes "the bytes that are left end inside a request"
unanswered_text hearing.Unread = codes "standard input couldn't be read any further"
unanswered_text hearing.NoMemory = codes "there was no memory for the request that is left"
unanswered_text last = codes "no byte is left"

-- the line of bytes that weren't answered, behind so many requests that were
abbrev pub unanswered_line : ℕ → List ℕ → List ℕ
unanswered_line answered text =
    codes "vnfm: requests answered: " ++ (decimal answered ++ (codes "; " ++ (text ++ codes "\n")))

-- the line of a file that is no journal: of one that is to be migrated that it is none of format 1
abbrev pub IsNoJournalLine : Bool → List (List ℕ) → List ℕ → Type 0
IsNoJournalLine true words line = IsAboutJournal words (codes "no journal of format 1 stands there") line
IsNoJournalLine false words line = IsAboutJournal words NO_JOURNAL.now line

-- the line of a journal that has no room: of the one that the old one goes to that it would be too long
abbrev pub IsRoomLine : Bool → List (List ℕ) → List ℕ → Type 0
IsRoomLine true words line = IsAboutSpare words
    (codes "a journal of the present format would be longer than one may be") line
IsRoomLine false words line = IsAboutJournal words (codes "it has no room for what was to be recorded") line

-- the line of a file that is taken: of the one that the journal goes to that it is none of the same manager
abbrev pub IsTakenLine : Bool → List (List ℕ) → List ℕ → Type 0
IsTakenLine true words line = IsAboutSpare words (codes
    "it is not an unfinished journal of the same manager; give another path, or move it away") line
IsTakenLine false words line = IsAboutJournal words (codes
    "it is a journal already, or no file of this program's; give another path, or move it away") line

-- the line of a reason, of a run with these words
abbrev pub IsLineOf : Reason → List (List ℕ) → List ℕ → Type 0
IsLineOf say.Illegible words line = line ≡ plain_line
    (codes "a word isn't UTF-8, so none of them counts; vnfm --help says more")
IsLineOf say.Words words line = IsWrongLine words (wrong_of words) line
IsLineOf (say.Lost why) words line = IsAboutJournal words (lost_text why (path_in words)) line
IsLineOf (say.LostSpare why) words line = IsAboutSpare words (lost_text why (path_to words)) line
IsLineOf say.NoDevice words line = line ≡ plain_line
    (codes "/dev/null couldn't be opened, which holds the places of closed standard streams")
IsLineOf say.Input words line = line ≡ plain_line (codes "standard input couldn't be read")
IsLineOf say.Addresses words line = line ≡ plain_line
    (codes "no connection can be had at the addresses of --listen and --em-listen")
IsLineOf say.TrialRoom words line = line ≡ plain_line
    (codes "the journal of this trial would be longer than its room of 67108864 bytes")
IsLineOf say.NoJournal words line = IsNoJournalLine (are_to_migrate words) words line
IsLineOf say.NoMemory words line = line ≡ plain_line (codes "there was no memory")
IsLineOf say.Output words line = line ≡ plain_line (codes "the last line couldn't be written")
IsLineOf say.Record words line = IsAboutJournal words (codes "it has a record that is broken or isn't allowed there")
    line
IsLineOf say.Room words line = IsRoomLine (are_to_migrate words) words line
IsLineOf (say.Descriptor at) words line = line ≡ descriptor_line at
IsLineOf say.Taken words line = IsTakenLine (are_to_migrate words) words line
IsLineOf say.Undelivered words line = line ≡ plain_line
    (codes "the answer couldn't be delivered; what it says is recorded")
IsLineOf say.NoRequest words line = line ≡ plain_line (codes "standard input had no request")
IsLineOf (say.Unanswered answered last) words line = line ≡ unanswered_line answered (unanswered_text last)
