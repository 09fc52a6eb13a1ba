-- What is wrong first with words that are no command (own rule, docs/FORMATS.md).
use Rattle.std.specs.Prelude.{◌&&◌, not, List, [], ◌∷◌, ◌++◌, codes, length, if◌then◌else◌, Bool, true, false}
use Rattle.std.specs.Prelude.{Option, Some, None}
use Rattle.std.specs.List.{list_any}
use Rattle.std.specs.Str.{bytes_eq}
use Rattle.command_line.specs.Words.{Word as Bytes, command_named, options_of, takes}
use Rattle.command_line.specs.declared.options.Command.{Command}
use Rattle.command_line.specs.declared.options.Command.TheVariants.{Check, Init, Migrate, Onboard, Once, Serve, Trial}
use Rattle.program_words.specs.declared.wrong.Wrong.{Wrong}
use Rattle.program_words.specs.declared.wrong.Wrong.TheVariants.{Word, Twice, NoCommand, NoValue, Value}
use Rattle.program_words.specs.declared.wrong.Wrong.TheVariants.{NoJournal, NoManager, NoTo, NoListen, NoEmListen}
use Rattle.program_words.specs.declared.wrong.Wrong.TheVariants.{NoStart, NoCount, Nothing}

-- the word is among these
abbrev pub is_among : List Bytes → Bytes → Bool
is_among words word = list_any (λ other. bytes_eq word other) words

-- the word is an option of the command, and doesn't stand before
abbrev pub is_new : Command → List Bytes → Bytes → Bool
is_new command before word = is_among (options_of command) word && not (is_among before word)

-- the command has to have a journal's path
abbrev pub needs_journal : Command → Bool
needs_journal Init = true
needs_journal Onboard = true
needs_journal Once = true
needs_journal Serve = true
needs_journal Check = true
needs_journal Migrate = true
needs_journal Trial = false

-- the command has to have a manager's number
abbrev pub needs_manager : Command → Bool
needs_manager Init = true
needs_manager Onboard = false
needs_manager Once = false
needs_manager Serve = false
needs_manager Check = false
needs_manager Migrate = false
needs_manager Trial = false

-- the command has to have a path that the journal goes to
abbrev pub needs_to : Command → Bool
needs_to Init = false
needs_to Onboard = false
needs_to Once = false
needs_to Serve = false
needs_to Check = false
needs_to Migrate = true
needs_to Trial = false

-- the command has to have two addresses
abbrev pub needs_addresses : Command → Bool
needs_addresses Init = false
needs_addresses Onboard = false
needs_addresses Once = false
needs_addresses Serve = true
needs_addresses Check = false
needs_addresses Migrate = false
needs_addresses Trial = false

-- the command has to have a start and a count
abbrev pub needs_draw : Command → Bool
needs_draw Init = false
needs_draw Onboard = false
needs_draw Once = false
needs_draw Serve = false
needs_draw Check = false
needs_draw Migrate = false
needs_draw Trial = true

-- what is wrong where the words of a command with two addresses end
abbrev pub wrong_addresses : List Bytes → Wrong
wrong_addresses words = if not (is_among words (codes "--listen")) then NoListen
    else (if not (is_among words (codes "--em-listen")) then NoEmListen else Nothing)

-- what is wrong where the words of a command with a start and a count end
abbrev pub wrong_draw : List Bytes → Wrong
wrong_draw words = if not (is_among words (codes "--start")) then NoStart
    else (if not (is_among words (codes "--count")) then NoCount else Nothing)

-- what is wrong where the words end: an option that has to stand doesn't
abbrev pub wrong_at_end : Command → List Bytes → Wrong
wrong_at_end command words =
    if needs_journal command && not (is_among words (codes "--journal")) then NoJournal
    else (if needs_manager command && not (is_among words (codes "--manager")) then NoManager
    else (if needs_to command && not (is_among words (codes "--to")) then NoTo
    else (if needs_addresses command then wrong_addresses words
    else (if needs_draw command then wrong_draw words else Nothing))))

-- what is wrong with a word that is no new option: it stands twice, or is none of the command's
abbrev pub misplaced : Command → List Bytes → Bytes → Wrong
misplaced command before word = if is_among (options_of command) word then Twice (length before)
    else Word (length before)

-- what is wrong first behind these words: a word that is no option or stands before, an option without a value, or with
-- one that it doesn't take; or what is wrong where the words end
abbrev pub wrong_behind : Command → List Bytes → List Bytes → Wrong
wrong_behind command before [] = wrong_at_end command before
wrong_behind command before (option ∷ []) = if is_new command before option then NoValue (length before)
    else misplaced command before option
wrong_behind command before (option ∷ value ∷ rest) =
    if is_new command before option
    then (if takes command (option, value) then wrong_behind command (before ++ option ∷ value ∷ []) rest
    else Value (length before))
    else misplaced command before option

-- what is wrong first behind the name of a command, if it is one
abbrev pub wrong_of_command : Option Command → Bytes → List Bytes → Wrong
wrong_of_command None name rest = Word 0
wrong_of_command (Some command) name rest = wrong_behind command (name ∷ []) rest

-- what is wrong first with the words
abbrev pub wrong_of : List Bytes → Wrong
wrong_of [] = NoCommand
wrong_of (name ∷ rest) = wrong_of_command (command_named name) name rest
