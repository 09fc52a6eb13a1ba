-- Of which command the words are (own rule, docs/FORMATS.md).
use Rattle.std.specs.Prelude.{◌≡◌, ℕ, List, Bool, true, false, Some}
use Rattle.command_line.specs.Words.{settings_of}
use Rattle.command_line.specs.declared.options.Command.{Command}
use Rattle.command_line.specs.declared.options.Command.TheVariants.{Check, Init, Migrate, Onboard, Once, Serve, Trial}
use Rattle.command_line.specs.declared.options.Settings.{Settings}

-- the words are a command
abbrev pub IsCommand : List (List ℕ) → Type 0
IsCommand words = (s : Settings) × (settings_of words ≡ Some s)

-- the words are this command
pub record AreWordsOf (command : Command) (words : List (List ℕ)) : Type 0 where
  pub settings : Settings
  pub set : settings_of words ≡ Some settings
  pub is : settings.command ≡ command

-- the words make a journal of this manager
pub record AreInit (manager : ℕ) (words : List (List ℕ)) : Type 0 where
  pub settings : Settings
  pub set : settings_of words ≡ Some settings
  pub is : settings.command ≡ Init
  pub number : settings.manager ≡ manager

-- the command loads the journal, of the present format: every one but `init`, `migrate` and `trial`
abbrev pub loads : Command → Bool
loads Init = false
loads Onboard = true
loads Once = true
loads Serve = true
loads Check = true
loads Migrate = false
loads Trial = false

-- the command makes rounds: `once`, over one connection, and `serve`, over those that come at two addresses
abbrev pub makes_rounds : Command → Bool
makes_rounds Init = false
makes_rounds Onboard = false
makes_rounds Once = true
makes_rounds Serve = true
makes_rounds Check = false
makes_rounds Migrate = false
makes_rounds Trial = false

-- the words are a command that makes rounds
pub record AreServing (words : List (List ℕ)) : Type 0 where
  pub settings : Settings
  pub set : settings_of words ≡ Some settings
  pub serving : makes_rounds settings.command ≡ true

-- the words are a command that loads the journal
pub record AreLoading (words : List (List ℕ)) : Type 0 where
  pub settings : Settings
  pub set : settings_of words ≡ Some settings
  pub loading : loads settings.command ≡ true
