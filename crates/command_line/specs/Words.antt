-- Which words are a command, and what they set (own rule, docs/FORMATS.md).
use Rattle.std.specs.Prelude.{◌≡◌, ◌==◌, ◌&&◌, ◌||◌, not, ℕ, List, [], ◌∷◌, codes, length, nat_le, if◌then◌else◌, Bool}
use Rattle.std.specs.Prelude.{true, false, Option, Some, None, is_some, find, option_and_then, option_map, unwrap_or}
use Rattle.std.specs.Prelude.{Result, Ok, Err}
use Rattle.std.specs.List.{list_all, list_any}
use Rattle.std.specs.Option.{option_map_or}
use Rattle.std.specs.Str.{bytes_eq}
use Rattle.std.specs.Str.Parse.{digits_value}
use Rattle.std.specs.Char.{is_ascii_digit}
use Rattle.lcm_events.specs.declared.states.Role.{Role}
use Rattle.lcm_events.specs.declared.states.Role.TheVariants.{Element, Orchestrator}
use Rattle.command_line.specs.declared.options.Command.{Command}
use Rattle.command_line.specs.declared.options.Command.TheVariants.{Check, Init, Migrate, Onboard, Once, Serve, Trial}
use Rattle.command_line.specs.declared.options.Settings.{Settings}
use Rattle.command_line.specs.declared.options.SettingsFault.{SettingsFault}
use Rattle.command_line.specs.declared.options.SettingsFault.TheVariants.{Usage, Memory}

-- a word, as its bytes
abbrev pub Word : Type 0
Word = List ℕ

-- an option and its value
abbrev pub Pair : Type 0
Pair = Word × Word

-- a word that begins with `-` is no value
abbrev pub is_option : Word → Bool
is_option [] = false
is_option (byte ∷ rest) = byte == 45

-- a number is 1 to 20 decimal digits
abbrev pub is_number : Word → Bool
is_number word = nat_le 1 (length word) && nat_le (length word) 20 && list_all is_ascii_digit word

-- the number that a word gives: one of at most this
abbrev pub number_up_to : ℕ → Word → Option ℕ
number_up_to most word = if is_number word && nat_le (digits_value 10 word) most then Some (digits_value 10 word)
    else None

-- one of at most 4,294,967,295
abbrev pub number_of : Word → Option ℕ
number_of word = number_up_to 4294967295 word

-- the number that a trial is drawn from: one of at most 18,446,744,073,709,551,615
abbrev pub start_of : Word → Option ℕ
start_of word = number_up_to 18446744073709551615 word

-- how many steps a trial has: at most 2,000
abbrev pub count_of : Word → Option ℕ
count_of word = option_and_then (λ n. if nat_le n 2000 then Some n else None) (number_of word)

-- the role of this name
abbrev pub role_of : Word → Option Role
role_of name = if bytes_eq name (codes "orchestrator") then Some Orchestrator
    else (if bytes_eq name (codes "em") then Some Element else None)

-- the command of this name
abbrev pub command_named : Word → Option Command
command_named name =
    if bytes_eq name (codes "init") then Some Init
    else (if bytes_eq name (codes "onboard") then Some Onboard
    else (if bytes_eq name (codes "once") then Some Once
    else (if bytes_eq name (codes "serve") then Some Serve
    else (if bytes_eq name (codes "check") then Some Check
    else (if bytes_eq name (codes "migrate") then Some Migrate
    else (if bytes_eq name (codes "trial") then Some Trial else None))))))

-- the options of a command
abbrev pub options_of : Command → List Word
options_of Init = codes "--journal" ∷ codes "--manager" ∷ []
options_of Onboard = codes "--journal" ∷ []
options_of Once = codes "--journal" ∷ codes "--role" ∷ codes "--rounds" ∷ codes "--orchestrator" ∷ codes "--vim" ∷ []
options_of Serve = codes "--journal" ∷ codes "--listen" ∷ codes "--em-listen" ∷ codes "--rounds"
    ∷ codes "--orchestrator" ∷ codes "--vim" ∷ []
options_of Check = codes "--journal" ∷ []
options_of Migrate = codes "--journal" ∷ codes "--to" ∷ []
options_of Trial = codes "--start" ∷ codes "--count" ∷ []

-- those that have to stand
abbrev pub needed_of : Command → List Word
needed_of Init = codes "--journal" ∷ codes "--manager" ∷ []
needed_of Onboard = codes "--journal" ∷ []
needed_of Once = codes "--journal" ∷ []
needed_of Serve = codes "--journal" ∷ codes "--listen" ∷ codes "--em-listen" ∷ []
needed_of Check = codes "--journal" ∷ []
needed_of Migrate = codes "--journal" ∷ codes "--to" ∷ []
needed_of Trial = codes "--start" ∷ codes "--count" ∷ []

-- the words are pairs of an option and its value, these
abbrev pub pairs_of : List Word → Option (List Pair)
pairs_of [] = Some []
pairs_of (option ∷ []) = None
pairs_of (option ∷ value ∷ rest) = option_map (λ pairs. (option, value) ∷ pairs) (pairs_of rest)

-- the value has the form of the option's
abbrev pub fits : Pair → Bool
fits (option, value) =
    if bytes_eq option (codes "--manager") || bytes_eq option (codes "--rounds") then is_some (number_of value)
    else (if bytes_eq option (codes "--role") then is_some (role_of value)
    else (if bytes_eq option (codes "--start") then is_some (start_of value)
    else (if bytes_eq option (codes "--count") then is_some (count_of value)
    else (if bytes_eq option (codes "--listen") || bytes_eq option (codes "--em-listen") then nat_le 1 (length value)
    else true))))

-- the pair is one of the command's options, with a value of its form
abbrev pub takes : Command → Pair → Bool
takes command pair = list_any (λ known. bytes_eq pair.0 known) (options_of command) && not (is_option pair.1)
    && fits pair

-- the value of an option, where it stands
abbrev pub value_of : Word → List Pair → Option Word
value_of option pairs = option_map (λ pair. pair.1) (find (λ pair. bytes_eq pair.0 option) pairs)

-- the value of an option among the pairs with which the words begin
abbrev pub value_in : Word → List Word → Option Word
value_in option [] = None
value_in option (word ∷ []) = None
value_in option (word ∷ value ∷ rest) = if bytes_eq word option then Some value else value_in option rest

-- the option stands
abbrev pub stands : Word → List Pair → Bool
stands option pairs = is_some (value_of option pairs)

-- no option stands twice
abbrev pub stand_once : List Pair → Bool
stand_once [] = true
stand_once (pair ∷ rest) = not (stands pair.0 rest) && stand_once rest

-- the words are pairs that the command takes, and no option stands twice
abbrev pub are_taken : Command → List Word → Bool
are_taken command words = option_map_or (λ pairs. list_all (takes command) pairs && stand_once pairs)
    (pairs_of words) false

-- the pairs are those of a command: it takes each, no option stands twice, and each that has to stand does
abbrev pub are_of : Command → List Pair → Bool
are_of command pairs = (list_all (takes command) pairs && stand_once pairs)
    && list_all (λ option. stands option pairs) (needed_of command)

-- the command and the pairs that the words are, where they are one with its pairs
abbrev pub parted : List Word → Option (Command × List Pair)
parted [] = None
parted (name ∷ rest) =
    option_and_then (λ command. option_and_then (λ pairs. if are_of command pairs then Some (command, pairs) else None)
    (pairs_of rest)) (command_named name)

-- what an option is: its value where it stands, else its default
abbrev pub given : Word → Word → List Pair → Word
given option default pairs = unwrap_or (value_of option pairs) default

-- how many rounds a command makes: `once` and `serve` make so many as they are told, or else one, and 4,294,967,295;
-- the others make none
abbrev pub rounds_for : Command → Option ℕ → ℕ
rounds_for Init rounds = 0
rounds_for Onboard rounds = 0
rounds_for Once rounds = unwrap_or rounds 1
rounds_for Serve rounds = unwrap_or rounds 4294967295
rounds_for Check rounds = 0
rounds_for Migrate rounds = 0
rounds_for Trial rounds = 0

-- what a command with these pairs sets; a text is empty and a number 0 where it lacks the option
abbrev pub settings_for : Command → List Pair → Settings
settings_for command pairs = record {
  command = command;
  journal = given (codes "--journal") [] pairs;
  manager = unwrap_or (number_of (given (codes "--manager") (codes "0") pairs)) 0;
  role = unwrap_or (role_of (given (codes "--role") (codes "orchestrator") pairs)) Orchestrator;
  rounds = rounds_for command (number_of (given (codes "--rounds") [] pairs));
  listen = given (codes "--listen") [] pairs;
  em_listen = given (codes "--em-listen") [] pairs;
  orchestrator = given (codes "--orchestrator") [] pairs;
  vim = given (codes "--vim") [] pairs;
  to = given (codes "--to") [] pairs;
  start = unwrap_or (start_of (given (codes "--start") (codes "0") pairs)) 0;
  count = unwrap_or (count_of (given (codes "--count") (codes "0") pairs)) 0;
}

-- what the words set, where they are a command
abbrev pub settings_of : List Word → Option Settings
settings_of words = option_map (λ parts. settings_for parts.0 parts.1) (parted words)

-- the answer is what the words set, or that they set nothing; there may be no memory only for what words set
abbrev pub Settles : Result Settings SettingsFault → Option Settings → Type 0
Settles (Ok s) set = set ≡ Some s
Settles (Err Usage) set = set ≡ None
Settles (Err Memory) set = (s : Settings) × (set ≡ Some s)
