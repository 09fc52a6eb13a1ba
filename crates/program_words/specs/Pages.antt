-- Which words ask for a text, and which text it is (own rule, docs/FORMATS.md).
use Rattle.std.specs.Prelude.{ℕ, List, [], ◌∷◌, codes, if◌then◌else◌, Option, Some, None}
use Rattle.std.specs.Str.{bytes_eq}
use Rattle.program_words.specs.declared.page.Page.{Page}
use Rattle.program_words.specs.declared.page.Page.TheVariants.{Check, Help, Init, Migrate, Onboard, Once, Serve, Trial}
use Rattle.program_words.specs.declared.page.Page.TheVariants.{Version}
use Rattle.program_words.specs.declared.page.TheConstants.{CHECK, HELP, INIT, MIGRATE, ONBOARD, ONCE, SERVE, TRIAL, VERSION}

-- the text that one word asks for
abbrev pub sole_page : List ℕ → Option Page
sole_page word = if bytes_eq word (codes "--help") then Some Help
    else (if bytes_eq word (codes "--version") then Some Version else None)

-- the text on a command
abbrev pub command_page : List ℕ → Option Page
command_page command =
    if bytes_eq command (codes "init") then Some Init
    else (if bytes_eq command (codes "onboard") then Some Onboard
    else (if bytes_eq command (codes "once") then Some Once
    else (if bytes_eq command (codes "serve") then Some Serve
    else (if bytes_eq command (codes "check") then Some Check
    else (if bytes_eq command (codes "migrate") then Some Migrate
    else (if bytes_eq command (codes "trial") then Some Trial else None))))))

-- the text that the words ask for
abbrev pub page_of : List (List ℕ) → Option Page
page_of (word ∷ []) = sole_page word
page_of (command ∷ word ∷ []) = if bytes_eq word (codes "--help") then command_page command else None
page_of words = None

-- the text of a page
abbrev pub text_of : Page → List ℕ
text_of Help = HELP.now
text_of Init = INIT.now
text_of Onboard = ONBOARD.now
text_of Once = ONCE.now
text_of Serve = SERVE.now
text_of Check = CHECK.now
text_of Migrate = MIGRATE.now
text_of Trial = TRIAL.now
text_of Version = VERSION.now
