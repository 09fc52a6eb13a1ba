-- From what a part of the program did to what the program did.
use Rattle.std.proofs.Common.{◌≡◌, ◌⊎◌, ◌∙◌, ℕ, Bool, true, false, List, Option, None, Some, Result, Ok, Err, IfErr, inl, inr, refl, sym, subst}
use Rattle.lcm_mouth.specs.Mouth.{MouthState}
use Rattle.program_words.specs.Pages.{page_of}
use Rattle.program_words.specs.declared.page.Page.{Page}
use Rattle.command_line.specs.Words.{Settles, settings_of}
use Rattle.command_line.specs.declared.options.Command.{Command}
use Rattle.command_line.specs.declared.options.Command.TheVariants.{Check, Init, Migrate, Onboard, Once, Serve, Trial}
use Rattle.command_line.specs.declared.options.Settings.{Settings}
use Rattle.command_line.specs.declared.options.SettingsFault.{SettingsFault}
use Rattle.command_line.specs.declared.options.SettingsFault.TheVariants.{Usage}
use Rattle.vnfm_program.specs.Program.{Goes, Machine, Meaning, Obeys, ObeysOrStarves, Objects, Opens, Performs, Scene, SpeaksOnError}
use Rattle.vnfm_program.specs.Program.{OpensAll, OpensNothing, OpensWhere, SpeaksOnOutput, Starts, TellsIllegible, answers}
use Rattle.vnfm_program.specs.Program.{is_told_on_error, uses_files}

-- what needs an answer that there isn't holds of each fault
pub no_answer : {A E R : Type 0} (given : Result A E) (P Q : E → Type 0) → (R → ⊥) → IfErr given (λ fault. P fault → R)
    → IfErr given (λ fault. P fault → Q fault)
no_answer (Ok a) P Q never each = tt
no_answer (Err fault) P Q never each = λ is. absurd (never (each is))

-- where the words are no command they set nothing
pub unset : (fault : SettingsFault) (set : Option Settings) → fault ≡ Usage → Settles (Err fault) set → set ≡ None
unset fault set is settles = subst (λ (f : SettingsFault). Settles (Err f) set) is settles

module _ {N H F J : Type 0} where
  -- a run with its line to standard error is what `once` performs, and one with it to standard output what the others do
  pub performed_on_error : (g : Meaning N H F) (command : Command) (words : List (List ℕ)) (status : ℕ) (a b : Scene N H F J)
      → command ≡ Once → SpeaksOnError g words status a b → Performs g (answers command) words status a b
  performed_on_error g command words status a b is speaks = subst (λ (c : Command). Performs g (answers c) words status a b) (sym is) speaks

  pub performed_on_output : (g : Meaning N H F) (command : Command) (words : List (List ℕ)) (status : ℕ) (a b : Scene N H F J)
      → (command ≡ Init) ⊎ ((command ≡ Onboard) ⊎ ((command ≡ Serve) ⊎ ((command ≡ Check) ⊎ ((command ≡ Migrate)
      ⊎ (command ≡ Trial)))))
      → SpeaksOnOutput g words status a b → Performs g (answers command) words status a b
  performed_on_output g command words status a b (inl is) speaks =
      subst (λ (c : Command). Performs g (answers c) words status a b) (sym is) speaks
  performed_on_output g command words status a b (inr (inl is)) speaks =
      subst (λ (c : Command). Performs g (answers c) words status a b) (sym is) speaks
  performed_on_output g command words status a b (inr (inr (inl is))) speaks =
      subst (λ (c : Command). Performs g (answers c) words status a b) (sym is) speaks
  performed_on_output g command words status a b (inr (inr (inr (inl is)))) speaks =
      subst (λ (c : Command). Performs g (answers c) words status a b) (sym is) speaks
  performed_on_output g command words status a b (inr (inr (inr (inr (inl is))))) speaks =
      subst (λ (c : Command). Performs g (answers c) words status a b) (sym is) speaks
  performed_on_output g command words status a b (inr (inr (inr (inr (inr is))))) speaks =
      subst (λ (c : Command). Performs g (answers c) words status a b) (sym is) speaks

  -- a run over what was opened for these settings obeys the words that set them
  pub obeyed : (g : Meaning N H F) (words : List (List ℕ)) (set : Option Settings) (status : ℕ) (a b : Objects N H F J)
      (opened : Machine N H F J) (before after : MouthState)
      → settings_of words ≡ set → Opens g set a.machine opened → a.mouth ≡ Ok before → b.mouth ≡ Ok after
      → Performs g (is_told_on_error set) words status (record { mouth = before; machine = opened })
      (record { mouth = after; machine = b.machine })
      → Obeys g words status a b
  obeyed g words set status a b opened before after sets opens has_mouth mouth performs = record {
    opened = opened;
    opens = subst (λ (s : Option Settings). Opens g s a.machine opened) (sym sets) opens;
    before = before;
    after = after;
    has_mouth = has_mouth;
    mouth = mouth;
    performs = subst (λ (s : Option Settings). Performs g (is_told_on_error s) words status (record { mouth = before; machine = opened })
        (record { mouth = after; machine = b.machine })) (sym sets) performs;
  }

  -- words that could be read and ask for no page are obeyed
  pub went : (g : Meaning N H F) (legible : Bool) (given words : List (List ℕ)) (status : ℕ) (a b : Objects N H F J)
      → legible ≡ true → given ≡ words → page_of given ≡ None → ObeysOrStarves g given status a b → Starts g legible words status a b
  went g legible given words status a b read same none obeys =
      subst (λ (l : Bool). Starts g l words status a b) (sym read) (
      subst (λ (ws : List (List ℕ)). Starts g true ws status a b) same (subst (λ (page : Option Page). Goes g page given status a b)
      (sym none) obeys))

  -- words that couldn't be read are told of as that
  pub unread : (g : Meaning N H F) (legible : Bool) (words : List (List ℕ)) (status : ℕ) (a b : Objects N H F J)
      → legible ≡ false → TellsIllegible g status a b → Starts g legible words status a b
  unread g legible words status a b none told = subst (λ (l : Bool). Starts g l words status a b) (sym none) told

  -- what was done before the run of a command whose words name files, and of one whose words name none
  pub opened_files : (g : Meaning N H F) (settings : Settings) (a b : Machine N H F J) (uses : Bool)
      → uses ≡ uses_files settings.command → uses ≡ true → OpensAll g settings a b ⊎ OpensNothing g a b
      → Opens g (Some settings) a b
  opened_files g settings a b uses is named opens =
      subst (λ (u : Bool). OpensWhere u g settings a b) (sym named ∙ is) opens

  pub opened_none : (g : Meaning N H F) (settings : Settings) (a : Machine N H F J) (uses : Bool)
      → uses ≡ uses_files settings.command → uses ≡ false → Opens g (Some settings) a a
  opened_none g settings a uses is unnamed = subst (λ (u : Bool). OpensWhere u g settings a a) (sym unnamed ∙ is) refl
