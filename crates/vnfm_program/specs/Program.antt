-- What the program does (own rule, docs/FORMATS.md).
use Rattle.std.specs.Prelude.{◌≡◌, ◌⊎◌, ◌+◌, ℕ, List, [], Bool, true, false, Option, Some, None, Result, Ok}
use Rattle.std.specs.declared.alloc.AllocError.{AllocError}
use Rattle.command_line.specs.Words.{settings_of}
use Rattle.command_line.specs.declared.options.Command.{Command}
use Rattle.command_line.specs.declared.options.Command.TheVariants.{Check, Init, Migrate, Onboard, Once, Serve, Trial}
use Rattle.command_line.specs.declared.options.Settings.{Settings}
use Rattle.host_calls.specs.Files.{FilesState, Hold}
use Rattle.lcm_mouth.specs.Mouth.{MouthState}
use Rattle.notify_outbox.specs.Lent.{Carrier}
use Rattle.occ_work.specs.Around.{Peer}
use Rattle.outside_edges.specs.Site.{counts_of, state_in}
use Rattle.outside_edges.specs.declared.jobs.NoJobs.{NoJobs}
use Rattle.outside_edges.specs.declared.real_site.RealSite.{RealSite}
use Rattle.program_words.specs.Pages.{page_of}
use Rattle.program_words.specs.Reasons.{kind_of, reason_of}
use Rattle.program_words.specs.declared.page.Page.{Page}
use Rattle.program_words.specs.declared.reason.Reason.{Reason}
use Rattle.program_words.specs.declared.reason.Reason.TheVariants.{Illegible}
use Rattle.site_traits.specs.Site.{SiteState}
use Rattle.standard_streams.specs.Numbers.{AreHeld, Numbers}
use Rattle.vnfm_cli.specs.Migration.{MigratesAs}
use Rattle.vnfm_cli.specs.Promises.{Ground, Promises}
use Rattle.vnfm_cli.specs.Trial.{TriesAs}
use Rattle.vnfm_commands.specs.Ending.{Output}
use Rattle.vnfm_commands.specs.Moving.{Spare}
use Rattle.vnfm_commands.specs.Outside.{Outside}
use Rattle.vnfm_commands.specs.Outside as run
use Rattle.vnfm_commands.specs.Words.{AreWordsOf}
use Rattle.vnfm_program.specs.Opening.{FilesMeaning, OpensFiles, Sites, StarvesOpening}
use Rattle.vnfm_program.specs.Output.{Explains, Prints, Starves}

-- What the program works with beside its words and its mouth: what opens the null device, the files, the site of the
-- journal and the spare one of the file to which it is migrated, on which no file was opened yet, as they are; the
-- orchestrator, the courier, the clock, standard output and standard error by what they show.
pub record Machine (N H F J : Type 0) : Type 0 where
  pub device : N
  pub files : H
  pub site : RealSite F J
  pub spare : RealSite F NoJobs
  pub orchestrator : Peer
  pub courier : Carrier
  pub clock : List ℕ
  pub lines : Output
  pub errors : Output

-- what of it tells what is done to it, and what the device, the files and a file show
pub record Meaning (N H F : Type 0) : Type 1 where
  pub device_tells : Type 0
  pub files_tells : Type 0
  pub outside : run.Tells
  pub lines : Type 0
  pub errors : Type 0
  pub numbers : N → Numbers
  pub places : H → FilesState
  pub state : F → SiteState
  pub hold : F → Hold

-- the part of it that is about files
abbrev pub files_meaning : {N H F : Type 0} → Meaning N H F → FilesMeaning H F
files_meaning g = record {
  tells = g.files_tells;
  file_tells = g.outside.site;
  places = g.places;
  state = g.state;
  hold = g.hold;
}

-- what the files are opened by, and on
abbrev pub sites_of : {N H F J : Type 0} → Machine N H F J → Sites H F J
sites_of a = record { files = a.files; site = a.site; spare = a.spare }

-- all of it, with the mouth where there was memory for one
pub record Objects (N H F J : Type 0) : Type 0 where
  pub mouth : Result MouthState AllocError
  pub machine : Machine N H F J

-- all of it, with the mouth
pub record Scene (N H F J : Type 0) : Type 0 where
  pub mouth : MouthState
  pub machine : Machine N H F J

-- the line of this command goes to standard error, where its answer goes to standard output
abbrev pub answers : Command → Bool
answers Init = false
answers Onboard = false
answers Once = true
answers Serve = false
answers Check = false
answers Migrate = false
answers Trial = false

-- the words of this command name files
abbrev pub uses_files : Command → Bool
uses_files Init = true
uses_files Onboard = true
uses_files Once = true
uses_files Serve = true
uses_files Check = true
uses_files Migrate = true
uses_files Trial = false

-- where the line goes that tells how the run went: that of words that set nothing goes to standard output
abbrev pub is_told_on_error : Option Settings → Bool
is_told_on_error None = false
is_told_on_error (Some settings) = answers settings.command

-- a write on the mouth's connection failed
abbrev pub is_undelivered : MouthState → Bool
is_undelivered mouth = mouth.wire.intake.door.conn.write_failed

module _ {N H F J : Type 0} where
  -- what a run over it works with
  abbrev pub outside_of : Meaning N H F → Scene N H F J → Outside
  outside_of g a = record {
    site = state_in g.state a.machine.site.file;
    counts = counts_of a.machine.site;
    mouth = a.mouth;
    orchestrator = a.machine.orchestrator;
    courier = a.machine.courier;
    clock = a.machine.clock;
  }

  -- what a run with its line to this output is over
  abbrev pub ground : Meaning N H F → Scene N H F J → Output → Ground
  ground g a lines = record { outside = outside_of g a; lines = lines }

  -- what the file to which a journal is migrated, and its counts, show a run
  abbrev pub spare_of : Meaning N H F → Machine N H F J → Spare
  spare_of g a = record { site = state_in g.state a.spare.file; counts = counts_of a.spare }

  -- what is to be said of a run of these words with this status that left this
  abbrev pub reason_at : List (List ℕ) → ℕ → Scene N H F J → Option Reason
  reason_at words status a =
      reason_of (kind_of words) status a.machine.site.why a.machine.spare.why (is_undelivered a.mouth) a.mouth.account

  -- What one run of these words that ended with this status did, whose line went to a sink that showed this before it
  -- and behind it. The file to which a journal is migrated, and its counts, are left alone but for `migrate`, and a trial
  -- calls neither.
  pub record RunsOnce (g : Meaning N H F) (sink : Type 0) (words : List (List ℕ)) (status : ℕ) (a b : Scene N H F J)
      (before behind : Output) : Type 0 where
    pub promises : Promises g.outside sink words status (ground g a before) (ground g b behind)
    pub spared : ¬ (AreWordsOf Migrate words) → b.machine.spare ≡ a.machine.spare
    pub migration : MigratesAs g.outside g.outside.site sink words status (ground g a before) (ground g b behind)
        (spare_of g a.machine) (spare_of g b.machine)
    pub trial : TriesAs sink words status before behind
    pub uncalled : AreWordsOf Trial words → b.machine.site ≡ a.machine.site

  -- the device and the files are as they were
  pub record OpensNoMore (a b : Machine N H F J) : Type 0 where
    pub device : b.device ≡ a.device
    pub files : b.files ≡ a.files

  -- One run over what was opened, with its line to standard output. Behind it, what explains its status went to
  -- standard error.
  pub record SpeaksOnOutput (g : Meaning N H F) (words : List (List ℕ)) (status : ℕ)
      (a b : Scene N H F J) : Type 0 where
    pub runs : RunsOnce g g.lines words status a b a.machine.lines b.machine.lines
    pub explains : Explains g.errors (reason_at words status b) words a.machine.errors b.machine.errors
    pub kept : OpensNoMore a.machine b.machine

  -- the same, with the line to standard error too
  pub record SpeaksOnError (g : Meaning N H F) (words : List (List ℕ)) (status : ℕ) (a b : Scene N H F J) : Type 0 where
    pub behind : Output
    pub runs : RunsOnce g g.errors words status a b a.machine.errors behind
    pub explains : Explains g.errors (reason_at words status b) words behind b.machine.errors
    pub silent : b.machine.lines ≡ a.machine.lines
    pub kept : OpensNoMore a.machine b.machine

  -- one run, and behind it what explains its status, with the line to standard error or not
  abbrev pub Performs : Meaning N H F → Bool → List (List ℕ) → ℕ → Scene N H F J → Scene N H F J → Type 0
  Performs g false words status a b = SpeaksOnOutput g words status a b
  Performs g true words status a b = SpeaksOnError g words status a b

  -- there was no memory: that was said, and nothing else was done
  pub record IsStarved (g : Meaning N H F) (status : ℕ) (a b : Objects N H F J) : Type 0 where
    pub starves : Starves g.errors status a.machine.errors b.machine.errors
    pub kept : b ≡ record a { machine = record a.machine { errors = b.machine.errors } }

  -- the numbers of the standard streams are held, by the one holding that was made
  abbrev pub HoldsStreams : Meaning N H F → Machine N H F J → Machine N H F J → Type 0
  HoldsStreams g a b = g.device_tells → AreHeld (g.numbers a.device) (g.numbers b.device)

  -- While the numbers of the standard streams were held there was no memory to open a file that the words name: that
  -- was said, and nothing else was done.
  pub record IsStarvedOpening (g : Meaning N H F) (words : List (List ℕ)) (status : ℕ)
      (a b : Objects N H F J) : Type 0 where
    pub settings : Settings
    pub set : settings_of words ≡ Some settings
    pub streams : HoldsStreams g a.machine b.machine
    pub opening : StarvesOpening (files_meaning g) settings (sites_of a.machine) (sites_of b.machine)
    pub starves : Starves g.errors status a.machine.errors b.machine.errors
    pub kept : b ≡ record a {
      machine = record a.machine {
        device = b.machine.device;
        files = b.machine.files;
        site = b.machine.site;
        spare = b.machine.spare;
        errors =
            b.machine.errors;
      };
    }

  -- a page was printed to standard output, and nothing else was done
  pub record IsPrinted (g : Meaning N H F) (page : Page) (status : ℕ) (a b : Objects N H F J) : Type 0 where
    pub prints : Prints g.lines page status a.machine.lines b.machine.lines
    pub kept : b ≡ record a { machine = record a.machine { lines = b.machine.lines } }

  -- While the numbers of the standard streams are held, the files that the settings name were opened, each on its site,
  -- or it is told why it couldn't be had. Nothing else was done.
  pub record OpensAll (g : Meaning N H F) (settings : Settings) (a b : Machine N H F J) : Type 0 where
    pub streams : HoldsStreams g a b
    pub opens : OpensFiles (files_meaning g) settings (sites_of a) (sites_of b)
    pub kept : b ≡ record a { device = b.device; files = b.files; site = b.site; spare = b.spare }

  -- the numbers of the standard streams couldn't be taken, and nothing was done
  pub record OpensNothing (g : Meaning N H F) (a b : Machine N H F J) : Type 0 where
    pub failed : g.device_tells → (g.numbers b.device).failed ≡ (g.numbers a.device).failed + 1
    pub kept : b ≡ record a { device = b.device }

  -- what is done before the run of a command whose words name files, or don't
  abbrev pub OpensWhere : Bool → Meaning N H F → Settings → Machine N H F J → Machine N H F J → Type 0
  OpensWhere true g settings a b = OpensAll g settings a b ⊎ OpensNothing g a b
  OpensWhere false g settings a b = b ≡ a

  -- what is done before the run: nothing for words that set nothing
  abbrev pub Opens : Meaning N H F → Option Settings → Machine N H F J → Machine N H F J → Type 0
  Opens g None a b = b ≡ a
  Opens g (Some settings) a b = OpensWhere (uses_files settings.command) g settings a b

  -- The files that the words name were opened, then the words were obeyed by one run over them, and then its status was
  -- explained. Nothing else was done, before or behind the run.
  pub record Obeys (g : Meaning N H F) (words : List (List ℕ)) (status : ℕ) (a b : Objects N H F J) : Type 0 where
    pub opened : Machine N H F J
    pub opens : Opens g (settings_of words) a.machine opened
    pub before : MouthState
    pub after : MouthState
    pub has_mouth : a.mouth ≡ Ok before
    pub mouth : b.mouth ≡ Ok after
    pub performs : Performs g (is_told_on_error (settings_of words)) words status
        (record { mouth = before; machine = opened }) (record { mouth = after; machine = b.machine })

  -- the same, or there was no memory
  abbrev pub ObeysOrStarves : Meaning N H F → List (List ℕ) → ℕ → Objects N H F J → Objects N H F J → Type 0
  ObeysOrStarves g words status a b = Obeys g words status a b
      ⊎ (IsStarved g status a b ⊎ IsStarvedOpening g words status a b)

  -- what is done where these words ask for this page or for none
  abbrev pub Goes : Meaning N H F → Option Page → List (List ℕ) → ℕ → Objects N H F J → Objects N H F J → Type 0
  Goes g None words status a b = ObeysOrStarves g words status a b
  Goes g (Some page) words status a b = IsPrinted g page status a b ⊎ IsStarved g status a b

  -- The words couldn't be read, so there are none, which is no command: one run of none, with its line to standard
  -- output, and behind it that was said on standard error.
  pub record IsIllegible (g : Meaning N H F) (status : ℕ) (a b : Objects N H F J) : Type 0 where
    pub before : MouthState
    pub after : MouthState
    pub has_mouth : a.mouth ≡ Ok before
    pub mouth : b.mouth ≡ Ok after
    pub runs : RunsOnce g g.lines [] status (record { mouth = before; machine = a.machine })
        (record { mouth = after; machine = b.machine }) a.machine.lines b.machine.lines
    pub explains : Explains g.errors (Some Illegible) [] a.machine.errors b.machine.errors
    pub kept : OpensNoMore a.machine b.machine

  -- the same, or there was no memory
  abbrev pub TellsIllegible : Meaning N H F → ℕ → Objects N H F J → Objects N H F J → Type 0
  TellsIllegible g status a b = IsIllegible g status a b ⊎ IsStarved g status a b

  -- what is done with these words, which could be read or not
  abbrev pub Starts : Meaning N H F → Bool → List (List ℕ) → ℕ → Objects N H F J → Objects N H F J → Type 0
  Starts g true words status a b = Goes g (page_of words) words status a b
  Starts g false words status a b = TellsIllegible g status a b
