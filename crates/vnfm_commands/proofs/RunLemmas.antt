-- Opening a journal, and what is then done with it.
use Rattle.std.proofs.Common.{◌≡◌, ◌⊎◌, inl, inr, true, ◌∙◌, ◌<◌, ◌+◌, ℕ, List, Some, None, Err, ap, refl, subst, sym}
use Rattle.executor.proofs.ChainLemmas.{told_since}
use Rattle.executor.specs.Chain.{AreTold}
use Rattle.executor.specs.History.{HasHistory}
use Rattle.executor.specs.Managed.{Managed, IsReady}
use Rattle.executor.specs.Open.{Refuses}
use Rattle.executor.specs.Work.{Follows, LeavesJobs, Stays, Work, WorksAreWithJobs, WorksWithJobs, stood, went}
use Rattle.executor.specs.declared.manager.OpenFault.{OpenFault}
use Rattle.journal_core.specs.Load.{SyncsAndReads}
use Rattle.lcm_mouth.specs.World.{Peers}
use Rattle.lcm_events.specs.declared.events.Event.{Event}
use Rattle.lcm_sessions.specs.Onboarding.{onboarding_work}
use Rattle.lcm_mouth.specs.Mouth.{MouthState}
use Rattle.site_traits.specs.Counts.{CallCounts, OnlyDiskFails, SiteCounts}
use Rattle.site_traits.specs.Peers.{OrchestratorState, Post}
use Rattle.site_traits.specs.Site.{KeepsJobs, SiteState}
use Rattle.vnfm_commands.specs.Course.{Course, misused, starved, making, migrating, trying, opened, unopened, Activity, serving, onboarding, counting, IsOf}
use Rattle.vnfm_commands.specs.Course.{IsOfWords, Opening, activity_work, ending_of, told_by, unset}
use Rattle.vnfm_commands.specs.Ending.{Ending}
use Rattle.vnfm_commands.specs.Moving.{IsSpared, spare_of}
use Rattle.vnfm_commands.specs.Words.{AreWordsOf, loads, makes_rounds}
use Rattle.vnfm_commands.specs.declared.ending.Failure.TheVariants.{NoMemory}
use Rattle.command_line.specs.Words.{Settles, settings_of}
use Rattle.command_line.specs.declared.options.Command.TheVariants.{Migrate, Once, Serve}
use Rattle.command_line.specs.declared.options.SettingsFault.{SettingsFault}
use Rattle.command_line.specs.declared.options.SettingsFault.TheVariants as setting
use Rattle.site_traits.specs.Moments.{keeps_refl}
use Rattle.command_line.specs.declared.options.Command.{Command}
use Rattle.command_line.specs.declared.options.Settings.{Settings}
use Rattle.vnfm_commands.specs.Outside.{Outside, Tells, beside, outside}
use Rattle.vnfm_commands.proofs.RoundLemmas.{asks_nobody}
use Rattle.vnfm_commands.specs.Rounds.{Rests}
use Rattle.vnfm_commands.specs.Runs.{AtCountBy, AtJobsBy, ActivityWorks, Pursues, Does, IsUntouched, Recovers, Runs, Saves}

-- what was opened
abbrev pub opening_of : Managed → List Event → Opening
opening_of m H = record { number = m.ledger.manager; saved = m.ledger.saved; history = H }

-- opening the journal, and then work on it
recovers : (tells : Type 0) (m n : Managed) (H : List Event) (w : Work) (a b e : SiteState) → Stays b → Stays e → Follows tells a b e
    → tells → SyncsAndReads a b → IsReady tells m H b
    → WorksWithJobs tells m.ledger.manager H w n b e → Recovers m.ledger.manager H w a e
recovers tells m n H w a b e before behind follows told reads ready works =
    let at = works.at_file.site told in
    let P : ℕ → Type 0 = λ k. HasHistory k (stood w) e.image in
    let Q : List ℕ → Type 0 = λ image. HasHistory m.ledger.manager H image in
    record {
      found = subst Q reads.same (before m H (ready.stands told)).here;
      any_moment = λ start. (follows told reads m.ledger.manager H w n works start.left).0;
      sound = λ start sound. (follows told reads m.ledger.manager H w n works start.left).1 sound;
      at_exit = at.at_exit;
      rests = λ fine. record {
        settled = (at.stands fine).journal.settled;
        file =
            subst P works.at_file.number (behind n (stood w) (at.stands fine)).here;
      };
    }

-- what the journal saves is what its file does
saves_as : (tells : Type 0) (m : Managed) (H : List Event) (a b : SiteState) → tells → SyncsAndReads a b → IsReady tells m H b
    → Saves m.ledger.saved a.image
saves_as tells m H a b told reads ready =
    let stands = (ready.stands told).journal in
    let P : List ℕ → Type 0 = λ v. Saves m.ledger.saved v in
    subst P reads.same (ap (λ v. v + m.ledger.saved) (sym stands.end) ∙ stands.saved)

-- an activity's work is one with jobs
activity_works : (tells : Type 0) (m saved : ℕ) (H : List Event) (activity : Activity) (n : Managed) (a b : SiteState)
    → WorksAreWithJobs tells a b → ActivityWorks tells m saved H activity n a b
    → WorksWithJobs tells m H (activity_work m saved H activity) n a b
activity_works tells m saved H (serving service) n a b alone works = works
activity_works tells m saved H (onboarding o) n a b alone works = alone m H (onboarding_work saved H o) n works
activity_works tells m saved H counting n a b alone works = alone m H (went H) n works

-- an activity behind the opening of its journal does this to the jobs
activity_jobs : (tells : Type 0) (m saved : ℕ) (H : List Event) (activity : Activity) (n : Managed) (a b e : SiteState) → LeavesJobs tells a b e
    → tells → SyncsAndReads a b → ActivityWorks tells m saved H activity n b e
    → AtJobsBy activity a e
activity_jobs tells m saved H (serving service) n a b e leaves told reads works = tt
activity_jobs tells m saved H (onboarding o) n a b e leaves told reads works = (leaves told reads).1 m H (onboarding_work saved H o) n works
activity_jobs tells m saved H counting n a b e leaves told reads works = (leaves told reads).1 m H (went H) n works

-- opening a journal does nothing beside its file
pub rests_opened : (t : Tells) (failed : Type 0) (a b : SiteState) (i j : SiteCounts) (mouth : MouthState) (o : OrchestratorState)
    (oc : CallCounts) (r : List Post) (rc : CallCounts) (k : List ℕ) → (t.site → KeepsJobs a b) → OnlyDiskFails failed i j
    → Rests t (beside (outside a i mouth o oc r rc k)) (beside (outside b j mouth o oc r rc k))
rests_opened t failed a b i j mouth o oc r rc k alone counts = record {
  peers = refl;
  asks = asks_nobody t failed (outside a i mouth o oc r rc k) (outside b j mouth o oc r rc k) refl refl alone counts;
}

-- an opened journal, and an activity of its manager
pub does_activity : (t : Tells) (m n : Managed) (H : List Event) (activity : Activity) (w u v : Outside) → Stays u.site → Stays v.site
    → Follows t.site w.site u.site v.site
    → LeavesJobs t.site w.site u.site v.site → WorksAreWithJobs t.site u.site v.site → m.ledger.manager < 4294967296
    → (t.site → SyncsAndReads w.site u.site)
    → IsReady t.site m H u.site → Pursues t m.ledger.manager m.ledger.saved H activity n u v → Rests t (beside w) (beside u)
    → (t.site → AtCountBy activity w.site v.site) → Does t (opened (opening_of m H) activity) w v
does_activity t m n H activity w u v before behind follows leaves alone number reads ready pursues rests counted =
    let works : WorksWithJobs t.site m.ledger.manager H (activity_work m.ledger.manager m.ledger.saved H activity) n u.site v.site =
    activity_works t.site m.ledger.manager m.ledger.saved H activity n u.site v.site alone pursues.works in
    let histories : List (List Event) = told_by m.ledger.manager m.ledger.saved H activity in
    record {
      legal = record { number = number; before = ready.keeps.kept.legal; grows = works.at_file.grows };
      site = λ told. recovers t.site m n H (activity_work m.ledger.manager m.ledger.saved H activity) w.site u.site v.site before behind follows told
          (reads told) ready works;
      saved = λ told. saves_as t.site m H w.site u.site told (reads told) ready;
      jobs = λ told. activity_jobs t.site m.ledger.manager m.ledger.saved H activity n w.site u.site v.site leaves told (reads told) pursues.works;
      counted = counted;
      beside = (beside u, rests, pursues.does);
      told = told_since t.site m.ledger.manager histories w.mouth.told v.mouth.told w.site u.site v.site
          (λ told. (reads told).on_file.passes.later)
          (subst (λ (p : Peers). AreTold t.site m.ledger.manager histories p.mouth.told v.mouth.told u.site v.site) rests.peers
          pursues.told);
    }

-- a journal that wasn't opened
pub does_not_open : (t : Tells) (why : OpenFault) (w v : Outside) → LeavesJobs t.site w.site v.site v.site
    → (t.site → SyncsAndReads w.site v.site) → (t.site → Refuses why v.site.image)
    → Rests t (beside w) (beside v) → Does t (unopened why) w v
does_not_open t why w v leaves reads found rests = record {
  legal = tt;
  site = λ told. record { because = subst (Refuses why) (reads told).same (found told); reads = reads told };
  saved = λ told. tt;
  jobs = λ told. (leaves told (reads told)).0;
  counted = λ told. tt;
  beside = rests;
  told = ap (λ (p : Peers). p.mouth.told) rests.peers;
}

-- a site that is as it was wasn't called
pub untouched : (a : SiteState) → IsUntouched a a
untouched a = record { image = refl; moment = refl; since = λ t p left. left; still = λ t p left. left }

-- a file that is as it was wasn't called
pub spared_same : {S : Type 0} (state : S → SiteState) (counts : S → SiteCounts) (a b : S) → b ≡ a
    → IsSpared (spare_of (state a) (counts a)) (spare_of (state b) (counts b))
spared_same {S = S} state counts a b same =
    let P : S → Type 0 = λ v. IsSpared (spare_of (state a) (counts a)) (spare_of (state v) (counts v)) in
    subst P (sym same) (record {
      site = untouched (state a);
      jobs = keeps_refl (state a);
      counts = refl;
    })

-- words of `migrate` that set nothing found no memory
pub unset_starves : (fault : SettingsFault) (words : List (List ℕ)) (ending : Ending) → ending ≡ Err (unset fault)
    → Settles (Err fault) (settings_of words) → AreWordsOf Migrate words → ending ≡ Err NoMemory
unset_starves setting.Usage words ending is settles are = commanded words are.settings are.set settles where
  commanded : {P : Type 0} (words : List (List ℕ)) (s : Settings) → settings_of words ≡ Some s → settings_of words ≡ None → P
  commanded words s some none = cc
unset_starves setting.Memory words ending is settles are = is

-- the command of what words set is the one that they are of
pub command_is : (words : List (List ℕ)) (s t : Settings) (command : Command) → settings_of words ≡ Some s → settings_of words ≡ Some t
    → t.command ≡ command → s.command ≡ command
command_is words s t command set other is = ap (λ (o : Settings). o.command) (some_is s t (sym set ∙ other)) ∙ is where
  some_is : (s t : Settings) → Some s ≡ Some t → s ≡ t
  some_is s t same = cc

-- a course of settings is one of the words that set them
pub of_words : (words : List (List ℕ)) (s : Settings) (course : Course) → settings_of words ≡ Some s → IsOf s course
    → IsOfWords words course
of_words words s misused set is = absurd is
of_words words s starved set is = absurd is
of_words words s (making number result) set is = record { settings = s; set = set; is = is }
of_words words s (migrating result) set is = record { settings = s; set = set; is = is }
of_words words s (trying result) set is = record { settings = s; set = set; is = is }
of_words words s (unopened why) set is = record { settings = s; set = set; is = is }
of_words words s (opened start activity) set is = record { settings = s; set = set; is = is }

-- `once` and `serve` open the journal, and make rounds
pub opens_to_serve : (command : Command) → (command ≡ Once) ⊎ (command ≡ Serve) → loads command ≡ true
opens_to_serve command (inl is) = ap loads is
opens_to_serve command (inr is) = ap loads is

pub serves_rounds : (command : Command) → (command ≡ Once) ⊎ (command ≡ Serve) → makes_rounds command ≡ true
serves_rounds command (inl is) = ap makes_rounds is
serves_rounds command (inr is) = ap makes_rounds is

-- words that set nothing, or for which there is no memory, do nothing
pub unset_runs : (t : Tells) (words : List (List ℕ)) (fault : SettingsFault) (ending : Ending) (w : Outside) → ending ≡ Err (unset fault)
    → Settles (Err fault) (settings_of words) → (course : Course) × Runs t words course w w × (ending ≡ ending_of course)
unset_runs t words setting.Usage ending w is settles = (
  misused,
  record {
    words_are = settles;
    does = record {
      legal = tt;
      site = λ told. untouched w.site;
      saved = λ told. tt;
      jobs = λ told. keeps_refl w.site;
      counted = λ told. tt;
      beside = refl;
      told = refl;
    };
  },
  is,
)
unset_runs t words setting.Memory ending w is settles = (
  starved,
  record {
    words_are = settles;
    does = record {
      legal = tt;
      site = λ told. untouched w.site;
      saved = λ told. tt;
      jobs = λ told. keeps_refl w.site;
      counted = λ told. tt;
      beside = refl;
      told = refl;
    };
  },
  is,
)
