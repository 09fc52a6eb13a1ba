-- Which endings the bytes of the file allow.
use Rattle.std.proofs.Common.{◌≡◌, ◌⊎◌, ◌==◌, ℕ, List, Some, None, Result, Ok, Err, ap, subst, refl, inl, inr, length, ⊎_elim, sym, ◌∙◌}
use Rattle.std.proofs.Common.{arith, false, true}
use Rattle.std.proofs.lemmas.Bool.{false≢true}
use Rattle.executor.specs.Laws.{HasNoBadRecord}
use Rattle.executor.specs.Open.{IsBadRecord}
use Rattle.executor.specs.declared.manager.WorkFault.{WorkFault}
use Rattle.executor.specs.declared.manager.WorkFault.TheVariants as working
use Rattle.executor.specs.declared.manager.OpenFault.{OpenFault}
use Rattle.executor.specs.declared.manager.OpenFault.TheVariants as opening
use Rattle.journal_records.specs.File.{HasRecords}
use Rattle.journal_core.specs.Header.{IsForeign, IsUnmade}
use Rattle.journal_core.specs.Exclusion.{IsHeadedOrNot, IsWholeOrForeign, IsWholeOrUnmade}
use Rattle.journal_migration.specs.declared.migration.MigrateFault.{MigrateFault}
use Rattle.journal_migration.specs.declared.migration.MigrateFault.TheVariants as moving
use Rattle.lcm_sessions.specs.Onboarding.{unready, unheard, cut_off, heard, done, starving as no_memory, breaking, verdict_answer}
use Rattle.lcm_sessions.specs.Verdict.{Verdict, refused, full as no_room, accepted, verdict}
use Rattle.lcm_events.specs.declared.events.Event.{Event}
use Rattle.lcm_sessions.specs.Session.{life}
use Rattle.lcm_trial.specs.declared.counts.Tried.{Tried}
use Rattle.lcm_trial.specs.declared.counts.TrialFault.{TrialFault}
use Rattle.lcm_trial.specs.declared.counts.TrialFault.TheVariants as trial
use Rattle.notify_outbox.specs.Delivering.{Course as Delivering, IsCourse, held, idle, sent}
use Rattle.notify_outbox.specs.Lent.{Carrier}
use Rattle.notify_outbox.specs.Rounds as outbox
use Rattle.notify_outbox.specs.Rounds.{RoundEnd}
use Rattle.notify_outbox.specs.declared.faults.DeliveryFault.{DeliveryFault}
use Rattle.notify_outbox.specs.declared.faults.DeliveryFault.TheVariants as delivering
use Rattle.occ_work.specs.Turns.{TurnEnd, through, stopped as by}
use Rattle.site_traits.specs.Counts.{one_more}
use Rattle.site_traits.specs.Door.{DoorCounts}
use Rattle.site_traits.specs.Site.{SiteState}
use Rattle.vnfm_cli.specs.Causes.{FailsAtDoor}
use Rattle.vnfm_cli.proofs.EndingLemmas.{Where}
use Rattle.vnfm_commands.specs.Course.{Course, misused, starved, making, migrating, trying, unopened, opened, Close, finished, unreached, stopped, halted}
use Rattle.vnfm_commands.specs.Course.{undelivered, full, starving, broken, bad as amiss, serving, onboarding, counting, close_ending}
use Rattle.vnfm_commands.specs.Course.{ending_of}
use Rattle.vnfm_commands.specs.Course.{halt_of}
use Rattle.vnfm_commands.specs.Course.{moment_of, once_acted, once_made, once_posted, onboarding_ending, undelivered_by}
use Rattle.vnfm_commands.specs.Course.{unopened_failure, IsOf, IsOfSettings, IsOfWords}
use Rattle.vnfm_commands.specs.Ending.{failure_status, status_of}
use Rattle.vnfm_commands.specs.Outside.{Beside, Tells, posting_tells}
use Rattle.vnfm_commands.specs.Rounds.{CloseDoes, FailsBy, StopsBy}
use Rattle.vnfm_commands.specs.Runs.{AtFile, CourseDoes, IsDoorCause, IsLegalCourse, IsNoJournal, IsOrYields, IsSoundStart, IsStartOf}
use Rattle.vnfm_commands.specs.Runs.{MayEndWith}
use Rattle.journal_core.specs.Create.{IsMade}
use Rattle.journal_core.specs.Header.{IsUnfinished}
use Rattle.journal_core.specs.declared.create.CreateFault.{CreateFault}
use Rattle.journal_core.specs.declared.create.CreateFault.TheVariants as creating
use Rattle.command_line.specs.Words.{settings_of}
use Rattle.vnfm_commands.specs.Words.{AreInit, AreLoading, AreServing, AreWordsOf, loads, makes_rounds}
use Rattle.command_line.specs.declared.options.Command.{Command}
use Rattle.command_line.specs.declared.options.Command.TheVariants.{Check, Init, Migrate, Onboard, Once, Serve, Trial}
use Rattle.command_line.specs.declared.options.Settings.{Settings}
use Rattle.vnfm_commands.specs.declared.ending.Failure.TheVariants.{SiteFault, DoorFault, BadRecord}
use Rattle.vnfm_commands.proofs.DiskLemmas.{one_fault}

-- words set one thing
set_once : (words : List (List ℕ)) (s t : Settings) → settings_of words ≡ Some s → settings_of words ≡ Some t → s ≡ t
set_once words s t set other = some_is s t (sym set ∙ other) where
  some_is : (s t : Settings) → Some s ≡ Some t → s ≡ t
  some_is s t same = cc

-- words that set something aren't misused
pub commanded : (P : Type 0) (words : List (List ℕ)) (s : Settings) → settings_of words ≡ Some s → settings_of words ≡ None → P
commanded P words s some none = cc

-- the course of words that set something is one of that
pub of_settings : (words : List (List ℕ)) (course : Course) (s : Settings) → settings_of words ≡ Some s → IsOfSettings words course
    → IsOf s course
of_settings words course s set of =
    let P : Settings → Type 0 = λ x. IsOf x course in
    subst P (set_once words of.settings s of.set set) of.is

-- words that load a journal don't make one
not_making : (P : Type 0) (words : List (List ℕ)) (number : ℕ) (result : Result (Unit {0}) CreateFault) → AreLoading words
    → IsOfSettings words (making number result) → P
not_making P words number result are of =
    let init = (of_settings words (making number result) are.settings are.set of).0 in
    absurd (false≢true (ap loads (sym init) ∙ are.loading))

-- nor migrate one
not_migrating : (P : Type 0) (words : List (List ℕ)) (result : Result ℕ MigrateFault) → AreLoading words
    → IsOfSettings words (migrating result) → P
not_migrating P words result are of =
    let migrate = of_settings words (migrating result) are.settings are.set of in
    absurd (false≢true (ap loads (sym migrate) ∙ are.loading))

-- nor make a trial
not_trying : (P : Type 0) (words : List (List ℕ)) (result : Result Tried TrialFault) → AreLoading words
    → IsOfSettings words (trying result) → P
not_trying P words result are of =
    let trial = (of_settings words (trying result) are.settings are.set of).0 in
    absurd (false≢true (ap loads (sym trial) ∙ are.loading))

-- a descriptor that was judged ends with 0, 9 or 10
verdict_status : (v : Verdict) → MayEndWith Onboard (status_of (onboarding_ending (verdict_answer v)))
verdict_status (refused why) = inr (inr (inr refl))
verdict_status (no_room end more) = inr (inr (inl refl))
verdict_status (accepted vnfd) = inl refl

-- the words of a course that makes a journal are `init`'s, for that manager
init_words : (words : List (List ℕ)) (number : ℕ) (result : Result (Unit {0}) CreateFault) → IsOfSettings words (making number result)
    → AreInit number words
init_words words number result of = record { settings = of.settings; set = of.set; is = of.is.0; number = sym of.is.1 }

-- what a status tells of the words and, unless they are those of `migrate`, of the file at the start: 5 of one that is no journal, 8 of a
-- bad record, 9 and 10 of the command, 11 of a file that isn't unfinished for the manager of `init`
abbrev pub IsTold : Type 0 → List (List ℕ) → SiteState → ℕ → Type 0
IsTold tells words a n =
    Where (n == 5) (tells → ¬ (AreWordsOf Migrate words) → IsNoJournal a.image)
    × Where (n == 8) (tells → ¬ (AreWordsOf Migrate words) → (k : ℕ) × IsBadRecord k a.image)
    × Where (n == 9) (AreWordsOf Onboard words ⊎ (AreServing words ⊎ AreWordsOf Migrate words))
    × Where (n == 10) (AreWordsOf Onboard words)
    × Where (n == 11) (tells → ¬ (AreWordsOf Migrate words) → (m : ℕ) × AreInit m words × (IsUnfinished m a.image → ⊥))

-- where the site tells no record that is read back is bad
module _ (t : Tells) (m saved : ℕ) where
  -- an act reads nothing back
  never_bad_act : (why : WorkFault) (n : ℕ) → halt_of why ≡ Some (amiss n) → ⊥
  never_bad_act (working.Full end more) n is = cc is
  never_bad_act working.Memory n is = cc is
  never_bad_act working.Disk n is = cc is
  never_bad_act (working.TooLong k) n is = cc is

  never_bad_turn : (end : TurnEnd) (n : ℕ) → FailsBy end (amiss n) → ⊥
  never_bad_turn through n fails = fails
  never_bad_turn (by d cause) n fails = never_bad_act cause n fails

  -- which fault of a delivery a bad record is
  bad_record_is : (cause : DeliveryFault) (n : ℕ) → amiss n ≡ undelivered_by cause → cause ≡ delivering.BadRecord n
  bad_record_is (delivering.BadRecord k) n is = cc is
  bad_record_is (delivering.Full end more) n is = absurd (cc is)
  bad_record_is delivering.Memory n is = absurd (cc is)
  bad_record_is delivering.Disk n is = absurd (cc is)

  never_bad_course : (H : List Event) (s : ℕ) (c : Delivering) (n : ℕ) → t.site
      → IsCourse (posting_tells t) m H s c (Err (delivering.BadRecord n)) → ⊥
  never_bad_course H s idle n told course = course
  never_bad_course H s (held place) n told course = course.1.1 told
  never_bad_course H s (sent p) n told course = course

  never_bad_posts : (now : ℕ) (H : List Event) (end : RoundEnd) (n : ℕ) (a b : Carrier) → t.site → StopsBy end (amiss n)
      → outbox.EndDoes (posting_tells t) m saved now H end a b → ⊥
  never_bad_posts now H outbox.through n a b told stops does = stops
  never_bad_posts now H (outbox.stopped s c cause) n a b told stops does =
      let P : DeliveryFault → Type 0 = λ why. IsCourse (posting_tells t) m H s c (Err why) in
      never_bad_course H s c n told (subst P (bad_record_is cause n stops) does.0)

  -- so rounds end with no bad record
  never_bad : (H : List Event) (close : Close) (n rounds : ℕ) (a b : Beside) → t.site → CloseDoes t m saved H close a b
      → close_ending rounds close ≡ Err (BadRecord n) → ⊥
  never_bad H finished n rounds a b told does is = cc is
  never_bad H unreached n rounds a b told does is = cc is
  never_bad H (stopped came talk) n rounds a b told does is = cc is
  never_bad H (halted visit turn end (full e more)) n rounds a b told does is = cc is
  never_bad H (halted visit turn end starving) n rounds a b told does is = cc is
  never_bad H (halted visit turn end broken) n rounds a b told does is = cc is
  never_bad H (halted visit turn end (amiss k)) n rounds a b told does is = never_bad_turn end k does.3
  never_bad H (undelivered visit turn ps end (full e more)) n rounds a b told does is = cc is
  never_bad H (undelivered visit turn ps end starving) n rounds a b told does is = cc is
  never_bad H (undelivered visit turn ps end broken) n rounds a b told does is = cc is
  never_bad H (undelivered visit turn ps end (amiss k)) n rounds a b told does is =
      never_bad_posts (moment_of turn) (once_posted turn (once_acted m saved H visit turn) ps) end k does.0.posts.between b.courier told
      does.1 does.0.posts.end_does

-- rounds that this course made ended with no bad record, where the site tells
abbrev pub EndsGood : Type 0 → Course → Type 0
EndsGood tells (opened start (serving service)) =
    (n : ℕ) → tells → ending_of (opened start (serving service)) ≡ Err (BadRecord n) → ⊥
EndsGood tells other = Unit {0}

pub ends_good : (t : Tells) (course : Course) (a b : Beside) → CourseDoes t course a b → EndsGood t.site course
ends_good t misused a b does = tt
ends_good t starved a b does = tt
ends_good t (making number result) a b does = tt
ends_good t (migrating result) a b does = tt
ends_good t (trying result) a b does = tt
ends_good t (unopened why) a b does = tt
ends_good t (opened start (onboarding o)) a b does = tt
ends_good t (opened start counting) a b does = tt
ends_good t (opened start (serving service)) a b does = λ n told is.
    never_bad t start.number start.saved (life (once_made start.number start.saved) start.history service.rounds) service.close n
    (length service.rounds) does.2.between b told does.2.close is

-- so it tells, by the way that the run went
module _ (tells : Type 0) (words : List (List ℕ)) (a b : SiteState) where
  closed_so : AreServing words → (rounds : ℕ) (close : Close)
      → ((n : ℕ) → tells → close_ending rounds close ≡ Err (BadRecord n) → ⊥)
      → IsTold tells words a (status_of (close_ending rounds close))
  closed_so serves rounds finished never = (tt, tt, tt, tt, tt)
  closed_so serves rounds unreached never = (tt, tt, tt, tt, tt)
  closed_so serves rounds (stopped came talk) never = (tt, tt, tt, tt, tt)
  closed_so serves rounds (halted visit turn end (full e more)) never = (tt, tt, inr (inl serves), tt, tt)
  closed_so serves rounds (halted visit turn end starving) never = (tt, tt, tt, tt, tt)
  closed_so serves rounds (halted visit turn end broken) never = (tt, tt, tt, tt, tt)
  closed_so serves rounds (halted visit turn end (amiss n)) never = (tt, (λ told other. absurd (never n told refl)), tt, tt, tt)
  closed_so serves rounds (undelivered visit turn ps end (full e more)) never = (tt, tt, inr (inl serves), tt, tt)
  closed_so serves rounds (undelivered visit turn ps end starving) never = (tt, tt, tt, tt, tt)
  closed_so serves rounds (undelivered visit turn ps end broken) never = (tt, tt, tt, tt, tt)
  closed_so serves rounds (undelivered visit turn ps end (amiss n)) never = (tt, (λ told other. absurd (never n told refl)), tt, tt, tt)

  -- the words of a course that migrates a journal
  moving_words : {result : Result ℕ MigrateFault} → IsOfSettings words (migrating result) → AreWordsOf Migrate words
  moving_words of = record { settings = of.settings; set = of.set; is = of.is }

  judged_so : AreWordsOf Onboard words → (v : Verdict) → IsTold tells words a (status_of (onboarding_ending (verdict_answer v)))
  judged_so on (refused why) = (tt, tt, tt, on, tt)
  judged_so on (no_room end more) = (tt, tt, inl on, tt, tt)
  judged_so on (accepted vnfd) = (tt, tt, tt, tt, tt)

  pub told_so : (course : Course) → IsOfWords words course → (tells → AtFile course a b) → EndsGood tells course
      → IsTold tells words a (status_of (ending_of course))
  told_so misused of at good = (tt, tt, tt, tt, tt)
  told_so starved of at good = (tt, tt, tt, tt, tt)
  told_so (making number (Ok u)) of at good = (tt, tt, tt, tt, tt)
  told_so (making number (Err creating.Taken)) of at good = (
    tt,
    tt,
    tt,
    tt,
    λ told other. (number, init_words words number (Err creating.Taken) of, (at told).taken refl),
  )
  told_so (making number (Err creating.Disk)) of at good = (tt, tt, tt, tt, tt)
  told_so (migrating (Ok records)) of at good = (tt, tt, tt, tt, tt)
  told_so (migrating (Err (moving.Open opening.Unmade))) of at good = ((λ told other. absurd (other (moving_words of))), tt, tt, tt, tt)
  told_so (migrating (Err (moving.Open (opening.Foreign place)))) of at good =
      ((λ told other. absurd (other (moving_words of))), tt, tt, tt, tt)
  told_so (migrating (Err (moving.Open (opening.BadRecord n)))) of at good = (tt, (λ told other. absurd (other (moving_words of))), tt, tt, tt)
  told_so (migrating (Err (moving.Open opening.Disk))) of at good = (tt, tt, tt, tt, tt)
  told_so (migrating (Err (moving.Open opening.Memory))) of at good = (tt, tt, tt, tt, tt)
  told_so (migrating (Err moving.Taken)) of at good = (tt, tt, tt, tt, λ told other. absurd (other (moving_words of)))
  told_so (migrating (Err (moving.Full end more))) of at good = (tt, tt, inr (inr (moving_words of)), tt, tt)
  told_so (migrating (Err moving.Disk)) of at good = (tt, tt, tt, tt, tt)
  told_so (trying (Ok numbers)) of at good = (tt, tt, tt, tt, tt)
  told_so (trying (Err trial.Room)) of at good = (tt, tt, tt, tt, tt)
  told_so (trying (Err trial.Memory)) of at good = (tt, tt, tt, tt, tt)
  told_so (unopened opening.Unmade) of at good = ((λ told other. inl (at told).because), tt, tt, tt, tt)
  told_so (unopened (opening.Foreign place)) of at good = ((λ told other. inr (place, (at told).because)), tt, tt, tt, tt)
  told_so (unopened (opening.BadRecord n)) of at good = (tt, (λ told other. (n, (at told).because)), tt, tt, tt)
  told_so (unopened opening.Disk) of at good = (tt, tt, tt, tt, tt)
  told_so (unopened opening.Memory) of at good = (tt, tt, tt, tt, tt)
  told_so (opened start (serving service)) of at good = closed_so (record { settings = of.settings; set = of.set; serving = of.is.command }) _
      service.close good
  told_so (opened start (onboarding unready)) of at good = (tt, tt, tt, tt, tt)
  told_so (opened start (onboarding unheard)) of at good = (tt, tt, tt, tt, tt)
  told_so (opened start (onboarding (cut_off bytes))) of at good = (tt, tt, tt, tt, tt)
  told_so (opened start (onboarding (heard bytes now done))) of at good =
      judged_so (record { settings = of.settings; set = of.set; is = of.is }) (verdict start.saved start.history now bytes)
  told_so (opened start (onboarding (heard bytes now breaking))) of at good = (tt, tt, tt, tt, tt)
  told_so (opened start (onboarding (heard bytes now no_memory))) of at good = (tt, tt, tt, tt, tt)
  told_so (opened start counting) of at good = (tt, tt, tt, tt, tt)

-- the course of words of a command is one of settings of that command
pub of_command : (command : Command) (words : List (List ℕ)) (course : Course) → AreWordsOf command words → IsOfSettings words course
    → (s : Settings) × (s.command ≡ command) × IsOf s course
of_command command words course are of = (are.settings, are.is, of_settings words course are.settings are.set of)

-- the course of `init`'s words is one of `init`, for their manager
pub of_init : (m : ℕ) (words : List (List ℕ)) (course : Course) → AreInit m words → IsOfSettings words course
    → (s : Settings) × (s.command ≡ Init) × (s.manager ≡ m) × IsOf s course
of_init m words course are of = (are.settings, are.is, are.number, of_settings words course are.settings are.set of)

-- settings of a command aren't those of another course
pub never_unopened : (P : Type 0) (s : Settings) (why : OpenFault) → s.command ≡ Init → IsOf s (unopened why) → P
never_unopened P s why init is = absurd (false≢true (ap loads (sym init) ∙ is))

pub never_served : (P : Type 0) (s : Settings) (command : Command) (c : Command) → s.command ≡ command → s.command ≡ c → (command ≡ c → ⊥)
    → P
never_served P s command c one other different = absurd (different (sym one ∙ other))

-- settings of a command that makes no rounds aren't those of rounds
pub never_rounds : (P : Type 0) (s : Settings) (command : Command) → s.command ≡ command → makes_rounds s.command ≡ true
    → makes_rounds command ≡ false → P
never_rounds P s command is rounds none = absurd (false≢true (sym none ∙ ap makes_rounds (sym is) ∙ rounds))

-- a file that isn't unfinished for the manager is told so
pub taken_ending : (course : Course) (words : List (List ℕ)) (a b : SiteState) (m : ℕ) → AreInit m words → IsOfWords words course
    → AtFile course a b
    → (IsUnfinished m a.image → ⊥) → IsOrYields 11 (status_of (ending_of course))
taken_ending misused words a b m are of at not = commanded _ words are.settings are.set of
taken_ending starved words a b m are of at not = inr (inr refl)
taken_ending (making number (Ok u)) words a b m are of at not =
    let same : number ≡ m = (let it = of_init m words (making number (Ok u)) are of in it.3.1 ∙ it.2) in
    absurd ((at.kept (λ unfinished. not (subst (λ k. IsUnfinished k a.image) same unfinished))).1 refl)
taken_ending (making number (Err creating.Taken)) words a b m are of at not = inl refl
taken_ending (making number (Err creating.Disk)) words a b m are of at not = inr (inl refl)
taken_ending (migrating result) words a b m are of at not = let it = of_init m words (migrating result) are of in
    never_served _ it.0 Init Migrate it.1 it.3 (λ wrong. cc)
taken_ending (trying result) words a b m are of at not = let it = of_init m words (trying result) are of in
    never_served _ it.0 Init Trial it.1 it.3.0 (λ wrong. cc)
taken_ending (unopened why) words a b m are of at not = let it = of_init m words (unopened why) are of in
    never_unopened _ it.0 why it.1 it.3
taken_ending (opened start (serving service)) words a b m are of at not = let it =
    of_init m words (opened start (serving service)) are of in never_rounds _ it.0 Init it.1 it.3.command refl
taken_ending (opened start (onboarding o)) words a b m are of at not = let it = of_init m words (opened start (onboarding o)) are of in
    never_served _ it.0 Init Onboard it.1 it.3 (λ wrong. cc)
taken_ending (opened start counting) words a b m are of at not = let it = of_init m words (opened start counting) are of in
    never_served _ it.0 Init Check it.1 it.3 (λ wrong. cc)

-- where `init` did its work the file is made
pub made_ending : (course : Course) (words : List (List ℕ)) (a b : SiteState) (m : ℕ) → AreInit m words → IsOfWords words course
    → AtFile course a b
    → status_of (ending_of course) ≡ 0 → IsMade m b
made_ending misused words a b m are of at is = absurd (omega (arith, is))
made_ending starved words a b m are of at is = absurd (omega (arith, is))
made_ending (making number (Ok u)) words a b m are of at is =
    let same : number ≡ m = (let it = of_init m words (making number (Ok u)) are of in it.3.1 ∙ it.2) in
    subst (λ k. IsMade k b) same at.made
made_ending (making number (Err creating.Taken)) words a b m are of at is = absurd (omega (arith, is))
made_ending (making number (Err creating.Disk)) words a b m are of at is = absurd (omega (arith, is))
made_ending (migrating result) words a b m are of at is = let it = of_init m words (migrating result) are of in
    never_served _ it.0 Init Migrate it.1 it.3 (λ wrong. cc)
made_ending (trying result) words a b m are of at is = let it = of_init m words (trying result) are of in
    never_served _ it.0 Init Trial it.1 it.3.0 (λ wrong. cc)
made_ending (unopened why) words a b m are of at is = let it = of_init m words (unopened why) are of in never_unopened _ it.0 why it.1 it.3
made_ending (opened start (serving service)) words a b m are of at is = let it = of_init m words (opened start (serving service)) are of in
    never_rounds _ it.0 Init it.1 it.3.command refl
made_ending (opened start (onboarding o)) words a b m are of at is = let it = of_init m words (opened start (onboarding o)) are of in
    never_served _ it.0 Init Onboard it.1 it.3 (λ wrong. cc)
made_ending (opened start counting) words a b m are of at is = let it = of_init m words (opened start counting) are of in
    never_served _ it.0 Init Check it.1 it.3 (λ wrong. cc)

-- `init` ends with 0, 6 or 11, unless the disk failed
complete_init : (course : Course) (words : List (List ℕ)) (a b : SiteState) → AreWordsOf Init words → IsOfWords words course
    → (ending_of course ≡ Err SiteFault → ⊥) → MayEndWith Init (status_of (ending_of course))
complete_init misused words a b are of disk = commanded _ words are.settings are.set of
complete_init starved words a b are of disk = inr (inl refl)
complete_init (making number (Ok u)) words a b are of disk = inl refl
complete_init (making number (Err creating.Taken)) words a b are of disk = inr (inr refl)
complete_init (making number (Err creating.Disk)) words a b are of disk = absurd (disk refl)
complete_init (migrating result) words a b are of disk = let it = of_command Init words (migrating result) are of in
    never_served _ it.0 Init Migrate it.1 it.2 (λ wrong. cc)
complete_init (trying result) words a b are of disk = let it = of_command Init words (trying result) are of in
    never_served _ it.0 Init Trial it.1 it.2.0 (λ wrong. cc)
complete_init (unopened why) words a b are of disk = let it = of_command Init words (unopened why) are of in
    never_unopened _ it.0 why it.1 it.2
complete_init (opened start (serving service)) words a b are of disk = let it =
    of_command Init words (opened start (serving service)) are of in never_rounds _ it.0 Init it.1 it.2.command refl
complete_init (opened start (onboarding o)) words a b are of disk = let it = of_command Init words (opened start (onboarding o)) are of in
    never_served _ it.0 Init Onboard it.1 it.2 (λ wrong. cc)
complete_init (opened start counting) words a b are of disk = let it = of_command Init words (opened start counting) are of in
    never_served _ it.0 Init Check it.1 it.2 (λ wrong. cc)

-- rounds do their work, or find the journal full or no memory, unless the disk or the door failed or a record is bad
rounds_done : (rounds : ℕ) (close : Close) → (close_ending rounds close ≡ Err SiteFault → ⊥)
    → (close_ending rounds close ≡ Err DoorFault → ⊥) → ((n : ℕ) → close_ending rounds close ≡ Err (BadRecord n) → ⊥)
    → MayEndWith Once (status_of (close_ending rounds close))
rounds_done rounds finished disk door good = inl refl
rounds_done rounds unreached disk door good = absurd (door refl)
rounds_done rounds (stopped came talk) disk door good = absurd (disk refl)
rounds_done rounds (halted visit turn end (full e more)) disk door good = inr (inr refl)
rounds_done rounds (halted visit turn end starving) disk door good = inr (inl refl)
rounds_done rounds (halted visit turn end broken) disk door good = absurd (disk refl)
rounds_done rounds (halted visit turn end (amiss n)) disk door good = absurd (good n refl)
rounds_done rounds (undelivered visit turn ps end (full e more)) disk door good = inr (inr refl)
rounds_done rounds (undelivered visit turn ps end starving) disk door good = inr (inl refl)
rounds_done rounds (undelivered visit turn ps end broken) disk door good = absurd (disk refl)
rounds_done rounds (undelivered visit turn ps end (amiss n)) disk door good = absurd (good n refl)

-- the words of two commands are words of one
same_command : (words : List (List ℕ)) (c d : Command) → AreWordsOf c words → AreWordsOf d words → c ≡ d
same_command words c d are other = sym are.is ∙ ap (λ (s : Settings). s.command)
    (set_once words are.settings other.settings are.set other.set) ∙ other.is

-- words of another command than this aren't its words
pub not_words : (command this : Command) (words : List (List ℕ)) → (command ≡ this → ⊥) → AreWordsOf command words → AreWordsOf this words → ⊥
not_words command this words other are also = other (same_command words command this are also)

-- words of a command that makes no rounds make none
pub not_serving : (command : Command) (words : List (List ℕ)) → makes_rounds command ≡ false → AreWordsOf command words → AreServing words → ⊥
not_serving command words none are serves =
    let same : makes_rounds command ≡ true = ap makes_rounds (sym are.is)
    ∙ ap (λ (s : Settings). makes_rounds s.command) (set_once words are.settings serves.settings are.set serves.set) ∙ serves.serving in
    false≢true (sym none ∙ same)

-- why the door failed for the command of these words
pub door_cause : (command : Command) (words : List (List ℕ)) (failed : Type 0) (a b : DoorCounts) → AreWordsOf command words
    → FailsAtDoor words failed a b → failed → IsDoorCause command a b
door_cause Init words failed a b are fails is = ⊎_elim
    (λ (next : b.next ≡ one_more a.next). one_fault a.next b.next next)
    (λ (on : AreWordsOf Onboard words × (b.next ≡ a.next)). let same = same_command words Init Onboard are on.0 in cc)
    (fails.rose is)
door_cause Onboard words failed a b are fails is =
    inr (one_fault a.faults b.faults ((fails.faults (not_serving Onboard words refl are)).0 is))
door_cause Once words failed a b are fails is = ⊎_elim
    (λ (next : b.next ≡ one_more a.next). one_fault a.next b.next next)
    (λ (on : AreWordsOf Onboard words × (b.next ≡ a.next)). let same = same_command words Once Onboard are on.0 in cc)
    (fails.rose is)
door_cause Serve words failed a b are fails is = ⊎_elim
    (λ (next : b.next ≡ one_more a.next). one_fault a.next b.next next)
    (λ (on : AreWordsOf Onboard words × (b.next ≡ a.next)). let same = same_command words Serve Onboard are on.0 in cc)
    (fails.rose is)
door_cause Check words failed a b are fails is = ⊎_elim
    (λ (on : AreWordsOf Onboard words). let same = same_command words Check Onboard are on in cc)
    (not_serving Check words refl are)
    (fails.asked is)
door_cause Migrate words failed a b are fails is = ⊎_elim
    (λ (on : AreWordsOf Onboard words). let same = same_command words Migrate Onboard are on in cc)
    (not_serving Migrate words refl are)
    (fails.asked is)
door_cause Trial words failed a b are fails is = ⊎_elim
    (λ (on : AreWordsOf Onboard words). let same = same_command words Trial Onboard are on in cc)
    (not_serving Trial words refl are)
    (fails.asked is)

-- what is known of files
module _ (whole_unmade : IsWholeOrUnmade) (whole_foreign : IsWholeOrForeign) (headed : IsHeadedOrNot) (no_bad : HasNoBadRecord) where
  -- a whole file is a journal
  whole_journal : (m : ℕ) (rs : List (List ℕ)) (image : List ℕ) → HasRecords m rs image → IsNoJournal image → ⊥
  whole_journal m rs image has none = ⊎_elim
      (λ (unmade : IsUnmade image). whole_unmade m rs image has unmade)
      (λ (foreign : (place : ℕ) × IsForeign place image). whole_foreign m foreign.0 rs image has foreign.1)
      none

  -- a file with a bad record is a journal
  bad_journal : (n : ℕ) (image : List ℕ) → IsBadRecord n image → IsNoJournal image → ⊥
  bad_journal n image bad none = ⊎_elim
      (λ (unmade : IsUnmade image). (headed bad.0 image bad.1).0 unmade)
      (λ (foreign : (place : ℕ) × IsForeign place image). (headed bad.0 image bad.1).1 foreign.0 foreign.1)
      none

  -- a file that is no journal is told so
  pub no_journal_ending : (course : Course) (words : List (List ℕ)) (a b : SiteState) → AreLoading words → IsOfWords words course
      → AtFile course a b → IsNoJournal a.image
      → IsOrYields 5 (status_of (ending_of course))
  no_journal_ending misused words a b are of at none = commanded _ words are.settings are.set of
  no_journal_ending starved words a b are of at none = inr (inr refl)
  no_journal_ending (making number result) words a b are of at none = not_making _ words number result are of
  no_journal_ending (migrating result) words a b are of at none = not_migrating _ words result are of
  no_journal_ending (trying result) words a b are of at none = not_trying _ words result are of
  no_journal_ending (unopened opening.Unmade) words a b are of at none = inl refl
  no_journal_ending (unopened (opening.Foreign place)) words a b are of at none = inl refl
  no_journal_ending (unopened (opening.BadRecord n)) words a b are of at none = absurd (bad_journal n a.image at.because none)
  no_journal_ending (unopened opening.Disk) words a b are of at none = inr (inl refl)
  no_journal_ending (unopened opening.Memory) words a b are of at none = inr (inr refl)
  no_journal_ending (opened start activity) words a b are of at none = absurd (whole_journal start.number _ a.image at.found.file none)

  -- a bad record is told so
  pub bad_record_ending : (course : Course) (words : List (List ℕ)) (a b : SiteState) (n : ℕ) → AreLoading words → IsOfWords words course
      → IsLegalCourse course → AtFile course a b
      → IsBadRecord n a.image → IsOrYields 8 (status_of (ending_of course))
  bad_record_ending misused words a b n are of legal at bad = commanded _ words are.settings are.set of
  bad_record_ending starved words a b n are of legal at bad = inr (inr refl)
  bad_record_ending (making number result) words a b n are of legal at bad = not_making _ words number result are of
  bad_record_ending (migrating result) words a b n are of legal at bad = not_migrating _ words result are of
  bad_record_ending (trying result) words a b n are of legal at bad = not_trying _ words result are of
  bad_record_ending (unopened opening.Unmade) words a b n are of legal at bad = absurd (bad_journal n a.image bad (inl at.because))
  bad_record_ending (unopened (opening.Foreign place)) words a b n are of legal at bad =
      absurd (bad_journal n a.image bad (inr (place, at.because)))
  bad_record_ending (unopened (opening.BadRecord k)) words a b n are of legal at bad = inl refl
  bad_record_ending (unopened opening.Disk) words a b n are of legal at bad = inr (inl refl)
  bad_record_ending (unopened opening.Memory) words a b n are of legal at bad = inr (inr refl)
  bad_record_ending (opened start activity) words a b n are of legal at bad =
      absurd (no_bad start.number n start.history a.image legal.number at.found legal.before bad)

  -- a sound start is opened, unless the disk failed or there was no memory
  sound_unopened : (why : OpenFault) (m : ℕ) (H : List Event) (a b : SiteState) → IsSoundStart m H a → AtFile (unopened why) a b
      → (ending_of (unopened why) ≡ Err SiteFault → ⊥) → failure_status (unopened_failure why) ≡ 6
  sound_unopened opening.Unmade m H a b sound at disk = absurd (whole_journal m _ a.image sound.start.file.file (inl at.because))
  sound_unopened (opening.Foreign place) m H a b sound at disk = absurd
      (whole_journal m _ a.image sound.start.file.file (inr (place, at.because)))
  sound_unopened (opening.BadRecord n) m H a b sound at disk =
      absurd (no_bad m n H a.image sound.start.number sound.start.file sound.legal at.because)
  sound_unopened opening.Disk m H a b sound at disk = absurd (disk refl)
  sound_unopened opening.Memory m H a b sound at disk = refl

  -- `onboard` ends with 0, 6, 9 or 10 from a sound start, unless the disk or the door failed
  complete_onboard : (course : Course) (words : List (List ℕ)) (a b : SiteState) (m : ℕ) (H : List Event) → AreWordsOf Onboard words
      → IsSoundStart m H a → IsOfWords words course
      → AtFile course a b → (ending_of course ≡ Err SiteFault → ⊥) → (ending_of course ≡ Err DoorFault → ⊥)
      → MayEndWith Onboard (status_of (ending_of course))
  complete_onboard misused words a b m H are sound of at disk door = commanded _ words are.settings are.set of
  complete_onboard starved words a b m H are sound of at disk door = inr (inl refl)
  complete_onboard (making number result) words a b m H are sound of at disk door = let it =
      of_command Onboard words (making number result) are of in never_served _ it.0 Onboard Init it.1 it.2.0 (λ wrong. cc)
  complete_onboard (migrating result) words a b m H are sound of at disk door = let it =
      of_command Onboard words (migrating result) are of in never_served _ it.0 Onboard Migrate it.1 it.2 (λ wrong. cc)
  complete_onboard (trying result) words a b m H are sound of at disk door = let it =
      of_command Onboard words (trying result) are of in never_served _ it.0 Onboard Trial it.1 it.2.0 (λ wrong. cc)
  complete_onboard (unopened why) words a b m H are sound of at disk door = inr (inl (sound_unopened why m H a b sound at disk))
  complete_onboard (opened start (serving service)) words a b m H are sound of at disk door = let it =
      of_command Onboard words (opened start (serving service)) are of in never_rounds _ it.0 Onboard it.1 it.2.command refl
  complete_onboard (opened start (onboarding unready)) words a b m H are sound of at disk door = inr (inl refl)
  complete_onboard (opened start (onboarding unheard)) words a b m H are sound of at disk door = absurd (door refl)
  complete_onboard (opened start (onboarding (cut_off bytes))) words a b m H are sound of at disk door = absurd (door refl)
  complete_onboard (opened start (onboarding (heard bytes now done))) words a b m H are sound of at disk door =
      verdict_status (verdict start.saved start.history now bytes)
  complete_onboard (opened start (onboarding (heard bytes now breaking))) words a b m H are sound of at disk door = absurd (disk refl)
  complete_onboard (opened start (onboarding (heard bytes now no_memory))) words a b m H are sound of at disk door = inr (inl refl)
  complete_onboard (opened start counting) words a b m H are sound of at disk door = let it =
      of_command Onboard words (opened start counting) are of in never_served _ it.0 Onboard Check it.1 it.2 (λ wrong. cc)

  -- a command that makes rounds ends with 0, 6 or 9 from a sound start, unless the disk or the door failed
  complete_rounds : (tells : Type 0) → tells → (command : Command) → makes_rounds command ≡ true → (course : Course)
      (words : List (List ℕ)) (a b : SiteState) (m : ℕ) (H : List Event) → AreWordsOf command words
      → IsSoundStart m H a → IsOfWords words course
      → AtFile course a b → (ending_of course ≡ Err SiteFault → ⊥) → (ending_of course ≡ Err DoorFault → ⊥)
      → EndsGood tells course
      → MayEndWith Once (status_of (ending_of course))
  complete_rounds tells told command rounds misused words a b m H are sound of at disk door good = commanded _ words are.settings are.set of
  complete_rounds tells told command rounds starved words a b m H are sound of at disk door good = inr (inl refl)
  complete_rounds tells told command rounds (making number result) words a b m H are sound of at disk door good = let it =
      of_command command words (making number result) are of in never_rounds _ it.0 Init it.2.0 (ap makes_rounds it.1 ∙ rounds) refl
  complete_rounds tells told command rounds (migrating result) words a b m H are sound of at disk door good = let it =
      of_command command words (migrating result) are of in never_rounds _ it.0 Migrate it.2 (ap makes_rounds it.1 ∙ rounds) refl
  complete_rounds tells told command rounds (trying result) words a b m H are sound of at disk door good = let it =
      of_command command words (trying result) are of in never_rounds _ it.0 Trial it.2.0 (ap makes_rounds it.1 ∙ rounds) refl
  complete_rounds tells told command rounds (unopened why) words a b m H are sound of at disk door good =
      inr (inl (sound_unopened why m H a b sound at disk))
  complete_rounds tells told command rounds (opened start (serving service)) words a b m H are sound of at disk door good =
      rounds_done _ service.close disk door (λ n is. good n told is)
  complete_rounds tells told command rounds (opened start (onboarding o)) words a b m H are sound of at disk door good = let it =
      of_command command words (opened start (onboarding o)) are of in
      never_rounds _ it.0 Onboard it.2 (ap makes_rounds it.1 ∙ rounds) refl
  complete_rounds tells told command rounds (opened start counting) words a b m H are sound of at disk door good = let it =
      of_command command words (opened start counting) are of in never_rounds _ it.0 Check it.2 (ap makes_rounds it.1 ∙ rounds) refl

  -- `check` ends with 0 or 6 from a sound start, unless the disk failed
  complete_check : (course : Course) (words : List (List ℕ)) (a b : SiteState) (m : ℕ) (H : List Event) → AreWordsOf Check words
      → IsSoundStart m H a → IsOfWords words course
      → AtFile course a b → (ending_of course ≡ Err SiteFault → ⊥) → MayEndWith Check (status_of (ending_of course))
  complete_check misused words a b m H are sound of at disk = commanded _ words are.settings are.set of
  complete_check starved words a b m H are sound of at disk = inr refl
  complete_check (making number result) words a b m H are sound of at disk = let it =
      of_command Check words (making number result) are of in never_served _ it.0 Check Init it.1 it.2.0 (λ wrong. cc)
  complete_check (migrating result) words a b m H are sound of at disk = let it =
      of_command Check words (migrating result) are of in never_served _ it.0 Check Migrate it.1 it.2 (λ wrong. cc)
  complete_check (trying result) words a b m H are sound of at disk = let it =
      of_command Check words (trying result) are of in never_served _ it.0 Check Trial it.1 it.2.0 (λ wrong. cc)
  complete_check (unopened why) words a b m H are sound of at disk = inr (sound_unopened why m H a b sound at disk)
  complete_check (opened start (serving service)) words a b m H are sound of at disk = let it =
      of_command Check words (opened start (serving service)) are of in never_rounds _ it.0 Check it.1 it.2.command refl
  complete_check (opened start (onboarding o)) words a b m H are sound of at disk = let it =
      of_command Check words (opened start (onboarding o)) are of in never_served _ it.0 Check Onboard it.1 it.2 (λ wrong. cc)
  complete_check (opened start counting) words a b m H are sound of at disk = inl refl

  -- from a sound start a command but `migrate` and `trial` does its work or is refused, unless a call failed or there was
  -- no memory
  pub complete_ending : (tells : Type 0) → tells → (command : Command) (course : Course) (words : List (List ℕ)) (a b : SiteState)
      → (command ≡ Migrate → ⊥) → (command ≡ Trial → ⊥) → AreWordsOf command words
      → IsStartOf command a → IsOfWords words course
      → AtFile course a b → (ending_of course ≡ Err SiteFault → ⊥) → (ending_of course ≡ Err DoorFault → ⊥) → EndsGood tells course
      → MayEndWith command (status_of (ending_of course))
  complete_ending tells told Init course words a b other another are start of at disk door good = complete_init course words a b are of disk
  complete_ending tells told Onboard course words a b other another are start of at disk door good =
      complete_onboard course words a b start.0 start.1 are start.2 of at disk door
  complete_ending tells told Once course words a b other another are start of at disk door good =
      complete_rounds tells told Once refl course words a b start.0 start.1 are start.2 of at disk door good
  complete_ending tells told Serve course words a b other another are start of at disk door good =
      complete_rounds tells told Serve refl course words a b start.0 start.1 are start.2 of at disk door good
  complete_ending tells told Check course words a b other another are start of at disk door good =
      complete_check course words a b start.0 start.1 are start.2 of at disk
  complete_ending tells told Migrate course words a b other another are start of at disk door good = absurd (other refl)
  complete_ending tells told Trial course words a b other another are start of at disk door good = absurd (another refl)
