-- What a stop leaves of a run, from what the run does to the site.
use Rattle.std.proofs.Common.{◌≡◌, ◌∙◌, ◌<◌, ◌⊎◌, ℕ, List, [], ◌∷◌, Result, inl, inr, subst, sym, refl, arith, ⊎_elim}
use Rattle.command_line.specs.declared.options.Command.TheVariants.{Check, Init, Migrate, Onboard}
use Rattle.executor.specs.Chain.{AreTold, StaysSince}
use Rattle.executor.specs.History.{HasHistory, spellings}
use Rattle.executor.specs.Laws.{HasOneHistory}
use Rattle.executor.specs.Work.{Extends, HasSomeSound, StaysSound, Work, aimed}
use Rattle.journal_core.specs.Create.{Creates, IsMade, IsMaking}
use Rattle.journal_core.specs.Header.{IsUnfinished}
use Rattle.journal_core.specs.Exclusion.{IsWholeOrUnmade}
use Rattle.journal_core.specs.Load.{SyncsAndReads}
use Rattle.journal_records.specs.File.{HasRecords}
use Rattle.journal_core.specs.declared.create.CreateFault.{CreateFault}
use Rattle.lcm_events.specs.declared.events.Event.{Event}
use Rattle.lcm_jobs.specs.Keeping.{JobsMayEnd}
use Rattle.lcm_jobs.specs.Sound.{IsSound}
use Rattle.lcm_model.specs.Work.{window}
use Rattle.site_traits.specs.Jobs.{Advances, Job}
use Rattle.site_traits.specs.Moments.{goes_on, joined, started, weakened}
use Rattle.site_traits.specs.Site.{FileStep, HasItsJobs, KeepsJobs, LeavesOnly, Pair, Same, SiteState}
use Rattle.vnfm_commands.specs.Course.{Course, misused, starved, making, migrating, trying, unopened, opened, serving, onboarding, counting}
use Rattle.vnfm_commands.specs.Course.{activity_work}
use Rattle.vnfm_commands.specs.Course.{told_by, told_of, IsOfWords}
use Rattle.vnfm_cli.specs.Headline.{AreStanding, IsFresh, IsFreshPair, IsLeftWith, IsSoundBeginning, IsSoundPair, SoundJobsMakeSoundPairs}
use Rattle.vnfm_cli.specs.Headline.{StandsSince}
use Rattle.vnfm_commands.specs.Runs.{AtFile, AtJobs, IsLegalCourse, IsUntouched, Recovers, ToldIn}
use Rattle.vnfm_commands.specs.Words.{AreInit}
use Rattle.vnfm_cli.proofs.ExactLemmas.{commanded, never_rounds, never_served, never_unopened, of_init}

-- a site that wasn't called leaves what it left
pub untouched_leaves : (P : Pair → Type 0) (a b : SiteState) → IsUntouched a b → ((p : Pair) → a.since a.moment p → P p) → LeavesOnly P a b
untouched_leaves P a b same here =
    let moment = same.moment in
    record {
      later = omega (arith, moment);
      each = λ p left. here p (same.since a.moment p left);
      before = λ t p le left. inl (same.since t p left);
    }

-- what is known of files, of jobs and of sound pairs
module _ (whole : IsWholeOrUnmade) (once : HasOneHistory) (may_end : JobsMayEnd) (pairs : SoundJobsMakeSoundPairs) where
  -- whatever a stop leaves at a sound beginning is sound
  begins : (m : ℕ) (H : List Event) (s : SiteState) → IsSoundBeginning m H s → (p : Pair) → s.since s.moment p → IsSoundPair m H p
  begins m H s start p left =
      pairs m H H p start.start.start.number (record { more = []; is = refl }) (start.start.start.left p left)
      (subst (λ (js : List Job). IsSound m H js) (sym (s.stay p left)) start.sound)

  -- and so it is while that is synced and read
  reads_leave : (m : ℕ) (H : List Event) (a b : SiteState) → IsSoundBeginning m H a → SyncsAndReads a b → LeavesOnly (IsSoundPair m H) a b
  reads_leave m H a b start reads =
      goes_on (IsSoundPair m H) (FileStep Same) a a b (started (IsSoundPair m H) a (begins m H a start)) reads.on_file.passes
      (λ q p left step.
      let was = begins m H a start q left in
      pairs m H was.history p was.number was.kept (subst (λ (image : List ℕ). HasHistory m was.history image) (sym step.image) was.file)
      (may_end window m was.history q.jobs p.jobs was.sound step.jobs))

  -- what was opened is what the beginning has, and so is its number
  recovers_it : (m n : ℕ) (H G : List Event) (w : Work) (a b : SiteState) → n < 4294967296 → Recovers n G w a b → IsSoundBeginning m H a
      → (m ≡ n) × Recovers m H w a b
  recovers_it m n H G w a b small found start =
      let same = once m n H G a.image start.start.start.number small start.start.start.file found.found in
      let number : Recovers m G w a b = subst (λ (k : ℕ). Recovers k G w a b) (sym same.0) found in
      (same.0, subst (λ (K : List Event). Recovers m K w a b) (sym same.1) number)

  -- and the work behind it leaves sound pairs
  recovery_leaves : (m n : ℕ) (H G : List Event) (w : Work) (a b : SiteState) → n < 4294967296 → Recovers n G w a b → IsSoundBeginning m H a
      → LeavesOnly (IsSoundPair m H) a b
  recovery_leaves m n H G w a b small found start =
      weakened (IsSoundPair m H) (HasSomeSound m H (aimed w)) a b
      ((recovers_it m n H G w a b small found start).1.sound start.start.start start.sound).any_moment
      (λ p some. pairs m H some.history p start.start.start.number some.from some.file some.sound)

  -- of what was told of, a stop since leaves sound pairs
  stands_since : (m : ℕ) (H G : List Event) (moment : ℕ) (w : Work) (a b : SiteState) → m < 4294967296 → StaysSound m H w a b
      → StaysSince m G moment a b → StandsSince m G moment a b
  stands_since m H G moment w a b small sound stays = record {
    behind = stays.behind;
    before = stays.before;
    left = λ p left.
        let has = stays.left p left in
        let some = sound.any_moment.each p (b.earlier a.moment moment p stays.behind left) in
        let same = once m m some.history has.history p.image small small some.file has.file in
        pairs m G has.history p small has.from has.file (subst (λ (K : List Event). IsSound m K p.jobs) same.1 some.sound);
  }

  are_standing : (tells : Type 0) (m : ℕ) (H : List Event) (histories : List (List Event)) (before now : List ℕ) (w : Work)
      (a b : SiteState) → tells → m < 4294967296
      → StaysSound m H w a b → AreTold tells m histories before now a b → AreStanding m histories before now a b
  are_standing tells m H [] before now w a b told small sound are = are
  are_standing tells m H (G ∷ earlier) before now w a b told small sound are = (
    are.0,
    are.1,
    are.2,
    stands_since m H G are.0 w a b small sound (are.3 told),
    are_standing tells m H earlier before are.1 w a b told small sound are.4,
  )

  -- all that was acknowledged stands since
  pub acknowledged : (tells : Type 0) → tells → (course : Course) (before now : List ℕ) (a b : SiteState) → AtFile course a b
      → IsLegalCourse course
      → ToldIn tells course before now a b → (m : ℕ) (H : List Event) → IsSoundBeginning m H a
      → AreStanding m (told_of course) before now a b
  acknowledged tells told misused before now a b at legal are m H start = are
  acknowledged tells told starved before now a b at legal are m H start = are
  acknowledged tells told (making number result) before now a b at legal are m H start = are
  acknowledged tells told (migrating result) before now a b at legal are m H start = are
  acknowledged tells told (trying result) before now a b at legal are m H start = are
  acknowledged tells told (unopened why) before now a b at legal are m H start = are
  acknowledged tells told (opened begun activity) before now a b at legal are m H start =
      let w : Work = activity_work begun.number begun.saved begun.history activity in
      let histories : List (List Event) = told_by begun.number begun.saved begun.history activity in
      let it = recovers_it m begun.number H begun.history w a b legal.number at start in
      are_standing tells m H histories before now w a b told start.start.start.number (it.1.sound start.start.start start.sound)
      (subst (λ (k : ℕ). AreTold tells k histories before now a b) (sym it.0) are)

  -- from a sound beginning a stop leaves sound pairs, whatever the run
  pub leaves_sound : (course : Course) (a b : SiteState) → AtFile course a b → IsLegalCourse course → (m : ℕ) (H : List Event)
      → IsSoundBeginning m H a
      → LeavesOnly (IsSoundPair m H) a b
  leaves_sound misused a b at legal m H start = untouched_leaves (IsSoundPair m H) a b at (begins m H a start)
  leaves_sound starved a b at legal m H start = untouched_leaves (IsSoundPair m H) a b at (begins m H a start)
  leaves_sound (making number result) a b at legal m H start =
      reads_leave m H a b start (at.kept (λ unfinished. whole m (spellings H) a.image start.start.start.file.file (number, unfinished))).0
  leaves_sound (migrating result) a b at legal m H start = reads_leave m H a b start at
  leaves_sound (trying result) a b at legal m H start = untouched_leaves (IsSoundPair m H) a b at (begins m H a start)
  leaves_sound (unopened why) a b at legal m H start = reads_leave m H a b start at.reads
  leaves_sound (opened begun activity) a b at legal m H start =
      recovery_leaves m begun.number H begun.history (activity_work begun.number begun.saved begun.history activity) a b legal.number at start

-- no job goes on as none
no_job : (js : List Job) → Advances [] js → js ≡ []
no_job [] on = refl
no_job (j ∷ js) on = absurd on

-- whatever a stop leaves of a fresh site is fresh
fresh_pair : (m : ℕ) (s : SiteState) → IsFresh m s → (p : Pair) → s.since s.moment p → IsFreshPair m p
fresh_pair m s fresh p left = record { file = record { file = inl (fresh.file.each p left) }; jobless = s.stay p left ∙ fresh.jobless }

-- and so it is while its journal is made
making_leaves : (m : ℕ) (result : Result (Unit {0}) CreateFault) (a b : SiteState) → Creates m result a b → KeepsJobs a b → IsFresh m a
    → LeavesOnly (IsFreshPair m) a b
making_leaves m result a b creates alone fresh =
    weakened (IsFreshPair m) (λ p. IsMaking m p × HasItsJobs a p) a b
    (joined (IsMaking m) (HasItsJobs a) a b (creates.any_moment fresh.file) alone.any_moment)
    (λ p both. record { file = both.0; jobless = no_job p.jobs (subst (λ (js : List Job). Advances js p.jobs) fresh.jobless both.1.jobs) })

-- from a fresh site `init` leaves fresh pairs
pub leaves_fresh : (course : Course) (words : List (List ℕ)) (a b : SiteState) → IsOfWords words course → AtFile course a b
    → AtJobs course a b → (m : ℕ) → AreInit m words → IsFresh m a
    → LeavesOnly (IsFreshPair m) a b
leaves_fresh misused words a b of at jobs m are fresh = commanded _ words are.settings are.set of
leaves_fresh starved words a b of at jobs m are fresh = untouched_leaves (IsFreshPair m) a b at (fresh_pair m a fresh)
leaves_fresh (making number result) words a b of at jobs m are fresh =
    let same : number ≡ m = (let it = of_init m words (making number result) are of in it.3.1 ∙ it.2) in
    making_leaves m result a b (subst (λ (k : ℕ). Creates k result a b) same at) jobs fresh
leaves_fresh (migrating result) words a b of at jobs m are fresh = let it = of_init m words (migrating result) are of in
    never_served _ it.0 Init Migrate it.1 it.3 (λ wrong. cc)
leaves_fresh (trying result) words a b of at jobs m are fresh = untouched_leaves (IsFreshPair m) a b at (fresh_pair m a fresh)
leaves_fresh (unopened why) words a b of at jobs m are fresh = let it = of_init m words (unopened why) are of in
    never_unopened _ it.0 why it.1 it.3
leaves_fresh (opened start (serving service)) words a b of at jobs m are fresh = let it =
    of_init m words (opened start (serving service)) are of in never_rounds _ it.0 Init it.1 it.3.command refl
leaves_fresh (opened start (onboarding o)) words a b of at jobs m are fresh = let it =
    of_init m words (opened start (onboarding o)) are of in never_served _ it.0 Init Onboard it.1 it.3 (λ wrong. cc)
leaves_fresh (opened start counting) words a b of at jobs m are fresh = let it = of_init m words (opened start counting) are of in
    never_served _ it.0 Init Check it.1 it.3 (λ wrong. cc)

-- a life goes on from what a stop left
pub life_goes_on : JobsMayEnd → (m : ℕ) (H : List Event) (p : Pair) (s : SiteState) → IsSoundPair m H p → IsLeftWith p s
    → (K : List Event) × Extends H K × IsSoundBeginning m K s
life_goes_on may_end m H p s sound left =
    let P : List ℕ → Type 0 = λ image. HasHistory m sound.history image in
    let here : HasHistory m sound.history s.image = subst P (sym left.file) sound.file in (
      sound.history,
      sound.kept,
      record {
        start = record {
          start = record { number = sound.number; file = here; left = λ q now. subst P (sym (left.settled.image q now)) here };
          legal = sound.sound.legal;
        };
        sound = may_end window m sound.history p.jobs s.jobs sound.sound left.jobs;
      },
    )

-- a journal that was just made is sound without a job
pub made_begins : (m : ℕ) (s : SiteState) → m < 4294967296 → IsMade m s → s.jobs ≡ [] → IsSoundBeginning m [] s
made_begins m s small made none =
    let here : HasHistory m [] s.image = record { file = made.file; events = tt } in
    record {
      start = record {
        start = record {
          number = small;
          file = here;
          left = λ q now.
              subst (λ (image : List ℕ). HasHistory m [] image) (sym (made.settled.image q now)) here;
        };
        legal = tt;
      };
      sound = subst (λ (js : List Job). IsSound m [] js) (sym none) (record { legal = tt; begun = tt; ended = λ x is. absurd is });
    }

-- what a stopped `init` leaves is a fresh start of it, or a sound beginning without an event
pub init_goes_on : (m : ℕ) (p : Pair) (s : SiteState) → m < 4294967296 → IsFreshPair m p → IsLeftWith p s
    → IsFresh m s ⊎ IsSoundBeginning m [] s
init_goes_on m p s small fresh left =
    let none : s.jobs ≡ [] = no_job s.jobs (subst (λ (js : List Job). Advances js s.jobs) fresh.jobless left.jobs) in
    ⊎_elim
    (λ (unfinished : IsUnfinished m p.image).
    let here : IsUnfinished m s.image = subst (λ (image : List ℕ). IsUnfinished m image) (sym left.file) unfinished in
    inl (record {
      file = record { each = λ q now. subst (λ (image : List ℕ). IsUnfinished m image) (sym (left.settled.image q now)) here };
      jobless = none;
    }))
    (λ (made : HasRecords m [] p.image).
    inr (made_begins m s small (record {
      settled = left.settled;
      file =
          subst (λ (image : List ℕ). HasRecords m [] image) (sym left.file) made;
    }) none))
    fresh.file.file
