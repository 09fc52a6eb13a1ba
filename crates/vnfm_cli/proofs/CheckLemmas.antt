-- What `check` leaves, and what its line tells.
use Rattle.std.proofs.Common.{◌≡◌, ◌∙◌, ◌<◌, ◌++◌, ⊎_elim, inl, inr, ℕ, List, Bool, ap, refl, sym, subst, arith, if◌then◌else◌}
use Rattle.command_line.specs.declared.options.Command.TheVariants.{Check, Init, Migrate, Onboard, Trial}
use Rattle.executor.specs.History.{HasHistory}
use Rattle.executor.specs.Laws.{HasOneHistory}
use Rattle.journal_core.specs.Load.{SyncsAndReads}
use Rattle.lcm_events.specs.declared.events.Event.{Event}
use Rattle.site_traits.specs.Advancing.{advances-refl}
use Rattle.site_traits.specs.Site.{KeepsJobs, Pair, SiteState}
use Rattle.vnfm_commands.specs.Course.{Course, misused, starved, making, migrating, trying, unopened, opened, serving, onboarding, counting, IsOfWords}
use Rattle.vnfm_commands.specs.Course.{ending_of, unopened_failure}
use Rattle.vnfm_commands.specs.Ending.{Ends, Output, totals_line}
use Rattle.vnfm_commands.specs.Runs.{AtCount, AtFile, AtJobs, IsLegalCourse, IsUntouched}
use Rattle.vnfm_commands.specs.Totals.{totals_of}
use Rattle.vnfm_commands.specs.Words.{AreWordsOf}
use Rattle.vnfm_commands.specs.declared.ending.Failure.TheVariants.{NoMemory}
use Rattle.vnfm_cli.specs.Promises.{IsLeftAlone, MightBeLeft}
use Rattle.vnfm_cli.proofs.EndingLemmas.{done_put, never_done}
use Rattle.vnfm_cli.proofs.ExactLemmas.{commanded, never_rounds, never_served, of_command}

-- what a stop left it might leave
left_before : (a : SiteState) (p : Pair) → a.since a.moment p → MightBeLeft a p
left_before a p was = record { before = p; was = was; step = record { image = refl; jobs = advances-refl p.jobs } }

-- a site that wasn't called was left alone
pub untouched_alone : (a b : SiteState) → IsUntouched a b → KeepsJobs a b → IsLeftAlone a b
untouched_alone a b same jobs =
    let moment = same.moment in
    record {
      image = same.image;
      answers = jobs.answers;
      left = record {
        later = omega (arith, moment);
        each = λ p left. left_before a p (same.since a.moment p left);
        before = λ t p le left. inl (same.since t p left);
      };
    }

-- and so was one that was synced and read
pub read_alone : (a b : SiteState) → SyncsAndReads a b → IsLeftAlone a b
read_alone a b reads =
    let passes = reads.on_file.passes in
    let each : (p : Pair) → b.since a.moment p → MightBeLeft a p = λ p left.
    let come = passes.during p left in record { before = come.0; was = come.1; step = come.2 } in
    record {
      image = reads.same;
      answers = reads.on_file.answers;
      left = record {
        later = passes.later;
        each = each;
        before = λ t p le left. ⊎_elim
            (λ (was : a.since t p). inl was)
            (λ (now : b.since a.moment p). inr (each p now))
            (passes.nothing_else t p le left);
      };
    }

-- `check` leaves the site alone
pub left_alone : (course : Course) (words : List (List ℕ)) (a b : SiteState) → AreWordsOf Check words → IsOfWords words course
    → AtFile course a b → AtJobs course a b → AtCount course a b → IsLeftAlone a b
left_alone misused words a b are of at jobs counted = commanded _ words are.settings are.set of
left_alone starved words a b are of at jobs counted = untouched_alone a b at jobs
left_alone (making number result) words a b are of at jobs counted = let it =
    of_command Check words (making number result) are of in never_served _ it.0 Check Init it.1 it.2.0 (λ wrong. cc)
left_alone (migrating result) words a b are of at jobs counted = read_alone a b at
left_alone (trying result) words a b are of at jobs counted = untouched_alone a b at jobs
left_alone (unopened why) words a b are of at jobs counted = read_alone a b at.reads
left_alone (opened start (serving service)) words a b are of at jobs counted = let it =
    of_command Check words (opened start (serving service)) are of in never_rounds _ it.0 Check it.1 it.2.command refl
left_alone (opened start (onboarding o)) words a b are of at jobs counted = let it =
    of_command Check words (opened start (onboarding o)) are of in never_served _ it.0 Check Onboard it.1 it.2 (λ wrong. cc)
left_alone (opened start counting) words a b are of at jobs counted = read_alone a b counted

-- where `check` ends with 0, its line has the totals of the file's history
pub told_totals : HasOneHistory → (lines : Type 0) → lines → (course : Course) (words : List (List ℕ)) (status m : ℕ) (H : List Event)
    (a b : SiteState) (c d : Output)
    → AreWordsOf Check words → IsOfWords words course → AtFile course a b → IsLegalCourse course → Ends lines (ending_of course) status c d
    → status ≡ 0 → m < 4294967296 → HasHistory m H a.image → d.bytes ≡ c.bytes ++ totals_line (totals_of H)
told_totals once lines told misused words status m H a b c d are of at legal ends done small has =
    commanded _ words are.settings are.set of
told_totals once lines told starved words status m H a b c d are of at legal ends done small has =
    absurd (never_done ends.put NoMemory (sym ends.status_is ∙ done))
told_totals once lines told (making number result) words status m H a b c d are of at legal ends done small has = let it =
    of_command Check words (making number result) are of in never_served _ it.0 Check Init it.1 it.2.0 (λ wrong. cc)
told_totals once lines told (migrating result) words status m H a b c d are of at legal ends done small has = let it =
    of_command Check words (migrating result) are of in never_served _ it.0 Check Migrate it.1 it.2 (λ wrong. cc)
told_totals once lines told (trying result) words status m H a b c d are of at legal ends done small has = let it =
    of_command Check words (trying result) are of in never_served _ it.0 Check Trial it.1 it.2.0 (λ wrong. cc)
told_totals once lines told (unopened why) words status m H a b c d are of at legal ends done small has =
    absurd (never_done ends.put (unopened_failure why) (sym ends.status_is ∙ done))
told_totals once lines told (opened start (serving service)) words status m H a b c d are of at legal ends done small has = let it =
    of_command Check words (opened start (serving service)) are of in never_rounds _ it.0 Check it.1 it.2.command refl
told_totals once lines told (opened start (onboarding o)) words status m H a b c d are of at legal ends done small has = let it =
    of_command Check words (opened start (onboarding o)) are of in never_served _ it.0 Check Onboard it.1 it.2 (λ wrong. cc)
told_totals once lines told (opened start counting) words status m H a b c d are of at legal ends done small has =
    let same = once m start.number H start.history a.image small legal.number has at.found in
    let line : List ℕ = c.bytes ++ totals_line (totals_of start.history) in
    subst (λ (put : Bool). d.bytes ≡ (if put then line else c.bytes)) (done_put ends.put (sym ends.status_is ∙ done)) (ends.line told)
    ∙ ap (λ (G : List Event). c.bytes ++ totals_line (totals_of G)) (sym same.1)
