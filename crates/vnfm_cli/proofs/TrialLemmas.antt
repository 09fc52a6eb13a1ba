-- How a run of `trial` ends.
use Rattle.std.proofs.Common.{◌≡◌, ◌∙◌, ◌++◌, ℕ, List, Bool, true, false, Result, Ok, Err, ap, refl, sym, inl, inr, arith, if◌then◌else◌}
use Rattle.std.proofs.lemmas.Bool.{false≢true}
use Rattle.command_line.specs.declared.options.Command.TheVariants.{Check, Init, Migrate, Onboard, Trial}
use Rattle.command_line.specs.declared.options.Settings.{Settings}
use Rattle.lcm_trial.specs.Trial.{passes_room, tried_of}
use Rattle.lcm_trial.specs.declared.counts.Tried.{Tried}
use Rattle.lcm_trial.specs.declared.counts.TrialFault.{TrialFault}
use Rattle.lcm_trial.specs.declared.counts.TrialFault.TheVariants as trial
use Rattle.vnfm_commands.specs.Course.{Course, misused, starved, making, migrating, trying, unopened, opened, serving, onboarding, counting}
use Rattle.vnfm_commands.specs.Course.{IsOfWords, ending_of, trying_ending}
use Rattle.vnfm_commands.specs.Ending.{Ends, Output, told_status, tried_lines}
use Rattle.vnfm_commands.specs.Trying.{Tries}
use Rattle.vnfm_commands.specs.Words.{AreWordsOf, loads}
use Rattle.vnfm_commands.proofs.DiskLemmas.{lost_line}
use Rattle.vnfm_cli.specs.Trial.{IsTried}
use Rattle.vnfm_cli.proofs.ExactLemmas.{commanded, never_rounds, never_served, of_command, of_settings}

-- where there was no memory that is told by 6, whatever the trial
starves : (lines : Type 0) (start count status : ℕ) (a b : Output) → status ≡ 6 → IsTried lines start count status a b
starves lines start count status a b is = record {
  only = inr (inr (inl is));
  told = λ tells none. absurd (omega (arith, is, none));
  room = λ three. absurd (omega (arith, is, three));
  passes = λ passed. inr is;
  sink = λ seven. absurd (omega (arith, is, seven));
}

-- the statuses of a trial
numbers_put : (lines : Type 0) (start count status : ℕ) (numbers : Tried) (a b : Output) → Ends lines (trying_ending (Ok numbers)) status a b
    → numbers ≡ tried_of start count → passes_room start count ≡ false → IsTried lines start count status a b
numbers_put lines start count status numbers a b ends is within = go ends.put refl where
  go : (put : Bool) → ends.put ≡ put → IsTried lines start count status a b
  go true was =
      let done : status ≡ 0 = ends.status_is ∙ ap (λ p. told_status p 0) was in
      record {
        only = inl done;
        told = λ tells none. ends.line tells
            ∙ ap (λ p. if p then a.bytes ++ tried_lines numbers else a.bytes) was ∙ ap (λ n. a.bytes ++ tried_lines n) is;
        room = λ three. absurd (omega (arith, done, three));
        passes = λ passed. absurd (false≢true (sym within ∙ passed));
        sink = λ seven. absurd (omega (arith, done, seven));
      }
  go false was =
      let lost : status ≡ 7 = ends.status_is ∙ ap (λ p. told_status p 0) was in
      record {
        only = inr (inr (inr lost));
        told = λ tells none. absurd (omega (arith, lost, none));
        room = λ three. absurd (omega (arith, lost, three));
        passes = λ passed. absurd (false≢true (sym within ∙ passed));
        sink = λ seven. lost_line ends.put a.counts b.counts ends.counts was;
      }

room_told : (put : Bool) → told_status put 3 ≡ 3
room_told true = refl
room_told false = refl

memory_told : (put : Bool) → told_status put 6 ≡ 6
memory_told true = refl
memory_told false = refl

tried_so : (lines : Type 0) (start count status : ℕ) (result : Result Tried TrialFault) (a b : Output)
    → Ends lines (trying_ending result) status a b → Tries start count result → IsTried lines start count status a b
tried_so lines start count status (Ok numbers) a b ends tries = numbers_put lines start count status numbers a b ends tries.0 tries.1
tried_so lines start count status (Err trial.Room) a b ends tries =
    let is : status ≡ 3 = ends.status_is ∙ room_told ends.put in
    record {
      only = inr (inl is);
      told = λ tells none. absurd (omega (arith, is, none));
      room = λ three. tries;
      passes = λ passed. inl is;
      sink = λ seven. absurd (omega (arith, is, seven));
    }
tried_so lines start count status (Err trial.Memory) a b ends tries =
    starves lines start count status a b (ends.status_is ∙ memory_told ends.put)

-- `trial` opens no journal
never_loads : (P : Type 0) (s : Settings) → s.command ≡ Trial → loads s.command ≡ true → P
never_loads P s is loading = absurd (false≢true (ap loads (sym is) ∙ loading))

-- a run of words of `trial` ends as the trial of their start and count does
pub is_tried : (lines : Type 0) (course : Course) (words : List (List ℕ)) (status : ℕ) (a b : Output) (are : AreWordsOf Trial words)
    → IsOfWords words course → Ends lines (ending_of course) status a b
    → IsTried lines are.settings.start are.settings.count status a b
is_tried lines misused words status a b are of ends = commanded _ words are.settings are.set of
is_tried lines starved words status a b are of ends =
    starves lines are.settings.start are.settings.count status a b (ends.status_is ∙ memory_told ends.put)
is_tried lines (making number result) words status a b are of ends = let it = of_command Trial words (making number result) are of in
    never_served _ it.0 Trial Init it.1 it.2.0 (λ wrong. cc)
is_tried lines (migrating result) words status a b are of ends = let it = of_command Trial words (migrating result) are of in
    never_served _ it.0 Trial Migrate it.1 it.2 (λ wrong. cc)
is_tried lines (trying result) words status a b are of ends =
    tried_so lines are.settings.start are.settings.count status result a b ends
    (of_settings words (trying result) are.settings are.set of).1
is_tried lines (unopened why) words status a b are of ends = let it = of_command Trial words (unopened why) are of in
    never_loads _ it.0 it.1 it.2
is_tried lines (opened start (serving service)) words status a b are of ends = let it =
    of_command Trial words (opened start (serving service)) are of in never_rounds _ it.0 Trial it.1 it.2.command refl
is_tried lines (opened start (onboarding o)) words status a b are of ends = let it =
    of_command Trial words (opened start (onboarding o)) are of in never_served _ it.0 Trial Onboard it.1 it.2 (λ wrong. cc)
is_tried lines (opened start counting) words status a b are of ends = let it =
    of_command Trial words (opened start counting) are of in never_served _ it.0 Trial Check it.1 it.2 (λ wrong. cc)
