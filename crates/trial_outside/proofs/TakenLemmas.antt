-- The jobs that were taken, as they are kept and as they are told.
use Rattle.std.proofs.Common.{◌≡◌, ◌∙◌, sym, ap, subst, refl, arith, ℕ, suc, ◌+◌, ◌-◌, ◌≤◌, Bool, true, false}
use Rattle.std.proofs.Common.{if◌then◌else◌, ◌||◌, ◌==◌}
use Rattle.std.proofs.Common.{Some, is_some, List, [], ◌∷◌, ◌++◌, length, map, reverse, All}
use Rattle.std.specs.Prelude.{find, option_map, IsSome}
use Rattle.std.proofs.lemmas.Bool.{false≢true}
use Rattle.std.proofs.lemmas.List.{reverse-reverse, reverse-append, length-reverse, length-map, map-append, length_push}
use Rattle.lcm_events.specs.Same.{same_tag}
use Rattle.lcm_events.specs.declared.acts.Act.{Act}
use Rattle.lcm_events.specs.declared.attempts.Tag.{Tag}
use Rattle.site_traits.specs.declared.jobs.Phase.TheVariants as phase
use Rattle.site_traits.specs.declared.mem_jobs.Found.{Found}
use Rattle.site_traits.specs.declared.mem_jobs.Found.TheVariants as found
use Rattle.site_traits.specs.declared.mem_jobs.KeptJob.{KeptJob}
use Rattle.site_traits.specs.Jobs.{Job, phase_of}
use Rattle.site_traits.specs.KeptJobs.{arrived, ended_as, first_changed, found_of, is_of, IsEarly, jobs_at}
use Rattle.site_traits.specs.KeptJobs.{latest_changed}
use Rattle.site_traits.specs.KeptJobs.{latest_of, look_of, looked, phase_found, phase_now}
use Rattle.site_traits.proofs.KeptLemmas.{job_now, jobs_last}
use Rattle.trial_outside.specs.Planned.{ArePlaced, IsDone, IsPlaced}
use Rattle.trial_outside.specs.Taken.{AreTaken, IsTaken, plan_of}

map_turned : (ws : List KeptJob) → map job_now (reverse ws) ≡ reverse (map job_now ws)
map_turned [] = refl
map_turned (w ∷ ws) =
    ap (map job_now) (reverse-append (w ∷ []) ws) ∙ map-append job_now (reverse ws) (w ∷ [])
    ∙ ap (λ js. js ++ job_now w ∷ []) (map_turned ws) ∙ sym (reverse-append (job_now w ∷ []) (map job_now ws))

-- the jobs as they are told are those that are kept, the latest first
pub told_jobs : (now : ℕ) (kept : List KeptJob) → All (IsEarly now) kept → jobs_at now kept ≡ map job_now (reverse kept)
told_jobs now kept early =
    sym (reverse-reverse (jobs_at now kept)) ∙ ap reverse (jobs_last now kept early) ∙ sym (map_turned kept)

-- a job that was taken goes on, or did its work at its place
placed_one : (place : ℕ) (w : KeptJob) → IsTaken place w → IsPlaced place (phase_now w)
placed_one place w taken =
    let P : Found → Type 0 = λ f. IsPlaced place (if is_some w.ended then phase_found f else phase.Running) in
    subst P (sym taken.ends) (of (is_some w.ended)) where
      of : (b : Bool) → IsPlaced place (if b then phase_found (found.Done place) else phase.Running)
      of true = refl
      of false = tt

pub placed_taken : (ws : List KeptJob) → AreTaken ws → ArePlaced (map job_now ws)
placed_taken [] are = tt
placed_taken (w ∷ ws) are =
    let P : ℕ → Type 0 = λ n. IsPlaced (n + 1) (phase_now w) in
    (subst P (sym (length-map ws job_now)) (placed_one (length ws + 1) w are.0), placed_taken ws are.1)

pub placed_told : (now : ℕ) (kept : List KeptJob) → All (IsEarly now) kept → AreTaken (reverse kept)
    → ArePlaced (jobs_at now kept)
placed_told now kept early are = subst ArePlaced (sym (told_jobs now kept early)) (placed_taken (reverse kept) are)

-- a look leaves a job that was taken as one
one_of : (P : KeptJob → Type 0) (b : Bool) (x y : KeptJob) → P x → P y → P (if b then x else y)
one_of P true x y is else_is = is
one_of P false x y is else_is = else_is

looked_taken : (place now : ℕ) (w : KeptJob) → IsTaken place w → IsTaken place (looked now w)
looked_taken place now w taken =
    let none = taken.at_once in
    one_of (IsTaken place) (is_some w.ended) w _ taken
    (one_of (IsTaken place) (w.looks == 0) (record w { ended = Some now }) (record w { looks = w.looks - 1 })
    (record { ends = taken.ends; at_once = taken.at_once })
    (record { ends = taken.ends; at_once = omega (arith, none) }))

changed_length : (test : KeptJob → Bool) (change : KeptJob → KeptJob) (ws : List KeptJob)
    → length (first_changed test change ws) ≡ length ws
changed_length test change [] = refl
changed_length test change (w ∷ ws) = of (changed_length test change ws) (test w) where
  of : length (first_changed test change ws) ≡ length ws → (b : Bool)
      → length (if b then change w ∷ ws else w ∷ first_changed test change ws) ≡ length (w ∷ ws)
  of rest true = refl
  of rest false = ap suc rest

changed_taken : (tag : Tag) (now : ℕ) (ws : List KeptJob) → AreTaken ws
    → AreTaken (first_changed (is_of tag) (looked now) ws)
changed_taken tag now [] are = tt
changed_taken tag now (w ∷ ws) are = of (changed_taken tag now ws are.1) (is_of tag w) where
  of : AreTaken (first_changed (is_of tag) (looked now) ws) → (b : Bool)
      → AreTaken (if b then looked now w ∷ ws else w ∷ first_changed (is_of tag) (looked now) ws)
  of rest true = (looked_taken (length ws + 1) now w are.0, are.1)
  of rest false =
      let P : ℕ → Type 0 = λ n. IsTaken (n + 1) w in
      (subst P (sym (changed_length (is_of tag) (looked now) ws)) are.0, rest)

pub looks_taken : (tag : Tag) (now : ℕ) (kept : List KeptJob) → AreTaken (reverse kept)
    → AreTaken (reverse (latest_changed tag (looked now) kept))
looks_taken tag now kept are =
    subst AreTaken (sym (reverse-reverse (first_changed (is_of tag) (looked now) (reverse kept))))
    (changed_taken tag now (reverse kept) are)

pub looks_few : (tag : Tag) (now : ℕ) (kept : List KeptJob)
    → length (latest_changed tag (looked now) kept) ≡ length kept
looks_few tag now kept =
    length-reverse (first_changed (is_of tag) (looked now) (reverse kept))
    ∙ changed_length (is_of tag) (looked now) (reverse kept) ∙ length-reverse kept

-- a look at a job that was taken finds that it did its work
or_true : (b c : Bool) → c ≡ true → (b || c) ≡ true
or_true true c is = refl
or_true false c is = is

none_left : (n : ℕ) → n ≡ 0 → (n == 0) ≡ true
none_left n none = ap (λ k. k == 0) none

found_done : (place : ℕ) (w : KeptJob) → IsTaken place w → found_of (Some w) ≡ found.Done place
found_done place w taken =
    ap (λ (b : Bool). if b then ended_as w else found.Running)
    (or_true (is_some w.ended) (w.looks == 0) (none_left w.looks taken.at_once))
    ∙ taken.ends

done_one : (place : ℕ) (w : KeptJob) → IsTaken place w → IsDone (look_of (found_of (Some w)))
done_one place w taken =
    let P : Found → Type 0 = λ f. IsDone (look_of f) in
    subst P (sym (found_done place w taken)) tt

done_kept : (tag : Tag) (ws : List KeptJob) → AreTaken ws → IsSome (phase_of tag (map job_now ws))
    → IsDone (look_of (found_of (find (is_of tag) ws)))
done_kept tag [] are some = absurd (false≢true some)
done_kept tag (w ∷ ws) are some = of (done_kept tag ws are.1) (same_tag tag w.tag) some where
  of : (IsSome (phase_of tag (map job_now ws)) → IsDone (look_of (found_of (find (is_of tag) ws)))) → (b : Bool)
      → IsSome (option_map (λ (j : Job). j.phase)
      (if b then Some (job_now w) else find (λ j. same_tag tag j.tag) (map job_now ws)))
      → IsDone (look_of (found_of (if b then Some w else find (is_of tag) ws)))
  of rest true is = done_one (length ws + 1) w are.0
  of rest false is = rest is

pub done_told : (tag : Tag) (now : ℕ) (kept : List KeptJob) → All (IsEarly now) kept → AreTaken (reverse kept)
    → IsSome (phase_of tag (jobs_at now kept)) → IsDone (look_of (found_of (latest_of tag kept)))
done_told tag now kept early are some =
    let P : List Job → Type 0 = λ js. IsSome (phase_of tag js) in
    done_kept tag (reverse kept) are (subst P (told_jobs now kept early) some)

-- a job that arrives by a plan is taken at the next place
arrived_taken : (tag : Tag) (act : Act) (place now : ℕ) (kept : List KeptJob) → AreTaken (reverse kept)
    → AreTaken (reverse (kept ++ arrived tag act (plan_of place) now kept ∷ []))
arrived_taken tag act place now kept are =
    let w = arrived tag act (plan_of place) now kept in
    subst AreTaken (sym (reverse-append kept (w ∷ [])))
    (record { ends = ap (λ n. found.Done (n + 1)) (sym (length-reverse kept)); at_once = refl }, are)

-- what is kept once a begin was answered: as much, or one job more
pub record Grows (old new : List KeptJob) : Type 0 where
  pub taken : AreTaken (reverse new)
  pub few : length new ≤ length old + 1

pub arrives_taken : (tag : Tag) (act : Act) (place now : ℕ) (comes : Bool) (kept : List KeptJob)
    → AreTaken (reverse kept)
    → Grows kept (if comes then kept ++ arrived tag act (plan_of place) now kept ∷ [] else kept)
arrives_taken tag act place now true kept are =
    let more = length_push kept (arrived tag act (plan_of place) now kept) in
    record { taken = arrived_taken tag act place now kept are; few = omega (arith, more) }
arrives_taken tag act place now false kept are = record { taken = are; few = omega arith }
