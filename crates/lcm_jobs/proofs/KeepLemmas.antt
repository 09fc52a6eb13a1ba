-- What keeps jobs sound with a history.
use Rattle.std.proofs.Common.{◌≡◌, ℕ, List, ◌∷◌, false, Option, None, Some, ap, sym, subst, map, inl, inr}
use Rattle.lcm_events.specs.Same.{same_tag}
use Rattle.lcm_events.specs.declared.acts.Act.{Act}
use Rattle.lcm_events.specs.declared.attempts.Tag.{Tag}
use Rattle.lcm_events.specs.declared.events.Event.{Event}
use Rattle.lcm_events.specs.declared.events.EventKind.{EventKind}
use Rattle.lcm_events.specs.declared.events.EventKind.TheVariants.{Intent, Settled}
use Rattle.lcm_model.specs.Allowed.{IsAllowedWithin}
use Rattle.lcm_model.specs.Words.{IsIn}
use Rattle.lcm_laws.proofs.Histories.{event}
use Rattle.site_traits.specs.declared.jobs.Phase.{Phase}
use Rattle.site_traits.specs.Jobs.{Advances, Arrives, Job, phase_of}
use Rattle.change_planner.specs.Tags.{act_of}
use Rattle.lcm_jobs.specs.Sound.{Agrees, Attempt, EndedAttempt, FitsJobs, IsPartOf, IsSoundWithin, attempt_of, begun, ended_attempts}
use Rattle.lcm_jobs.proofs.Endings.{agree_on, attempts_on, jobs_known, never_begun, never_ended}
use Rattle.lcm_jobs.proofs.Parts.{part_later, phase_back, phase_none}

-- running jobs may end by themselves
pub sound_on : (width m : ℕ) (H : List Event) (js ks : List Job) → IsSoundWithin width m H js → Advances js ks → IsSoundWithin width m H ks
sound_on width m H js ks sound on = record {
  legal = sound.legal;
  begun = (let P : List Attempt → Type 0 = λ v. IsPartOf v (begun H) in subst P (sym (attempts_on js ks on)) sound.begun);
  ended = λ x h. agree_on x.tag x.outcome js ks on (sound.ended x h);
}

begun_more : (H : List Event) (time : ℕ) (k : EventKind) (js : List Job) → IsPartOf (map attempt_of js) (begun H)
    → IsPartOf (map attempt_of js) (begun (event time k ∷ H))
begun_more H time (Intent t) js part = part_later (map attempt_of js) (record { tag = t; act = act_of H t }) (begun H) part
begun_more H time _ js part = part

ended_more : (H : List Event) (time : ℕ) (k : EventKind) (js : List Job) → FitsJobs k js
    → ((x : EndedAttempt) → IsIn x (ended_attempts H) → Agrees x.outcome (phase_of x.tag js))
    → (x : EndedAttempt) → IsIn x (ended_attempts (event time k ∷ H)) → Agrees x.outcome (phase_of x.tag js)
ended_more H time (Settled t out) js fits ended x (inl is) = subst (λ (y : EndedAttempt). Agrees y.outcome (phase_of y.tag js)) is fits
ended_more H time (Settled t out) js fits ended x (inr h) = ended x h
ended_more H time _ js fits ended x h = ended x h

-- an allowed event that fits the jobs may come
pub sound_more : (width m : ℕ) (H : List Event) (time : ℕ) (k : EventKind) (js : List Job) → IsSoundWithin width m H js
    → IsAllowedWithin width m H k → FitsJobs k js
    → IsSoundWithin width m (event time k ∷ H) js
sound_more width m H time k js sound allowed fits = record {
  legal = (allowed, sound.legal);
  begun = begun_more H time k js sound.begun;
  ended = λ x h. ended_more H time k js fits sound.ended x h;
}

-- a new attempt has no job
pub fresh_job : (width m : ℕ) (H : List Event) (t : Tag) (js : List Job) → IsSoundWithin width m H js → IsAllowedWithin width m H (Intent t)
    → phase_of t js ≡ None
fresh_job width m H t js sound allowed = phase_none t js (λ h. never_begun width m H t sound.legal allowed
    (jobs_known H js t sound.begun h))

-- a job more leaves the ended attempts as they agreed, where none is of its tag
agreed_still : (H : List Event) (j : Job) (js : List Job) → ((x : EndedAttempt) → IsIn x (ended_attempts H) → same_tag x.tag j.tag ≡ false)
    → ((x : EndedAttempt) → IsIn x (ended_attempts H) → Agrees x.outcome (phase_of x.tag js)) → (x : EndedAttempt)
    → IsIn x (ended_attempts H) → Agrees x.outcome (phase_of x.tag (j ∷ js))
agreed_still H j js apart ended x h =
    subst (λ (p : Option Phase). Agrees x.outcome p) (sym (phase_back x.tag j js (apart x h))) (ended x h)

-- a job that arrives behind its intent
pub sound_begun : (width m : ℕ) (H : List Event) (time : ℕ) (t : Tag) (act : Act) (p : Phase) (js ks : List Job)
    → IsSoundWithin width m H js
    → IsAllowedWithin width m H (Intent t) → act_of H t ≡ Some act → Arrives t act p js ks
    → IsSoundWithin width m (event time (Intent t) ∷ H) ks
sound_begun width m H time t act p js ks sound allowed work arrives =
    let earlier : IsSoundWithin width m H arrives.earlier = sound_on width m H js arrives.earlier sound arrives.advances in
    let j : Job = record { tag = t; act = act; phase = p } in
    let P : List Job → Type 0 = λ v. IsSoundWithin width m (event time (Intent t) ∷ H) v in
    subst P (sym arrives.is) (record {
      legal = (allowed, sound.legal);
      begun = inl (same_work t (Some act) (act_of H t) (sym work), earlier.begun);
      ended = λ x h. agreed_still H j arrives.earlier (never_ended width m H t sound.legal allowed) earlier.ended x h;
    }) where
      with_work : Tag → Option Act → Attempt
      with_work t a = record { tag = t; act = a }

      same_work : (t : Tag) (a b : Option Act) → a ≡ b → with_work t a ≡ with_work t b
      same_work t a b e = ap (with_work t) e
