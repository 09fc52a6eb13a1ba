-- What the calls of an act do to the jobs, beside which running ones may end by themselves.
use Rattle.std.proofs.Common.{◌≡◌, ◌∙◌, ℕ, List, [], ◌∷◌, Option, None, Some, ap, sym, subst, inl, inr, refl}
use Rattle.lcm_events.specs.declared.acts.Act.{Act}
use Rattle.lcm_events.specs.declared.attempts.Tag.{Tag}
use Rattle.site_traits.specs.Advancing.{advances-then}
use Rattle.site_traits.specs.declared.jobs.BeginAnswer.{BeginAnswer}
use Rattle.site_traits.specs.declared.jobs.BeginAnswer.TheVariants as begin
use Rattle.site_traits.specs.declared.jobs.LookAnswer.{LookAnswer}
use Rattle.site_traits.specs.declared.jobs.LookAnswer.TheVariants as look
use Rattle.site_traits.specs.declared.jobs.Phase.{Phase}
use Rattle.site_traits.specs.declared.jobs.Phase.TheVariants.{Aborted, Broken, Done, Running}
use Rattle.site_traits.specs.Jobs.{Advances, Arrives, BeginsAs, GoesOn, Job, LooksAs, phase_of}
use Rattle.lcm_jobs.specs.Sound.{IsNoneOrBroken}
use Rattle.lcm_jobs.proofs.Endings.{PhaseOn, phase_on}
use Rattle.lcm_jobs.proofs.Parts.{phase_front}
use Rattle.lcm_events.proofs.SameLaws.{same_tag-refl}

-- a job is what its parts are
job_is : (k : Job) (t : Tag) (work : Act) → k.tag ≡ t → k.act ≡ work → k ≡ record { tag = t; act = work; phase = k.phase }
job_is k t work tag act = rw (← tag, ← act) refl

-- a job that arrived between two times in which running jobs may have ended
pub arrives_on : (t : Tag) (work : Act) (phase : Phase) (ws xs ys zs : List Job) → Advances ws xs → Arrives t work phase xs ys
    → Advances ys zs
    → (after : Phase) × Arrives t work after ws zs × GoesOn phase after
arrives_on t work phase ws xs ys zs before arrives behind = of zs (subst (λ (js : List Job). Advances js zs) arrives.is behind) where
  of : (ks : List Job) → Advances (record { tag = t; act = work; phase = phase } ∷ arrives.earlier) ks
      → (after : Phase) × Arrives t work after ws ks × GoesOn phase after
  of [] on = absurd on
  of (k ∷ ks) on = (
    k.phase,
    record {
      earlier = ks;
      advances = advances-then ws arrives.earlier ks (advances-then ws xs arrives.earlier before arrives.advances) on.1;
      is = ap (λ (j : Job). j ∷ ks) (job_is k t work on.0.tag on.0.act);
    },
    on.0.phase,
  )

-- a begin between two such times does what it does alone
pub begins_on : (t : Tag) (work : Act) (answer : BeginAnswer) (ws xs ys zs : List Job) → Advances ws xs → BeginsAs t work answer xs ys
    → Advances ys zs
    → BeginsAs t work answer ws zs
begins_on t work begin.Begun ws xs ys zs before begins behind =
    let on = arrives_on t work begins.0 ws xs ys zs before begins.1 behind in (on.0, on.1)
begins_on t work (begin.Refused code) ws xs ys zs before (inl on) behind =
    inl (advances-then ws ys zs (advances-then ws xs ys before on) behind)
begins_on t work (begin.Refused code) ws xs ys zs before (inr put) behind =
    let on = arrives_on t work (Broken put.0) ws xs ys zs before put.1 behind in
    inr (put.0, subst (λ (p : Phase). Arrives t work p ws zs) on.2 on.1)
begins_on t work begin.Failed ws xs ys zs before (inl on) behind = inl (advances-then ws ys zs (advances-then ws xs ys before on) behind)
begins_on t work begin.Failed ws xs ys zs before (inr put) behind =
    let on = arrives_on t work put.0 ws xs ys zs before put.1 behind in
    inr (on.0, on.1)

-- a phase that has ended stays, and so does that there is no job
stays : (p q : Option Phase) → PhaseOn p q → (p ≡ Some Running → ⊥) → q ≡ p
stays None q on ended = on
stays (Some Running) q on ended = absurd (ended refl)
stays (Some (Done name)) q on ended = on.1 ∙ ap Some on.2
stays (Some (Broken code)) q on ended = on.1 ∙ ap Some on.2
stays (Some Aborted) q on ended = on.1 ∙ ap Some on.2

stays_so : (t : Tag) (ys zs : List Job) (p : Option Phase) → phase_of t ys ≡ p → (p ≡ Some Running → ⊥) → Advances ys zs → phase_of t zs ≡ p
stays_so t ys zs p is ended behind =
    stays (phase_of t ys) (phase_of t zs) (phase_on t ys zs behind) (λ running. ended (sym is ∙ running)) ∙ is

-- what a look told stays so
pub looks_on : (t : Tag) (answer : LookAnswer) (xs ys zs : List Job) → LooksAs t answer xs ys → Advances ys zs → LooksAs t answer xs zs
looks_on t look.Absent xs ys zs told behind = stays_so t ys zs None told (λ is. cc) behind
looks_on t look.Running xs ys zs told behind = told
looks_on t (look.Done name) xs ys zs told behind = stays_so t ys zs (Some (Done name)) told (λ is. cc) behind
looks_on t (look.Broken code) xs ys zs told behind = stays_so t ys zs (Some (Broken code)) told (λ is. cc) behind
looks_on t look.Aborted xs ys zs told behind = stays_so t ys zs (Some Aborted) told (λ is. cc) behind
looks_on t look.Failed xs ys zs told behind = tt

-- a job that runs ran before
ran_before : (p q : Option Phase) → PhaseOn p q → q ≡ Some Running → p ≡ Some Running
ran_before None q on is = let clash : Some Running ≡ None = sym is ∙ on in cc
ran_before (Some Running) q on is = refl
ran_before (Some (Done name)) q on is = let clash : Some Running ≡ Some (Done name) = sym is ∙ (on.1 ∙ ap Some on.2) in cc
ran_before (Some (Broken code)) q on is = let clash : Some Running ≡ Some (Broken code) = sym is ∙ (on.1 ∙ ap Some on.2) in cc
ran_before (Some Aborted) q on is = let clash : Some Running ≡ Some Aborted = sym is ∙ (on.1 ∙ ap Some on.2) in cc

-- what a look tells it tells of the jobs before, of which running ones may have ended in between
pub looks_before : (t : Tag) (answer : LookAnswer) (ws xs ys : List Job) → Advances ws xs → LooksAs t answer xs ys → LooksAs t answer ws ys
looks_before t look.Absent ws xs ys before told = told
looks_before t look.Running ws xs ys before told = ran_before (phase_of t ws) (phase_of t xs) (phase_on t ws xs before) told
looks_before t (look.Done name) ws xs ys before told = told
looks_before t (look.Broken code) ws xs ys before told = told
looks_before t look.Aborted ws xs ys before told = told
looks_before t look.Failed ws xs ys before told = tt

-- behind a refusal of an attempt that had no job there is none, or a broken one
pub refused_broken : (t : Tag) (work : Act) (code : ℕ) (ws xs ys : List Job) → phase_of t ws ≡ None → Advances ws xs
    → BeginsAs t work (begin.Refused code) xs ys
    → IsNoneOrBroken (phase_of t ys)
refused_broken t work code ws xs ys none before (inl on) =
    let behind = stays_so t ws ys None none (λ is. cc) (advances-then ws xs ys before on) in
    subst (λ (p : Option Phase). IsNoneOrBroken p) (sym behind) tt
refused_broken t work code ws xs ys none before (inr put) =
    let front : phase_of t (record { tag = t; act = work; phase = Broken put.0 } ∷ put.1.earlier) ≡ Some (Broken put.0) =
    phase_front t (record { tag = t; act = work; phase = Broken put.0 }) put.1.earlier (same_tag-refl t) in
    subst (λ (js : List Job). IsNoneOrBroken (phase_of t js)) (sym put.1.is) (subst (λ (p : Option Phase). IsNoneOrBroken p) (sym front) tt)
