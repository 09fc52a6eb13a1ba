-- Sound jobs, event by event: what holds of no history and no job, and is kept by each event and by each job behind its intent, holds of
-- all.
use Rattle.std.proofs.Common.{◌≡◌, ◌⊎◌, ◌∙◌, ℕ, List, [], ◌∷◌, Bool, true, false, cond, Option, None, Some, refl, ap, sym, subst, map, inl}
use Rattle.std.proofs.Common.{inr}
use Rattle.std.specs.List.{list_any}
use Rattle.lcm_events.specs.Same.{same_tag}
use Rattle.lcm_events.proofs.SameLaws.{same_tag-true}
use Rattle.lcm_events.specs.declared.acts.Act.{Act}
use Rattle.lcm_events.specs.declared.attempts.Tag.{Tag}
use Rattle.lcm_events.specs.declared.events.Event.{Event}
use Rattle.lcm_events.specs.declared.events.EventKind.{EventKind}
use Rattle.lcm_events.specs.declared.events.EventKind.TheVariants.{Intent, Settled}
use Rattle.lcm_model.specs.Allowed.{IsAllowedWithin}
use Rattle.lcm_model.specs.Attempts.{is_open, is_unsettled, open_tags}
use Rattle.lcm_model.specs.Words.{IsIn}
use Rattle.lcm_laws.proofs.FreshLaws.{fresh_open}
use Rattle.lcm_laws.proofs.Histories.{event}
use Rattle.lcm_laws.proofs.Lists.{any_filter, by_test, not-false}
use Rattle.lcm_laws.proofs.NetLaws.{another, open_tags-settled}
use Rattle.site_traits.specs.declared.jobs.Phase.{Phase}
use Rattle.site_traits.specs.declared.jobs.Phase.TheVariants.{Running}
use Rattle.site_traits.specs.Jobs.{Job, phase_of}
use Rattle.change_planner.specs.Tags.{act_of}
use Rattle.lcm_jobs.specs.Alternating.{AreApart}
use Rattle.lcm_jobs.specs.Sound.{Agrees, Attempt, FitsJobs, IsPartOf, IsSoundWithin, attempt_of, begun}
use Rattle.lcm_jobs.proofs.Endings.{never_ended, none_runs}
use Rattle.lcm_jobs.proofs.KeepLemmas.{fresh_job}
use Rattle.lcm_jobs.proofs.Parts.{none_phase, own_phase, part_none, phase_back}

-- jobs that are sound with a history and one event more come of sound ones by that event, or by the intent and its job
abbrev pub Came : ℕ → ℕ → List Event → EventKind → List Job → Type 0
Came width m H (Intent t) js =
    IsSoundWithin width m H js ⊎ ((act : Act) × (p : Phase) × (ks : List Job) × (js ≡ (record { tag = t; act = act; phase = p }) ∷ ks)
    × (act_of H t ≡ Some act) × IsSoundWithin width m H ks)
Came width m H k js = IsSoundWithin width m H js × FitsJobs k js

abbrev job : Tag → Act → Phase → Job
job t act p = record { tag = t; act = act; phase = p }

came_intent : (width m : ℕ) (H : List Event) (time : ℕ) (t : Tag) (js : List Job) → IsSoundWithin width m (event time (Intent t) ∷ H) js
    → Came width m H (Intent t) js
came_intent width m H time t [] sound = inl (record { legal = sound.legal.1; begun = tt; ended = sound.ended })
came_intent width m H time t (j ∷ js) sound = by_part sound.begun where
  by_part : ((attempt_of j ≡ (record { tag = t; act = act_of H t })) × IsPartOf (map attempt_of js) (begun H))
      ⊎ IsPartOf (attempt_of j ∷ map attempt_of js) (begun H)
      → Came width m H (Intent t) (j ∷ js)
  by_part (inl both) =
      let tag : j.tag ≡ t = ap (λ (x : Attempt). x.tag) both.0 in
      let work : Some j.act ≡ act_of H t = ap (λ (x : Attempt). x.act) both.0 in
      inr (
        j.act,
        j.phase,
        js,
        ap (λ (x : Tag). job x j.act j.phase ∷ js) tag,
        sym work,
        record {
          legal = sound.legal.1;
          begun = both.1;
          ended = λ x h.
              let other : same_tag x.tag j.tag ≡ false = subst (λ (u : Tag). same_tag x.tag u ≡ false) (sym tag)
              (never_ended width m H t sound.legal.1 sound.legal.0 x h) in
              subst (λ (p : Option Phase). Agrees x.outcome p) (phase_back x.tag j js other) (sound.ended x h);
        },
      )
  by_part (inr part) = inl (record { legal = sound.legal.1; begun = part; ended = sound.ended })

came : (width m : ℕ) (H : List Event) (time : ℕ) (k : EventKind) (js : List Job) → IsSoundWithin width m (event time k ∷ H) js
    → Came width m H k js
came width m H time (Intent t) js sound = came_intent width m H time t js sound
came width m H time (Settled t out) js sound = (
  record { legal = sound.legal.1; begun = sound.begun; ended = λ x h. sound.ended x (inr h) },
  sound.ended (record { tag = t; outcome = out }) (inl refl),
)
came width m H time _ js sound = (record { legal = sound.legal.1; begun = sound.begun; ended = sound.ended }, tt)

-- what an event does
abbrev pub ByEvents : ℕ → ℕ → (List Event → List Job → Type 0) → Type 0
ByEvents width m P =
    (H : List Event) (time : ℕ) (k : EventKind) (js : List Job) → IsSoundWithin width m H js → IsAllowedWithin width m H k → FitsJobs k js
    → P H js
    → P (event time k ∷ H) js

-- what a job behind its intent does
abbrev pub ByJobs : ℕ → ℕ → (List Event → List Job → Type 0) → Type 0
ByJobs width m P =
    (H : List Event) (time : ℕ) (j : Job) (js : List Job) → IsSoundWithin width m H js → IsAllowedWithin width m H (Intent j.tag)
    → act_of H j.tag ≡ Some j.act
    → phase_of j.tag js ≡ None → P H js → P (event time (Intent j.tag) ∷ H) (j ∷ js)

pub sound_induction : (width m : ℕ) (P : List Event → List Job → Type 0) → P [] [] → ByEvents width m P → ByJobs width m P
    → (H : List Event) (js : List Job) → IsSoundWithin width m H js → P H js
sound_induction width m P none events jobs [] js sound = subst (λ (v : List Job). P [] v) (sym (part_none js sound.begun)) none
sound_induction width m P none events jobs (e ∷ H) js sound =
    by_kind e.kind (λ ks before. sound_induction width m P none events jobs H ks before) sound.legal.0
    (came width m H e.moment e.kind js sound) where
      by_kind : (k : EventKind) → ((ks : List Job) → IsSoundWithin width m H ks → P H ks) → IsAllowedWithin width m H k
          → Came width m H k js → P (event e.moment k ∷ H) js
      by_kind (Intent t) earlier allowed (inl before) = events H e.moment (Intent t) js before allowed tt (earlier js before)
      by_kind (Intent t) earlier allowed (inr from) =
          let ks : List Job = from.2 in
          let j : Job = record { tag = t; act = from.0; phase = from.1 } in
          let before : IsSoundWithin width m H ks = from.5 in
          subst (λ (v : List Job). P (event e.moment (Intent t) ∷ H) v) (sym from.3)
          (jobs H e.moment j ks before allowed from.4 (fresh_job width m H t ks before allowed) (earlier ks before))
      by_kind _ earlier allowed from = events H e.moment _ js from.0 allowed from.1 (earlier js from.0)

-- no two jobs have one tag
pub one_job : (width m : ℕ) (H : List Event) (js : List Job) → IsSoundWithin width m H js → AreApart (map (λ j. j.tag) js)
one_job width m H js sound =
    sound_induction width m (λ H js. AreApart (map (λ j. j.tag) js)) tt
    (λ H time k js sound allowed fits h. h)
    (λ H time j js sound allowed work none h. (none_phase j.tag js none, h)) H js sound

-- a job that runs is of an open attempt
abbrev pub RunOpen : List Event → List Job → Type 0
RunOpen H js = (j : Job) → IsIn j js → j.phase ≡ Running → is_open H j.tag ≡ true

opened_later : (t u : Tag) (b : Bool) (ts : List Tag) → list_any (same_tag t) ts ≡ true → list_any (same_tag t) (cond b (u ∷ ts) ts) ≡ true
opened_later t u true ts h = by_test (same_tag t u) (λ same. rw same refl) (λ other. rw other h)
opened_later t u false ts h = h

run_event : (width m : ℕ) (H : List Event) (time : ℕ) (k : EventKind) (js : List Job) → IsSoundWithin width m H js → FitsJobs k js
    → RunOpen H js → RunOpen (event time k ∷ H) js
unfolding is_unsettled
run_event width m H time (Intent u) js sound fits h j among runs = opened_later j.tag u (is_unsettled H u) (open_tags H) (h j among runs)
run_event width m H time (Settled t out) js sound fits h j among runs =
    let opened : is_open H j.tag ≡ true = h j among runs in
    let apart : same_tag j.tag t ≡ false = by_test (same_tag j.tag t)
    (λ same.
    let is : j.tag ≡ t = same_tag-true j.tag t same in
    let own : phase_of t js ≡ Some Running = subst (λ (x : Tag). phase_of x js ≡ Some Running) is
    (own_phase j js (one_job width m H js sound) among ∙ ap Some runs) in
    absurd (none_runs out (phase_of t js) fits own))
    (λ other. other) in
    let still : list_any (same_tag j.tag) (open_tags (event time (Settled t out) ∷ H)) ≡ true =
    subst (λ (ts : List Tag). list_any (same_tag j.tag) ts ≡ true) (sym (open_tags-settled H time t out))
    (any_filter (same_tag j.tag) (another t) (open_tags H)
    (λ x same. let is : j.tag ≡ x = same_tag-true j.tag x same in not-false (same_tag x t)
    (subst (λ (y : Tag). same_tag y t ≡ false) is apart)) opened) in
    still
run_event width m H time _ js sound fits h j among runs = h j among runs

run_job : (width m : ℕ) (H : List Event) (time : ℕ) (j : Job) (js : List Job) → IsSoundWithin width m H js
    → IsAllowedWithin width m H (Intent j.tag)
    → RunOpen H js → RunOpen (event time (Intent j.tag) ∷ H) (j ∷ js)
run_job width m H time j js sound allowed h k (inl is) runs =
    subst (λ (x : Job). is_open (event time (Intent j.tag) ∷ H) x.tag ≡ true) is
    (fresh_open width m H time sound.legal j.tag allowed.number)
run_job width m H time j js sound allowed h k (inr among) runs = run_event width m H time (Intent j.tag) js sound tt h k among runs

pub running_open : (width m : ℕ) (H : List Event) (js : List Job) → IsSoundWithin width m H js → RunOpen H js
running_open width m H js sound =
    sound_induction width m RunOpen (λ j among runs. absurd among)
    (λ H time k js sound allowed fits h. run_event width m H time k js sound fits h)
    (λ H time j js sound allowed work none h. run_job width m H time j js sound allowed h) H js sound
