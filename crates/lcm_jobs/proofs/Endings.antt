-- How ended attempts agree with jobs, and what a history knows of its attempts.
use Rattle.std.proofs.Common.{◌≡◌, ◌≤◌, ◌+◌, ◌∙◌, ℕ, List, [], ◌∷◌, true, false, Option, None, Some, refl, ap, sym, subst, map, length, inl}
use Rattle.std.proofs.Common.{inr, arith}
use Rattle.lcm_events.specs.Same.{same_tag}
use Rattle.lcm_events.proofs.SameLaws.{same_tag-refl, same_tag-true}
use Rattle.lcm_events.specs.declared.acts.Act.{Act}
use Rattle.lcm_events.specs.declared.attempts.Outcome.{Outcome}
use Rattle.lcm_events.specs.declared.attempts.Outcome.TheVariants as outcome
use Rattle.lcm_events.specs.declared.attempts.Tag.{Tag}
use Rattle.lcm_events.specs.declared.events.Event.{Event}
use Rattle.lcm_events.specs.declared.events.EventKind.{EventKind}
use Rattle.lcm_events.specs.declared.events.EventKind.TheVariants.{Intent, Settled}
use Rattle.lcm_model.specs.Allowed.{IsAllowedWithin, IsLegalWithin}
use Rattle.lcm_model.specs.Attempts.{attempts, intents, is_settled}
use Rattle.lcm_model.specs.Words.{IsIn}
use Rattle.lcm_laws.proofs.FreshLaws.{Known, known_number, settled_known}
use Rattle.lcm_laws.proofs.Histories.{event}
use Rattle.site_traits.specs.declared.jobs.Phase.{Phase}
use Rattle.site_traits.specs.declared.jobs.Phase.TheVariants.{Aborted, Broken, Done, Running}
use Rattle.site_traits.specs.Jobs.{Advances, GoesOn, Job, phase_of}
use Rattle.lcm_jobs.specs.Sound.{Agrees, Attempt, EndedAttempt, IsNoneOrBroken, IsPartOf, attempt_of, begun, ended_attempts}
use Rattle.lcm_jobs.proofs.Parts.{in_any}
use Rattle.lcm_laws.proofs.Lists.{by_test}

-- how the job of a tag goes on
abbrev pub PhaseOn : Option Phase → Option Phase → Type 0
PhaseOn None q = q ≡ None
PhaseOn (Some p) q = (r : Phase) × (q ≡ Some r) × GoesOn p r

pub phase_on : (t : Tag) (js ks : List Job) → Advances js ks → PhaseOn (phase_of t js) (phase_of t ks)
phase_on t [] [] h = refl
phase_on t [] (k ∷ ks) h = absurd h
phase_on t (j ∷ js) [] h = absurd h
phase_on t (j ∷ js) (k ∷ ks) h = by_test (same_tag t j.tag)
    (λ same.
    let also : same_tag t k.tag ≡ true = subst (λ (x : Tag). same_tag t x ≡ true) (sym h.0.tag) same in
    rw (same, also) (k.phase, refl, h.0.phase))
    (λ other.
    let also : same_tag t k.tag ≡ false = subst (λ (x : Tag). same_tag t x ≡ false) (sym h.0.tag) other in
    rw (other, also) (phase_on t js ks h.1))

agrees_on : (out : Outcome) (p q : Option Phase) → PhaseOn p q → Agrees out p → Agrees out q
agrees_on (outcome.Done name) None q on h = cc
agrees_on (outcome.Done name) (Some (Done other)) q on h = on.1 ∙ (ap Some on.2 ∙ h)
agrees_on (outcome.Done name) (Some Running) q on h = cc
agrees_on (outcome.Done name) (Some (Broken code)) q on h = cc
agrees_on (outcome.Done name) (Some Aborted) q on h = cc
agrees_on (outcome.Broken code) None q on h = subst (λ (x : Option Phase). IsNoneOrBroken x) (sym on) tt
agrees_on (outcome.Broken code) (Some (Broken other)) q on h = subst (λ (x : Option Phase). IsNoneOrBroken x) (sym (on.1 ∙ ap Some on.2)) tt
agrees_on (outcome.Broken code) (Some Running) q on h = absurd h
agrees_on (outcome.Broken code) (Some (Done other)) q on h = absurd h
agrees_on (outcome.Broken code) (Some Aborted) q on h = absurd h
agrees_on outcome.Aborted None q on h = cc
agrees_on outcome.Aborted (Some Aborted) q on h = on.1 ∙ ap Some on.2
agrees_on outcome.Aborted (Some Running) q on h = cc
agrees_on outcome.Aborted (Some (Done other)) q on h = cc
agrees_on outcome.Aborted (Some (Broken code)) q on h = cc
agrees_on outcome.NotBegun None q on h = on
agrees_on outcome.NotBegun (Some p) q on h = cc

-- an ended attempt that agrees goes on to agree
pub agree_on : (t : Tag) (out : Outcome) (js ks : List Job) → Advances js ks → Agrees out (phase_of t js) → Agrees out (phase_of t ks)
agree_on t out js ks on h = agrees_on out (phase_of t js) (phase_of t ks) (phase_on t js ks on) h

-- no ended attempt agrees with a job that runs
pub none_runs : (out : Outcome) (p : Option Phase) → Agrees out p → p ≡ Some Running → ⊥
none_runs (outcome.Done name) p h e = let both : Some (Done name) ≡ Some Running = sym h ∙ e in cc
none_runs (outcome.Broken code) p h e = absurd (subst (λ (x : Option Phase). IsNoneOrBroken x) e h)
none_runs outcome.Aborted p h e = let both : Some Aborted ≡ Some Running = sym h ∙ e in cc
none_runs outcome.NotBegun p h e = let both : None ≡ Some Running = sym h ∙ e in cc

-- the jobs of attempts stay those of the same attempts
pub attempts_on : (js ks : List Job) → Advances js ks → map attempt_of ks ≡ map attempt_of js
attempts_on [] [] h = refl
attempts_on [] (k ∷ ks) h = absurd h
attempts_on (j ∷ js) [] h = absurd h
attempts_on (j ∷ js) (k ∷ ks) h = heads (attempt_of k) (attempt_of j) (map attempt_of ks) (map attempt_of js)
    (same_attempt k.tag j.tag (Some k.act) (Some j.act) h.0.tag (ap Some h.0.act)) (attempts_on js ks h.1) where
      heads : (x y : Attempt) (xs ys : List Attempt) → x ≡ y → xs ≡ ys → x ∷ xs ≡ y ∷ ys
      heads x y xs ys e f = cc

      with_work : Tag → Option Act → Attempt
      with_work t a = record { tag = t; act = a }

      same_attempt : (t u : Tag) (a b : Option Act) → t ≡ u → a ≡ b → with_work t a ≡ with_work u b
      same_attempt t u a b e f = cc

-- what was begun, as attempts and as tags
pub begun_known : (H : List Event) (t : Tag) → IsIn t (map (λ x. x.tag) (begun H)) → IsIn t (intents H)
begun_known [] t h = h
begun_known (e ∷ H) t h = by_kind e.kind (begun_known H t) h where
  by_kind : (k : EventKind) → (IsIn t (map (λ x. x.tag) (begun H)) → IsIn t (intents H))
      → IsIn t (map (λ x. x.tag) (begun (event e.moment k ∷ H))) → IsIn t (intents (event e.moment k ∷ H))
  by_kind (Intent u) earlier (inl is) = inl is
  by_kind (Intent u) earlier (inr h) = inr (earlier h)
  by_kind _ earlier h = earlier h

-- what has ended is settled
pub ended_settled : (H : List Event) (x : EndedAttempt) → IsIn x (ended_attempts H) → is_settled H x.tag ≡ true
ended_settled [] x h = absurd h
ended_settled (e ∷ H) x h = by_kind e.kind (ended_settled H x) h where
  by_kind : (k : EventKind) → (IsIn x (ended_attempts H) → is_settled H x.tag ≡ true) → IsIn x (ended_attempts (event e.moment k ∷ H))
      → is_settled (event e.moment k ∷ H) x.tag ≡ true
  by_kind (Settled u out) earlier (inl is) =
      let same : same_tag x.tag u ≡ true = subst (λ (y : EndedAttempt). same_tag y.tag u ≡ true) is (same_tag-refl u) in rw same refl
  by_kind (Settled u out) earlier (inr h) = by_test (same_tag x.tag u) (λ same. rw same refl) (λ other. rw other (earlier h))
  by_kind _ earlier h = earlier h

-- an attempt that may begin was never begun
pub never_begun : (width m : ℕ) (H : List Event) (t : Tag) → IsLegalWithin width m H → IsAllowedWithin width m H (Intent t) → Known H t → ⊥
never_begun width m H t legal allowed known =
    let low = known_number width m H legal t known in
    let next = allowed.number in
    over t.attempt (length (attempts H t.occ t.change)) low next where
      over : (a n : ℕ) → a ≤ n → a ≡ n + 1 → ⊥
      over a n low next = absurd (omega (arith, low, next))

-- so no ended attempt is its
pub never_ended : (width m : ℕ) (H : List Event) (t : Tag) → IsLegalWithin width m H → IsAllowedWithin width m H (Intent t)
    → (x : EndedAttempt) → IsIn x (ended_attempts H) → same_tag x.tag t ≡ false
never_ended width m H t legal allowed x h = by_test (same_tag x.tag t)
    (λ same.
    let is : x.tag ≡ t = same_tag-true x.tag t same in
    absurd (never_begun width m H t legal allowed
    (subst (λ (u : Tag). Known H u) is (settled_known width m H legal x.tag (ended_settled H x h)))))
    (λ other. other)

-- the tags of jobs that are some of the attempts that were begun are those of attempts that were begun
pub jobs_known : (H : List Event) (js : List Job) (t : Tag) → IsPartOf (map attempt_of js) (begun H) → IsIn t (map (λ j. j.tag) js)
    → Known H t
jobs_known H js t part h = in_any t (intents H) (begun_known H t (tags_in (begun H) js part h)) where
  tags_in : (xs : List Attempt) (js : List Job) → IsPartOf (map attempt_of js) xs → IsIn t (map (λ j. j.tag) js)
      → IsIn t (map (λ x. x.tag) xs)
  tags_in xs [] h g = absurd g
  tags_in [] (j ∷ js) h g = absurd h
  tags_in (x ∷ xs) (j ∷ js) (inl both) (inl e) = inl (sym (ap (λ (y : Attempt). y.tag) both.0) ∙ e)
  tags_in (x ∷ xs) (j ∷ js) (inl both) (inr g) = inr (tags_in xs js both.1 g)
  tags_in (x ∷ xs) (j ∷ js) (inr h) g = inr (tags_in xs (j ∷ js) h g)
