-- The changes of an operation are of nine phases, and each has net 0 or 1.
use Rattle.std.proofs.Common.{◌≡◌, ◌≤◌, ◌<◌, ◌+◌, ◌==◌, ℕ, List, [], ◌∷◌, zero, suc, Bool, true, not, Option, None, Some, refl, subst}
use Rattle.std.proofs.Common.{length, map, arith, nat_lt, lt-ltb, ltb-true, inl, inr}
use Rattle.std.specs.Prelude.{zip}
use Rattle.std.specs.List.{list_all, range_with_len}
use Rattle.lcm_events.specs.declared.changes.Change.{Change}
use Rattle.lcm_events.specs.declared.changes.DefKind.{DefKind}
use Rattle.lcm_events.specs.declared.changes.DefKind.TheVariants.{Compute, Link, Port, Storage}
use Rattle.lcm_events.specs.declared.changes.Verb.{Verb}
use Rattle.lcm_events.specs.declared.changes.Verb.TheVariants.{Create, Remove, Start, Stop}
use Rattle.lcm_events.specs.declared.descriptor.Vnfd.{Vnfd}
use Rattle.lcm_events.specs.declared.events.Event.{Event}
use Rattle.lcm_events.specs.declared.events.EventKind.{EventKind}
use Rattle.lcm_events.specs.declared.events.EventKind.TheVariants.{Asked}
use Rattle.lcm_events.specs.declared.events.Operation.{Operation}
use Rattle.lcm_model.specs.Allowed.{IsAllowedWithin, IsLegalWithin, IsPlanOf}
use Rattle.lcm_model.specs.Attempts.{net}
use Rattle.lcm_model.specs.Lives.{descriptor}
use Rattle.lcm_model.specs.Operations.{operations}
use Rattle.lcm_model.specs.Plans.{phase}
use Rattle.lcm_model.specs.Refusals.{case_in, situation}
use Rattle.lcm_model.specs.Words.{IsIn}
use Rattle.lcm_laws.proofs.Histories.{event, legal_induction}
use Rattle.lcm_laws.proofs.Lists.{and_left, and_right, and_true}
use Rattle.lcm_laws.proofs.NetLaws.{made_at_most_once}
use Rattle.lcm_laws.proofs.PlanMembers.{in_plan-planned}
use Rattle.occ_table.proofs.PhaseLaws.{Sound}

phase_few : (v : Verb) (k : DefKind) → phase v k < 9
phase_few Create Link = omega arith
phase_few Create Storage = omega arith
phase_few Create Compute = omega arith
phase_few Create Port = omega arith
phase_few Remove k = omega arith
phase_few Start k = omega arith
phase_few Stop k = omega arith

-- each change is of one of the nine phases
abbrev pub in_nine : List Change → Bool
in_nine xs = list_all (λ x. nat_lt x.phase 9) xs

each_in_nine : (xs : List Change) → ((x : Change) → IsIn x xs → x.phase < 9) → in_nine xs ≡ true
each_in_nine [] f = refl
each_in_nine (x ∷ xs) f = and_true (nat_lt x.phase 9) (in_nine xs) (lt-ltb x.phase 9 (f x (inl refl)))
    (each_in_nine xs (λ y h. f y (inr h)))

planned_in_nine : (H : List Event) (a : Operation) (d : Option Vnfd) → IsPlanOf H a d → in_nine a.changes ≡ true
planned_in_nine H a None h = absurd h
planned_in_nine H a (Some d) h =
    each_in_nine a.changes (λ x among.
    let is = (in_plan-planned (case_in d (situation d H a.instance) a.ask) x (subst (λ (xs : List Change). IsIn x xs) h.1 among)).0 in
    let few = phase_few x.verb x.def.kind in
    omega (arith, is, few))

abbrev AllInNine : List Event → Type 0
AllInNine H = (a : Operation) → IsIn a (operations H) → in_nine a.changes ≡ true

nine_step : (width m : ℕ) (H : List Event) (time : ℕ) (k : EventKind) → IsAllowedWithin width m H k → AllInNine H
    → AllInNine (event time k ∷ H)
nine_step width m H time (Asked b) allowed h a (inl e) = subst (λ (z : Operation). in_nine z.changes ≡ true) e
    (planned_in_nine H b (descriptor H b.instance) allowed.planned)
nine_step width m H time (Asked b) allowed h a (inr g) = h a g
nine_step width m H time _ allowed h a g = h a g

-- the changes of every operation are of nine phases
pub phases_are_nine : (width m : ℕ) (H : List Event) → IsLegalWithin width m H → (a : Operation) → IsIn a (operations H)
    → in_nine a.changes ≡ true
phases_are_nine width m H legal = legal_induction width m AllInNine (λ a h. absurd h)
    (λ H time k legal allowed h. nine_step width m H time k allowed h) H legal

sound_zip : (f : ℕ → ℕ) (m n k : ℕ) (xs : List Change) → in_nine xs ≡ true → ((c : ℕ) → (f c == m) ≡ not (f c == n))
    → Sound m n (zip xs (map f (range_with_len k (length xs))))
sound_zip f m n k [] few turns = tt
sound_zip f m n k (x ∷ xs) few turns = (
  ltb-true x.phase 9 (and_left (nat_lt x.phase 9) (in_nine xs) few),
  turns k,
  sound_zip f m n (k + 1) xs (and_right (nat_lt x.phase 9) (in_nine xs) few) turns,
)

made_or_not : (n : ℕ) → n ≤ 1 → (n == 1) ≡ not (n == 0)
made_or_not zero h = refl
made_or_not (suc zero) h = refl
made_or_not (suc (suc n)) h = absurd (omega (arith, h))

not_or_made : (n : ℕ) → n ≤ 1 → (n == 0) ≡ not (n == 1)
not_or_made zero h = refl
not_or_made (suc zero) h = refl
not_or_made (suc (suc n)) h = absurd (omega (arith, h))

-- what waits isn't made
pub sound_made : (width m : ℕ) (H : List Event) (a : Operation) → IsLegalWithin width m H → IsIn a (operations H)
    → Sound 1 0 (zip a.changes (map (net H a.occ) (range_with_len 0 (length a.changes))))
sound_made width m H a legal among =
    sound_zip (net H a.occ) 1 0 0 a.changes (phases_are_nine width m H legal a among)
    (λ c. let once = made_at_most_once width m H legal a.occ c in made_or_not (net H a.occ c) once.net)

-- what is made doesn't wait
pub sound_undone : (width m : ℕ) (H : List Event) (a : Operation) → IsLegalWithin width m H → IsIn a (operations H)
    → Sound 0 1 (zip a.changes (map (net H a.occ) (range_with_len 0 (length a.changes))))
sound_undone width m H a legal among =
    sound_zip (net H a.occ) 0 1 0 a.changes (phases_are_nine width m H legal a among)
    (λ c. let once = made_at_most_once width m H legal a.occ c in not_or_made (net H a.occ c) once.net)
