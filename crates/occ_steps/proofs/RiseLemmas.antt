-- The phases of an operation's changes rise, since they are its plan.
use Rattle.std.proofs.Common.{◌≡◌, ◌≤◌, ◌<◌, ◌||◌, ◌&&◌, ◌==◌, ℕ, zero, suc, List, [], ◌∷◌, Bool, true, Option, None, Some}
use Rattle.std.proofs.Common.{refl, sym, subst, arith, length, eqb-true, get_or, inl, inr, ltb, ltb-true}
use Rattle.std.specs.List.Sorted.{IsNonDecreasingBy}
use Rattle.lcm_events.specs.declared.changes.Change.{Change}
use Rattle.lcm_events.specs.declared.descriptor.Vnfd.{Vnfd}
use Rattle.lcm_events.specs.declared.events.Event.{Event}
use Rattle.lcm_events.specs.declared.events.EventKind.{EventKind}
use Rattle.lcm_events.specs.declared.events.EventKind.TheVariants.{Asked}
use Rattle.lcm_events.specs.declared.events.Operation.{Operation}
use Rattle.lcm_laws.proofs.Histories.{event, legal_induction}
use Rattle.lcm_laws.proofs.Lists.{and_left, by_test}
use Rattle.lcm_laws.proofs.Members.{Rises}
use Rattle.lcm_laws.proofs.PlanHistory.{descriptor_valid}
use Rattle.lcm_laws.proofs.PlanOrder.{Before, plan_rises}
use Rattle.lcm_model.specs.Allowed.{IsAllowedWithin, IsLegalWithin, IsPlanOf}
use Rattle.lcm_model.specs.Lives.{descriptor}
use Rattle.lcm_model.specs.Operations.{operations}
use Rattle.lcm_model.specs.Planned.{is_before}
use Rattle.lcm_model.specs.Plans.{plan}
use Rattle.lcm_model.specs.Refusals.{case_in, situation}
use Rattle.lcm_model.specs.Words.{IsIn}

before_phase : (x y : Change) → Before x y → x.phase ≤ y.phase
before_phase x y h = by_test (ltb x.phase y.phase)
    (λ less. let n = ltb-true x.phase y.phase less in omega (arith, n))
    (λ other.
    let rest : ((x.phase == y.phase) && is_before (x.def.vdu ∷ x.def.serial ∷ x.def.item ∷ []) (y.def.vdu ∷ y.def.serial ∷ y.def.item ∷ []))
    ≡ true =
    subst (λ (b : Bool). (b || ((x.phase == y.phase) && is_before (x.def.vdu ∷ x.def.serial ∷ x.def.item ∷ [])
    (y.def.vdu ∷ y.def.serial ∷ y.def.item ∷ []))) ≡ true) other h in
    let same = eqb-true x.phase y.phase (and_left (x.phase == y.phase) _ rest) in omega (arith, same))

at_in : (d : Change) (xs : List Change) (i : ℕ) → i < length xs → IsIn (get_or xs i d) xs
at_in d [] i h = absurd (omega (arith, h))
at_in d (x ∷ xs) zero h = inl refl
at_in d (x ∷ xs) (suc i) h = inr (at_in d xs i (omega (arith, h)))

rising_phases : (xs : List Change) → Rises Before xs → IsNonDecreasingBy (λ x. x.phase) xs
rising_phases [] rise i j d le less = absurd (omega (arith, less))
rising_phases (x ∷ xs) rise zero zero d le less = omega arith
rising_phases (x ∷ xs) rise zero (suc j) d le less =
    before_phase x (get_or xs j d) (rise.0 (get_or xs j d) (at_in d xs j (omega (arith, less))))
rising_phases (x ∷ xs) rise (suc i) zero d le less = absurd (omega (arith, le))
rising_phases (x ∷ xs) rise (suc i) (suc j) d le less = rising_phases xs rise.1 i j d (omega (arith, le)) (omega (arith, less))

planned_phases : (width m : ℕ) (H : List Event) (a : Operation) → IsLegalWithin width m H → (d : Option Vnfd) → descriptor H a.instance ≡ d
    → IsPlanOf H a d → IsNonDecreasingBy (λ x. x.phase) a.changes
planned_phases width m H a legal None is h = absurd h
planned_phases width m H a legal (Some d) is h =
    subst (λ (xs : List Change). IsNonDecreasingBy (λ x. x.phase) xs) (sym h.1)
    (rising_phases (plan (case_in d (situation d H a.instance) a.ask))
    (plan_rises (case_in d (situation d H a.instance) a.ask) (descriptor_valid width m H a.instance d legal is)))

abbrev AllRise : List Event → Type 0
AllRise H = (a : Operation) → IsIn a (operations H) → IsNonDecreasingBy (λ x. x.phase) a.changes

rise_step : (width m : ℕ) (H : List Event) (time : ℕ) (k : EventKind) → IsLegalWithin width m H → IsAllowedWithin width m H k → AllRise H
    → AllRise (event time k ∷ H)
rise_step width m H time (Asked b) legal allowed h a (inl e) =
    subst (λ (z : Operation). IsNonDecreasingBy (λ x. x.phase) z.changes) e
    (planned_phases width m H b legal (descriptor H b.instance) refl allowed.planned)
rise_step width m H time (Asked b) legal allowed h a (inr g) = h a g
rise_step width m H time _ legal allowed h a g = h a g

-- in a legal history the phases of each operation rise
pub phases_rise : (width m : ℕ) (H : List Event) → IsLegalWithin width m H → AllRise H
phases_rise width m H legal = legal_induction width m AllRise (λ a h. absurd h)
    (λ H time k legal allowed h. rise_step width m H time k legal allowed h) H legal
