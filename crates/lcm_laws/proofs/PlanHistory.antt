-- The operations of a legal history have their plans.
use Rattle.std.proofs.Common.{◌≡◌, ◌++◌, ℕ, List, [], ◌∷◌, Bool, cond, Option, None, Some, refl, sym, subst, find, inl, inr, ◌↔◌}
use Rattle.std.specs.Prelude.{option_and_then}
use Rattle.lcm_events.specs.Same.{same_name}
use Rattle.lcm_events.specs.declared.changes.Change.{Change}
use Rattle.lcm_events.specs.declared.descriptor.Vnfd.{Vnfd}
use Rattle.lcm_events.specs.declared.events.Event.{Event}
use Rattle.lcm_events.specs.declared.events.EventKind.{EventKind}
use Rattle.lcm_events.specs.declared.events.EventKind.TheVariants.{Asked, Onboarded}
use Rattle.lcm_events.specs.declared.events.Operation.{Operation}
use Rattle.lcm_model.specs.Words.{IsIn}
use Rattle.lcm_model.specs.Lives.{CreatedInstance, creation, descriptor, descriptor_named, descriptors}
use Rattle.lcm_model.specs.Descriptors.{IsValid}
use Rattle.lcm_model.specs.Planned.{AreInOrder, IsPlanned}
use Rattle.lcm_model.specs.Refusals.{case_in, situation}
use Rattle.lcm_model.specs.Allowed.{IsAllowedWithin, IsLegalWithin, IsPlanOf}
use Rattle.lcm_laws.specs.Planning.{HasPlan}
use Rattle.lcm_laws.proofs.Histories.{event, legal_before, legal_induction}
use Rattle.lcm_laws.proofs.Lists.{by_test}
use Rattle.lcm_laws.proofs.PlanMembers.{plan_exact}
use Rattle.lcm_laws.proofs.PlanOrder.{plan_sorted}

-- what is found is in the list
pub found_in : {A : Type 0} → (p : A → Bool) (xs : List A) (x : A) → find p xs ≡ Some x → IsIn x xs
found_in p [] x e = cc
found_in {A} p (y ∷ xs) x e = by_test (p y)
    (λ passes. let is : Some y ≡ Some x = subst (λ (b : Bool). cond b (Some y) (find p xs) ≡ Some x) passes e in inl cc)
    (λ fails. inr (found_in p xs x (subst (λ (b : Bool). cond b (Some y) (find p xs) ≡ Some x) fails e)))

abbrev AllValid : List Event → Type 0
AllValid H = (d : Vnfd) → IsIn d (descriptors H) → IsValid d

valid_step : (width m : ℕ) (H : List Event) (time : ℕ) (k : EventKind) → IsAllowedWithin width m H k → AllValid H
    → AllValid (event time k ∷ H)
valid_step width m H time (Onboarded x) allowed h d (inl e) = subst (λ (y : Vnfd). IsValid y) e allowed.valid
valid_step width m H time (Onboarded x) allowed h d (inr g) = h d g
valid_step width m H time _ allowed h d g = h d g

-- every descriptor that was onboarded is valid
pub all_valid : (width m : ℕ) (H : List Event) → IsLegalWithin width m H → AllValid H
all_valid width m H legal = legal_induction width m AllValid (λ d h. absurd h)
    (λ H time k legal allowed h. valid_step width m H time k allowed h) H legal

named_valid : (width m : ℕ) (H : List Event) (d : Vnfd) → IsLegalWithin width m H → (x : Option CreatedInstance)
    → option_and_then (λ c. descriptor_named H c.vnfd) x ≡ Some d → IsValid d
named_valid width m H d legal None e = cc
named_valid width m H d legal (Some c) e = all_valid width m H legal d
    (found_in (λ y. same_name y.descriptor_id c.vnfd) (descriptors H) d e)

-- the descriptor of an instance is valid
pub descriptor_valid : (width m : ℕ) (H : List Event) (i : ℕ) (d : Vnfd) → IsLegalWithin width m H → descriptor H i ≡ Some d → IsValid d
descriptor_valid width m H i d legal e = named_valid width m H d legal (creation H i) e

has_plan : (width m : ℕ) (H : List Event) (a : Operation) → IsLegalWithin width m H → (o : Option Vnfd) → descriptor H a.instance ≡ o
    → IsPlanOf H a o → HasPlan H a
has_plan width m H a legal None is h = absurd h
has_plan width m H a legal (Some d) is h =
    let p = case_in d (situation d H a.instance) a.ask in
    let valid : IsValid d = descriptor_valid width m H a.instance d legal is in (
      d,
      is,
      valid,
      record {
        exact = λ x. subst (λ (xs : List Change). IsIn x xs ↔ IsPlanned p x) (sym h.1) (plan_exact p x);
        in_order = subst (λ (xs : List Change). AreInOrder xs) (sym h.1) (plan_sorted p valid);
      },
    )

-- each operation has its plan
pub operation_planned : (width m : ℕ) (H later : List Event) (time : ℕ) (a : Operation)
    → IsLegalWithin width m (later ++ event time (Asked a) ∷ H) → HasPlan H a
operation_planned width m H later time a legal =
    let here = legal_before width m (event time (Asked a) ∷ H) later legal in
    has_plan width m H a here.1 (descriptor H a.instance) refl here.0.planned
