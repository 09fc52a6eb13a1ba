-- The instance of an operation that goes on is live (own rule).
use Rattle.std.proofs.Common.{◌≡◌, ◌==◌, ℕ, List, [], ◌∷◌, Bool, true, false, cond, not, Some, is_some, sym, subst, eqb-true}
use Rattle.lcm_events.specs.declared.events.Event.{Event}
use Rattle.lcm_events.specs.declared.events.EventKind.{EventKind}
use Rattle.lcm_events.specs.declared.events.EventKind.TheVariants.{Asked, Created, Deleted, Moved}
use Rattle.lcm_events.specs.declared.events.Operation.{Operation}
use Rattle.lcm_events.specs.declared.states.OpState.{OpState}
use Rattle.lcm_model.specs.Allowed.{IsAllowedWithin, IsLegalWithin}
use Rattle.lcm_model.specs.Instances.{is_instantiated}
use Rattle.lcm_model.specs.Lives.{creation, is_deleted, is_live}
use Rattle.lcm_model.specs.Moves.{is_final, state}
use Rattle.lcm_model.specs.Operations.{ongoing, operation}
use Rattle.lcm_model.specs.Words.{first, when}
use Rattle.lcm_model.specs.declared.refusals.Refusal.TheVariants as refusals
use Rattle.lcm_laws.proofs.Histories.{event, legal_induction}
use Rattle.lcm_laws.proofs.HoldLaws.{moved_from}
use Rattle.lcm_laws.proofs.Lists.{and_right, by_test, first-none, none_of-front, none_of-rest, when-none}
use Rattle.lcm_laws.proofs.OngoingLaws.{state-moved}
use Rattle.lcm_laws.proofs.SettledLaws.{idle_none}

abbrev Living : List Event → Type 0
Living H = (o : ℕ) (a : Operation) → operation H o ≡ Some a → is_final (state H o) ≡ false → is_live H a.instance ≡ true

-- an instance that may be deleted has no operation that goes on
idle : (width m : ℕ) (H : List Event) (j : ℕ) → IsAllowedWithin width m H (Deleted j) → ongoing H j ≡ []
idle width m H j allowed =
    first-none (ongoing H j)
    (when-none (is_some (first (ongoing H j))) refusals.Ongoing (none_of-front _ _
    (none_of-rest (when (is_instantiated H j) refusals.Instantiated) _ allowed.accepted)))

living_step : (width m : ℕ) (H : List Event) (time : ℕ) (k : EventKind) → IsLegalWithin width m H → IsAllowedWithin width m H k → Living H
    → Living (event time k ∷ H)
living_step width m H time (Created i vnfd name text) legal allowed h o a e goes =
    let before : is_live H a.instance ≡ true = h o a e goes in
    let kept : not (is_deleted H a.instance) ≡ true = and_right (is_some (creation H a.instance)) (not (is_deleted H a.instance)) before in
    by_test (i == a.instance) (λ same. rw same kept) (λ other. rw other before)
living_step width m H time (Deleted j) legal allowed h o a e goes =
    let before : is_live H a.instance ≡ true = h o a e goes in
    by_test (j == a.instance)
    (λ same. absurd (idle_none H j o a (idle width m H j allowed) e (sym (eqb-true j a.instance same)) goes))
    (λ other. rw other before)
living_step width m H time (Asked b) legal allowed h o a e goes = by_test (b.occ == o)
    (λ same.
    let is : b ≡ a = some_same (subst (λ (c : Bool). cond c (Some b) (operation H o) ≡ Some a) same e) in
    subst (λ (x : Operation). is_live H x.instance ≡ true) is allowed.live)
    (λ other. h o a (subst (λ (c : Bool). cond c (Some b) (operation H o) ≡ Some a) other e) goes) where
      some_same : {x y : Operation} → Some x ≡ Some y → x ≡ y
      some_same e = cc
living_step width m H time (Moved occ to) legal allowed h o a e goes = by_test (occ == o)
    (λ same. h o a e (subst (λ (n : ℕ). is_final (state H n) ≡ false) (eqb-true occ o same) (moved_from H occ to allowed.1)))
    (λ other. h o a e (subst (λ (s : OpState). is_final s ≡ false) (state-moved H time o occ to false other) goes))
living_step width m H time _ legal allowed h o a e goes = h o a e goes

-- in a legal history the instance of an operation that goes on is live
pub living : (width m : ℕ) (H : List Event) → IsLegalWithin width m H → (o : ℕ) (a : Operation) → operation H o ≡ Some a
    → is_final (state H o) ≡ false
    → is_live H a.instance ≡ true
living width m H legal = legal_induction width m Living (λ o a e. cc)
    (λ H time k legal allowed h. living_step width m H time k legal allowed h) H legal
