-- An ask is judged after a history as it is judged over what stands of its instance.
use Rattle.std.proofs.Common.{◌≡◌, ◌&&◌, ◌+◌, ◌∙◌, ◌↔◌, IsTrue, ℕ, List, [], ◌∷◌, Bool, true, Option, None, Some, is_some, refl, ap, sym}
use Rattle.std.proofs.Common.{subst}
use Rattle.std.specs.Prelude.{option_and_then}
use Rattle.lcm_events.specs.declared.descriptor.Vnfd.{Vnfd}
use Rattle.lcm_events.specs.declared.events.Event.{Event}
use Rattle.lcm_events.specs.declared.events.Operation.{Operation}
use Rattle.lcm_events.specs.declared.held.Holding.{Holding}
use Rattle.lcm_model.specs.Allowed.{IsLegal, IsPlanOf, MayAsk}
use Rattle.lcm_model.specs.Descriptors.{IsHoldingOf, IsValid}
use Rattle.lcm_model.specs.Instances.{holding}
use Rattle.lcm_model.specs.Lives.{CreatedInstance, descriptor, descriptor_named, is_live}
use Rattle.lcm_model.specs.Operations.{occurrences_made, ongoing}
use Rattle.lcm_model.specs.Refusals.{content_refusal, plan_refusal, situation, state_refusal}
use Rattle.lcm_model.specs.Words.{first, first_some}
use Rattle.lcm_model.specs.Work.{window}
use Rattle.lcm_laws.proofs.Lists.{and_left, and_right, and_true, none_of-front, none_of-rest}
use Rattle.lcm_plans.proofs.AskedLaws.{asked_held, asked_valid, planned_same, standing_same}
use Rattle.lcm_plans.specs.Cases.{CanBeAsked}
use Rattle.instance_table.specs.Rows.{instance}
use Rattle.instance_table.specs.declared.rows.InstanceRow.{InstanceRow}
use Rattle.lcm_tables.specs.Asking.{IsAskedOf, IsPlanOver}
use Rattle.lcm_tables.specs.Tables.{IsSmall}
use Rattle.lcm_tables.proofs.FoundLaws.{row_found}

passed : {A : Type 0} → (x : Option A) (xs : List (Option A)) → x ≡ None → first_some (x ∷ xs) ≡ first_some xs
passed None xs e = refl
passed (Some y) xs e = cc

-- an ask is accepted with its plan over its instance's holding exactly where it is after the history
pub plan_over : (d : Vnfd) (H : List Event) (a : Operation) (h : Holding) (busy : Bool) → CanBeAsked d H a.instance
    → h ≡ holding d H a.instance
    → busy ≡ is_some (first (ongoing H a.instance)) → IsPlanOver d h busy a.ask a.changes ↔ IsPlanOf H a (Some d)
plan_over d H a h busy can is goes =
    let now = situation d H a.instance in
    let rest = standing_same d H a.instance h busy a.ask can is goes in
    let plans = planned_same d H a.instance h a.ask can is in (
      λ over. (
        passed (content_refusal d a.ask) (state_refusal d now a.ask ∷ plan_refusal d now a.ask ∷ []) over.content
            ∙ (sym rest ∙ over.standing),
        over.planned ∙ plans,
      ),
      λ of. record {
        content = none_of-front (content_refusal d a.ask) _ of.0;
        standing = rest ∙ none_of-rest (content_refusal d a.ask) _ of.0;
        planned = of.1 ∙ sym plans;
      },
    )

-- an operation may be asked for exactly where its number is the next and it is accepted with its plan, of a live instance of this
-- descriptor
pub asked_judged : (H : List Event) (a : Operation) (d : Vnfd) (made : ℕ) (next planned : Bool) → made ≡ occurrences_made H
    → is_live H a.instance ≡ true
    → descriptor H a.instance ≡ Some d → IsTrue next ↔ (a.occ ≡ made + 1) → IsTrue planned ↔ IsPlanOf H a (Some d)
    → IsTrue (next && planned) ↔ MayAsk H a
asked_judged H a d made next planned is live described n p = (
  λ h. record {
    number = n.0 (and_left next planned h) ∙ ap (λ (k : ℕ). k + 1) is;
    live = live;
    planned = subst (λ (o : Option Vnfd). IsPlanOf H a o) (sym described) (p.0 (and_right next planned h));
  },
  λ may. and_true next planned (n.1 (may.number ∙ ap (λ (k : ℕ). k + 1) (sym is)))
      (p.1 (subst (λ (o : Option Vnfd). IsPlanOf H a o) described may.planned)),
)

-- the descriptor of an instance is the one that its row names
pub row_described : (H : List Event) (i : ℕ) (r : InstanceRow) → instance H i ≡ Some r → descriptor H i ≡ descriptor_named H r.vnfd
row_described H i r e =
    let mine = row_found H i r e in
    ap (option_and_then (λ (x : CreatedInstance). descriptor_named H x.vnfd)) mine.2
    ∙ ap (λ (y : InstanceRow). descriptor_named H y.vnfd) mine.4

some_same : {A : Type 0} → {x y : A} → Some x ≡ Some y → x ≡ y
some_same e = cc

-- an ask of the instance of this row is of this descriptor and of what the row says stands
pub row_asked : (H : List Event) (i : ℕ) (r : InstanceRow) (v d : Vnfd) → instance H i ≡ Some r → Some v ≡ descriptor_named H r.vnfd
    → descriptor H i ≡ Some d
    → r.holding ≡ holding d H i → IsAskedOf H i v r.holding
row_asked H i r v d e found described held =
    let is : v ≡ d = some_same (found ∙ (sym (row_described H i r e) ∙ described)) in
    record {
      live = (row_found H i r e).1;
      described = described ∙ ap (λ (x : Vnfd). Some x) (sym is);
      held = held ∙ ap (λ (x : Vnfd). holding x H i) (sym is);
    }

-- an instance can be asked after a small legal history
pub can_ask : (m : ℕ) (H : List Event) (i : ℕ) (v : Vnfd) (h : Holding) → IsLegal m H → IsSmall H → IsAskedOf H i v h → CanBeAsked v H i
can_ask m H i v h legal small asked = record {
  width = window;
  manager = m;
  legal = legal;
  described = asked.described;
  small =
      λ n. small.serials i n;
}

-- its descriptor is valid, and what stands is of it
pub can_plan : (m : ℕ) (H : List Event) (i : ℕ) (v : Vnfd) (h : Holding) → IsLegal m H → IsSmall H → IsAskedOf H i v h
    → IsValid v × IsHoldingOf v h
can_plan m H i v h legal small asked =
    let can = can_ask m H i v h legal small asked in
    (asked_valid v H i can, asked_held v H i h can asked.held)
