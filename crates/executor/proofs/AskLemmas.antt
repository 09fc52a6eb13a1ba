-- What an ask comes to over the row of its instance it comes to after the history.
use Rattle.std.proofs.Common.{◌≡◌, ◌∙◌, ℕ, List, [], ◌∷◌, Bool, true, false, cond, Option, None, Some, is_some, option_map, refl, ap}
use Rattle.std.proofs.Common.{sym}
use Rattle.std.specs.Prelude.{option_and_then}
use Rattle.lcm_events.specs.declared.asks.Ask.{Ask}
use Rattle.lcm_events.specs.declared.changes.Change.{Change}
use Rattle.lcm_events.specs.declared.descriptor.Vnfd.{Vnfd}
use Rattle.lcm_events.specs.declared.events.Event.{Event}
use Rattle.lcm_events.specs.declared.held.Holding.{Holding}
use Rattle.lcm_model.specs.Allowed.{IsLegal}
use Rattle.lcm_model.specs.Descriptors.{IsHoldingOf, IsValid}
use Rattle.lcm_model.specs.Instances.{holding}
use Rattle.lcm_model.specs.Levels.{target}
use Rattle.lcm_model.specs.Lives.{CreatedInstance, creation, descriptor, descriptor_named, is_live}
use Rattle.lcm_model.specs.Operations.{ongoing}
use Rattle.lcm_model.specs.Plans.{plan}
use Rattle.lcm_model.specs.Refusals.{ask_refusal, content_refusal, plan_refusal, situation, state_refusal}
use Rattle.lcm_model.specs.Words.{first, first_some}
use Rattle.lcm_model.specs.Work.{window}
use Rattle.lcm_model.specs.declared.refusals.Refusal.{Refusal}
use Rattle.lcm_plans.proofs.AskedLaws.{asked_held, asked_valid, planned_same, standing_same}
use Rattle.lcm_plans.specs.Cases.{CanBeAsked, standing_refusal}
use Rattle.change_planner.specs.Inventories.{case_of}
use Rattle.instance_table.specs.Rows.{instance, instance_row}
use Rattle.instance_table.specs.declared.rows.InstanceRow.{InstanceRow}
use Rattle.lcm_tables.specs.Asking.{IsAskedOf}
use Rattle.lcm_tables.specs.Tables.{IsSmall}
use Rattle.executor.specs.Operating.{IsAccepted, IsRefused}

chosen : {A : Type 0} → (b : Bool) (x : Option A) (r : A) → cond b x None ≡ Some r → (b ≡ true) × (x ≡ Some r)
chosen true x r e = (refl, e)
chosen false x r e = cc

mapped : {A B : Type 0} → (f : A → B) (x : Option A) (y : B) → option_map f x ≡ Some y → (a : A) × (x ≡ Some a) × (f a ≡ y)
mapped f None y e = cc
mapped f (Some a) y e = (a, refl, cc)

-- the instance whose row is found is live, and has the descriptor that the row names
record IsFound (H : List Event) (i : ℕ) (r : InstanceRow) : Type 0 where
  live : is_live H i ≡ true
  named : descriptor H i ≡ descriptor_named H r.vnfd

found : (H : List Event) (i : ℕ) (r : InstanceRow) → instance H i ≡ Some r → IsFound H i r
found H i r e =
    let live = chosen (is_live H i) (option_map (instance_row H) (creation H i)) r e in
    let mine = mapped (instance_row H) (creation H i) r live.1 in
    record {
      live = live.0;
      named = ap (option_and_then (λ (x : CreatedInstance). descriptor_named H x.vnfd)) mine.1
          ∙ ap (λ (y : InstanceRow). descriptor_named H y.vnfd) mine.2;
    }

some_same : {A : Type 0} → {x y : A} → Some x ≡ Some y → x ≡ y
some_same e = cc

-- an ask of the instance of this row is of the descriptor that it names and of what it says stands
pub row_asked : (H : List Event) (i : ℕ) (r : InstanceRow) (v d : Vnfd) → instance H i ≡ Some r → Some v ≡ descriptor_named H r.vnfd
    → descriptor H i ≡ Some d
    → r.holding ≡ holding d H i → IsAskedOf H i v r.holding
row_asked H i r v d e is described held =
    let mine = found H i r e in
    let same : v ≡ d = some_same (is ∙ (sym mine.named ∙ described)) in
    record {
      live = mine.live;
      described = described ∙ ap (λ (x : Vnfd). Some x) (sym same);
      held = held ∙ ap (λ (x : Vnfd). holding x H i) (sym same);
    }

-- the row of a live instance names a descriptor that is there
pub row_described : (H : List Event) (i : ℕ) (r : InstanceRow) (d : Vnfd) → instance H i ≡ Some r → descriptor H i ≡ Some d
    → descriptor_named H r.vnfd ≡ Some d
row_described H i r d e described = sym (found H i r e).named ∙ described

can_ask : (m : ℕ) (H : List Event) (i : ℕ) (v : Vnfd) (h : Holding) → IsLegal m H → IsSmall H → IsAskedOf H i v h → CanBeAsked v H i
can_ask m H i v h legal small asked = record {
  width = window;
  manager = m;
  legal = legal;
  described = asked.described;
  small =
      λ n. small.serials i n;
}

-- its descriptor is valid, and what stands is of it
pub can_plan : (m : ℕ) (H : List Event) (i : ℕ) (v : Vnfd) (h : Holding) → IsLegal m H → IsSmall H → IsAskedOf H i v h
    → IsValid v × IsHoldingOf v h
can_plan m H i v h legal small asked =
    let can = can_ask m H i v h legal small asked in
    (asked_valid v H i can, asked_held v H i h can asked.held)

at_once : {A : Type 0} → (x : Option A) (xs : List (Option A)) (y : A) → x ≡ Some y → first_some (x ∷ xs) ≡ Some y
at_once None xs y e = cc
at_once (Some z) xs y e = e

passed : {A : Type 0} → (x : Option A) (xs : List (Option A)) → x ≡ None → first_some (x ∷ xs) ≡ first_some xs
passed None xs e = refl
passed (Some y) xs e = cc

-- an ask that its content refuses
pub content_refused : (H : List Event) (i : ℕ) (d : Vnfd) (h : Holding) (ask : Ask) (why : Refusal) → IsAskedOf H i d h
    → content_refusal d ask ≡ Some why → IsRefused H i ask why
content_refused H i d h ask why asked refused = (
  d,
  record { live = asked.live; described = asked.described; judged = at_once (content_refusal d ask) _ why refused },
)

-- why an ask is refused whose content isn't is why it is refused over what stands
judged_over : (m : ℕ) (H : List Event) (i : ℕ) (d : Vnfd) (h : Holding) (busy : Bool) (ask : Ask) → IsLegal m H → IsSmall H
    → IsAskedOf H i d h
    → busy ≡ is_some (first (ongoing H i)) → content_refusal d ask ≡ None
    → ask_refusal d (situation d H i) ask ≡ standing_refusal d h busy ask
judged_over m H i d h busy ask legal small asked goes content =
    let can = can_ask m H i d h legal small asked in
    let now = situation d H i in
    passed (content_refusal d ask) (state_refusal d now ask ∷ plan_refusal d now ask ∷ []) content
    ∙ sym (standing_same d H i h busy ask can asked.held goes)

-- an ask that is refused over what stands
pub standing_refused : (m : ℕ) (H : List Event) (i : ℕ) (d : Vnfd) (h : Holding) (busy : Bool) (ask : Ask) (why : Refusal) → IsLegal m H
    → IsSmall H → IsAskedOf H i d h
    → busy ≡ is_some (first (ongoing H i)) → content_refusal d ask ≡ None → standing_refusal d h busy ask ≡ Some why → IsRefused H i ask why
standing_refused m H i d h busy ask why legal small asked goes content refused = (
  d,
  record {
    live = asked.live;
    described = asked.described;
    judged =
        judged_over m H i d h busy ask legal small asked goes content ∙ refused;
  },
)

-- an ask that nothing refuses, with the changes of its plan
pub accepted : (m : ℕ) (H : List Event) (i : ℕ) (d : Vnfd) (h : Holding) (busy : Bool) (ask : Ask) (xs : List Change) → IsLegal m H
    → IsSmall H → IsAskedOf H i d h
    → busy ≡ is_some (first (ongoing H i)) → content_refusal d ask ≡ None → standing_refusal d h busy ask ≡ None
    → xs ≡ plan (case_of d h ask (target d h.levels ask)) → IsAccepted H i ask xs
accepted m H i d h busy ask xs legal small asked goes content standing planned = record {
  vnfd = d;
  accepted = record {
    live = asked.live;
    described = asked.described;
    judged =
        judged_over m H i d h busy ask legal small asked goes content ∙ standing;
  };
  planned = planned ∙ planned_same d H i h ask (can_ask m H i d h legal small asked) asked.held;
}
