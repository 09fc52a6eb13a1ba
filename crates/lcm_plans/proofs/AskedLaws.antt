-- What refuses a plan over a holding refuses the ask after the history, and the plans are the same.
use Rattle.std.proofs.Common.{◌≡◌, ◌&&◌, ◌||◌, ◌∙◌, ◌+◌, ℕ, List, [], ◌∷◌, Bool, true, false, not, Option, None, Some, refl, ap, is_some}
use Rattle.std.specs.List.{enumerate_from, list_any}
use Rattle.std.specs.Prelude.{find, option_and_then, option_map}
use Rattle.lcm_events.specs.declared.asks.Ask.{Ask}
use Rattle.lcm_events.specs.declared.asks.Ask.TheVariants.{Heal, Instantiate, Operate, Scale, ScaleToLevel, Terminate}
use Rattle.lcm_events.specs.declared.asks.Vnfc.{Vnfc}
use Rattle.lcm_events.specs.declared.descriptor.Vnfd.{Vnfd}
use Rattle.lcm_events.specs.declared.events.Event.{Event}
use Rattle.lcm_events.specs.declared.held.Holding.{Holding}
use Rattle.lcm_laws.proofs.HoldingLaws.{holding_of}
use Rattle.lcm_laws.proofs.Lists.{by_test}
use Rattle.lcm_laws.proofs.PlanHistory.{descriptor_valid}
use Rattle.lcm_model.specs.Descriptors.{IsHoldingOf, IsValid}
use Rattle.lcm_model.specs.Instances.{holding, inventory, inventory_of, is_instantiated, is_started, levels}
use Rattle.lcm_model.specs.Levels.{target}
use Rattle.lcm_model.specs.Plans.{plan}
use Rattle.lcm_model.specs.Refusals.{Situation, case_in, has_nothing_to_do, is_above_profile, is_terminate, naming_refusal, plan_refusal}
use Rattle.lcm_model.specs.Refusals.{situation, state_refusal}
use Rattle.lcm_model.specs.Vnfcs.{Inventory, is_there}
use Rattle.lcm_model.specs.Operations.{ongoing}
use Rattle.lcm_model.specs.Words.{first, first_some, when}
use Rattle.lcm_model.specs.declared.refusals.Refusal.{Refusal}
use Rattle.change_planner.proofs.InventoryLaws.{holding_tells, plans_agree}
use Rattle.change_planner.specs.Inventories.{case_of}
use Rattle.change_planner.specs.Planning.{above_profile, aims_at_present, is_oversized, planned_size, unknown_among, unknown_vnfc}
use Rattle.change_planner.specs.Planning.{vdu_above}
use Rattle.change_planner.specs.declared.refusals.PlanRefusal.TheVariants.{AboveProfile, NothingToDo, TooMany, UnknownVnfc}
use Rattle.lcm_plans.specs.Cases.{CanBeAsked, refusal_over, scale_refusal, situation_over, standing_refusal, told_as}
use Rattle.lcm_model.specs.declared.refusals.Refusal.TheVariants as refusals

-- the descriptor of an instance that can be asked is valid
pub asked_valid : (d : Vnfd) (H : List Event) (i : ℕ) → CanBeAsked d H i → IsValid d
asked_valid d H i can = descriptor_valid can.width can.manager H i d can.legal can.described

-- one is found where one passes
found_some : {A : Type 0} → (p : A → Bool) (xs : List A) → is_some (find p xs) ≡ list_any p xs
found_some p [] = refl
found_some p (x ∷ xs) = by_test (p x) (λ passes. rw passes refl) (λ fails. rw fails (found_some p xs))

mapped_some : {A B : Type 0} → (f : A → B) (o : Option A) → is_some (option_map f o) ≡ is_some o
mapped_some f None = refl
mapped_some f (Some x) = refl

numbered_any : {A : Type 0} → (p : A → Bool) (k : ℕ) (xs : List A) → list_any (λ x. p x.1) (enumerate_from k xs) ≡ list_any p xs
numbered_any p k [] = refl
numbered_any p k (x ∷ xs) = ap (λ b. p x || b) (numbered_any p (k + 1) xs)

-- refusals of a plan are told in their order
told_in_order : (s : Option Refusal) (a : Option ℕ) (b : Bool) (c : Option ℕ) (t : Bool) (n : ℕ)
    → first_some (s ∷ option_and_then told_as (first_some (first_some
    (option_map UnknownVnfc a ∷ when b NothingToDo ∷ option_map AboveProfile c ∷ []) ∷ when t (TooMany n) ∷ [])) ∷ [])
    ≡ first_some (first_some (s ∷ when (is_some a) refusals.UnknownVnfc ∷ []) ∷ when b refusals.NothingToDo
    ∷ when (is_some c) refusals.AboveProfile ∷ when t refusals.TooManyResources ∷ [])
told_in_order (Some w) a b c t n = refl
told_in_order None (Some p) b c t n = refl
told_in_order None None true c t n = refl
told_in_order None None false (Some v) t n = refl
told_in_order None None false None true n = refl
told_in_order None None false None false n = refl

first_alone : {A : Type 0} → (o : Option A) → first_some (o ∷ None ∷ []) ≡ o
first_alone None = refl
first_alone (Some x) = refl

last_alone : {A : Type 0} → (o : Option A) → first_some (None ∷ o ∷ []) ≡ o
last_alone None = refl
last_alone (Some x) = refl

-- how an instance is, with what a holding says
abbrev seen : Vnfd → List Event → ℕ → Inventory → Bool → Situation
seen d H i held busy = record {
  instantiated = is_instantiated H i;
  started = is_started H i;
  levels = levels d H i;
  held = held;
  busy =
      busy;
}

unknown_told : (d : Vnfd) (h : Holding) (named : List Vnfc) → is_some (unknown_among d h named)
    ≡ list_any (λ x. not (is_there d (inventory_of h) x.vdu x.serial)) named
unknown_told d h named =
    mapped_some (λ (x : ℕ × Vnfc). x.0) (find (λ x. not (is_there d (inventory_of h) x.1.vdu x.1.serial)) (enumerate_from 0 named))
    ∙ (found_some (λ (x : ℕ × Vnfc). not (is_there d (inventory_of h) x.1.vdu x.1.serial)) (enumerate_from 0 named)
    ∙ numbered_any (λ (x : Vnfc). not (is_there d (inventory_of h) x.vdu x.serial)) 0 named)

naming_told : (d : Vnfd) (H : List Event) (i : ℕ) (busy : Bool) (ask : Ask)
    → first_some (scale_refusal d (levels d H i) ask ∷ when (is_some (unknown_vnfc d (holding d H i) ask)) refusals.UnknownVnfc ∷ [])
    ≡ naming_refusal d (seen d H i (inventory_of (holding d H i)) busy) ask
naming_told d H i busy (Scale way aspect steps) = first_alone (scale_refusal d (levels d H i) (Scale way aspect steps))
naming_told d H i busy (Heal cause named) =
    last_alone (when (is_some (unknown_among d (holding d H i) named)) refusals.UnknownVnfc)
    ∙ ap (λ b. when b refusals.UnknownVnfc) (unknown_told d (holding d H i) named)
naming_told d H i busy (Instantiate flavour level) = refl
naming_told d H i busy (ScaleToLevel aim) = refl
naming_told d H i busy (Operate started stop) = refl
naming_told d H i busy (Terminate mode timeout) = refl

nothing_told : (d : Vnfd) (H : List Event) (i : ℕ) (held : Inventory) (busy : Bool) (ask : Ask)
    → aims_at_present (holding d H i) ask (target d (levels d H i) ask) ≡ has_nothing_to_do d (seen d H i held busy) ask
nothing_told d H i held busy (Instantiate flavour level) = refl
nothing_told d H i held busy (Scale way aspect steps) = refl
nothing_told d H i held busy (ScaleToLevel aim) = refl
nothing_told d H i held busy (Heal cause named) = refl
nothing_told d H i held busy (Operate started stop) = refl
nothing_told d H i held busy (Terminate mode timeout) = refl

vdu_told : (d : Vnfd) (to : List ℕ) → is_some (vdu_above d to) ≡ is_above_profile d to
vdu_told d to = mapped_some (λ x. x.0) (find _ (enumerate_from 0 d.vdus)) ∙ found_some _ (enumerate_from 0 d.vdus)

above_told : (d : Vnfd) (ask : Ask) (to : List ℕ) → is_some (above_profile d ask to) ≡ (not (is_terminate ask) && is_above_profile d to)
above_told d (Instantiate flavour level) to = vdu_told d to
above_told d (Scale way aspect steps) to = vdu_told d to
above_told d (ScaleToLevel aim) to = vdu_told d to
above_told d (Heal cause named) to = vdu_told d to
above_told d (Operate started stop) to = vdu_told d to
above_told d (Terminate mode timeout) to = refl

-- what refuses an ask over a holding refuses it with what the holding says
told_over : (d : Vnfd) (H : List Event) (i : ℕ) (busy : Bool) (ask : Ask)
    → refusal_over d (holding d H i) ask ≡ plan_refusal d (seen d H i (inventory_of (holding d H i)) busy) ask
told_over d H i busy ask =
    let h = holding d H i in
    let to = target d (levels d H i) ask in
    told_in_order (scale_refusal d (levels d H i) ask) (unknown_vnfc d h ask) (aims_at_present h ask to) (above_profile d ask to)
    (is_oversized d h ask to) (planned_size d h ask to)
    ∙ (ap (λ o. first_some (o ∷ when (aims_at_present h ask to) refusals.NothingToDo
    ∷ when (is_some (above_profile d ask to)) refusals.AboveProfile ∷ when (is_oversized d h ask to) refusals.TooManyResources ∷ []))
    (naming_told d H i busy ask)
    ∙ (ap (λ b. first_some (naming_refusal d (seen d H i (inventory_of h) busy) ask ∷ when b refusals.NothingToDo
    ∷ when (is_some (above_profile d ask to)) refusals.AboveProfile ∷ when (is_oversized d h ask to) refusals.TooManyResources ∷ []))
    (nothing_told d H i (inventory_of h) busy ask)
    ∙ ap (λ b. first_some (naming_refusal d (seen d H i (inventory_of h) busy) ask
    ∷ when (has_nothing_to_do d (seen d H i (inventory_of h) busy) ask) refusals.NothingToDo ∷ when b refusals.AboveProfile
    ∷ when (is_oversized d h ask to) refusals.TooManyResources ∷ [])) (above_told d ask to)))

-- what refuses an ask over the holding of an instance refuses it after the history
pub refusals_agree : (d : Vnfd) (H : List Event) (i : ℕ) (ask : Ask) → CanBeAsked d H i
    → refusal_over d (holding d H i) ask ≡ plan_refusal d (situation d H i) ask
refusals_agree d H i ask can =
    told_over d H i (situation d H i).busy ask
    ∙ ap (λ held. plan_refusal d (seen d H i held (situation d H i).busy) ask)
    (holding_tells can.width can.manager H can.legal i d can.described)

-- the plan over the holding of an instance is its plan after the history
pub plans_same : (d : Vnfd) (H : List Event) (i : ℕ) (ask : Ask) → CanBeAsked d H i
    → plan (case_of d (holding d H i) ask (target d (levels d H i) ask)) ≡ plan (case_in d (situation d H i) ask)
plans_same d H i ask can = plans_agree can.width can.manager H can.legal i d can.described ask

-- the same of a holding that is found
pub planned_same : (d : Vnfd) (H : List Event) (i : ℕ) (h : Holding) (ask : Ask) → CanBeAsked d H i → h ≡ holding d H i
    → plan (case_of d h ask (target d h.levels ask)) ≡ plan (case_in d (situation d H i) ask)
planned_same d H i h ask can is = ap (λ (g : Holding). plan (case_of d g ask (target d g.levels ask))) is ∙ plans_same d H i ask can

refused_same : (d : Vnfd) (H : List Event) (i : ℕ) (h : Holding) (ask : Ask) → CanBeAsked d H i → h ≡ holding d H i
    → refusal_over d h ask ≡ plan_refusal d (situation d H i) ask
refused_same d H i h ask can is = ap (λ (g : Holding). refusal_over d g ask) is ∙ refusals_agree d H i ask can

-- how an instance is after a history is as its holding says
situation_same : (d : Vnfd) (H : List Event) (i : ℕ) (h : Holding) (busy : Bool) → CanBeAsked d H i → h ≡ holding d H i
    → busy ≡ is_some (first (ongoing H i))
    → situation_over h busy ≡ situation d H i
situation_same d H i h busy can is goes =
    ap (λ (g : Holding). situation_over g busy) is
    ∙ (ap (λ (held : Inventory). seen d H i held busy) (holding_tells can.width can.manager H can.legal i d can.described)
    ∙ ap (λ (b : Bool). seen d H i (inventory H i) b) goes)

-- what refuses an ask over its holding refuses it after the history
pub standing_same : (d : Vnfd) (H : List Event) (i : ℕ) (h : Holding) (busy : Bool) (ask : Ask) → CanBeAsked d H i → h ≡ holding d H i
    → busy ≡ is_some (first (ongoing H i))
    → standing_refusal d h busy ask ≡ first_some (state_refusal d (situation d H i) ask ∷ plan_refusal d (situation d H i) ask ∷ [])
standing_same d H i h busy ask can is goes =
    ap (λ (s : Situation). first_some (state_refusal d s ask ∷ refusal_over d h ask ∷ [])) (situation_same d H i h busy can is goes)
    ∙ ap (λ (o : Option Refusal). first_some (state_refusal d (situation d H i) ask ∷ o ∷ [])) (refused_same d H i h ask can is)

-- its holding is the descriptor's
pub asked_held : (d : Vnfd) (H : List Event) (i : ℕ) (h : Holding) → CanBeAsked d H i → h ≡ holding d H i → IsHoldingOf d h
asked_held d H i h can is = rw is (holding_of can.width can.manager H can.legal i d can.described can.small)
