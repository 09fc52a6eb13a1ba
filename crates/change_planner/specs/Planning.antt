-- Plans over what a holding says stands, and why there is none (own rule over SOL 003 5.4.4 to 5.4.10).
use Rattle.std.specs.List.{enumerate_from}
use Rattle.std.specs.Prelude.{Bool, List, None, Option, [], false, find, length, nat_lt, not, option_map, true, ℕ, ◌&&◌}
use Rattle.std.specs.Prelude.{◌+◌, ◌==◌, ◌∷◌, ◌≡◌, ◌≤◌}
use Rattle.std.specs.Cmp.Lexicographic.{pointwise}
use Rattle.lcm_events.specs.declared.asks.Ask.{Ask}
use Rattle.lcm_events.specs.declared.asks.Ask.TheVariants.{Heal, Operate, ScaleToLevel, Terminate}
use Rattle.lcm_events.specs.declared.asks.Vnfc.{Vnfc}
use Rattle.lcm_events.specs.declared.changes.Change.{Change}
use Rattle.lcm_events.specs.declared.descriptor.Vnfd.{Vnfd}
use Rattle.lcm_events.specs.declared.events.EventKind.TheVariants.{Asked}
use Rattle.lcm_events.specs.declared.held.Holding.{Holding}
use Rattle.lcm_events.specs.declared.states.Role.{Role}
use Rattle.event_codec.specs.Spell.{spelling}
use Rattle.event_codec.specs.Typed.{TypedAsk}
use Rattle.vnfm_base.specs.declared.limits.TheConstants.{MAX_RECORD}
use Rattle.change_planner.specs.Records.{NamesFew}
use Rattle.lcm_model.specs.Instances.{inventory_of}
use Rattle.lcm_model.specs.Levels.{count}
use Rattle.lcm_model.specs.Plans.{plan}
use Rattle.lcm_model.specs.Refusals.{content_refusal, created, standing}
use Rattle.lcm_model.specs.Vnfcs.{is_there}
use Rattle.lcm_model.specs.Words.{first_some, same_bool, when}
use Rattle.change_planner.specs.Inventories.{case_of}
use Rattle.change_planner.specs.declared.refusals.PlanRefusal.{PlanRefusal}
use Rattle.change_planner.specs.declared.refusals.PlanRefusal.TheVariants.{AboveProfile, NothingToDo, TooMany}
use Rattle.change_planner.specs.declared.refusals.PlanRefusal.TheVariants.{UnknownVnfc}

-- the place, from 0, of the first of these machines of which nothing stands (own rule)
abbrev pub unknown_among : Vnfd → Holding → List Vnfc → Option ℕ
unknown_among d h named =
    option_map (λ x. x.0) (find (λ x. not (is_there d (inventory_of h) x.1.vdu x.1.serial)) (enumerate_from 0 named))

-- the place in HEAL's list, from 0, of the first machine of which nothing stands (SOL 003 5.5.2.9)
abbrev pub unknown_vnfc : Vnfd → Holding → Ask → Option ℕ
unknown_vnfc d h (Heal cause named) = unknown_among d h named
unknown_vnfc d h _ = None

-- SCALE_TO_LEVEL aims at the present levels, or OPERATE at the present state (own rule)
abbrev pub aims_at_present : Holding → Ask → List ℕ → Bool
aims_at_present h (ScaleToLevel aim) to = pointwise ◌==◌ to h.levels
aims_at_present h (Operate started stop) to = same_bool started h.started
aims_at_present h _ to = false

-- the number of the first VDU that would have more machines than its maximum (SOL 001, vdu_profile)
abbrev pub vdu_above : Vnfd → List ℕ → Option ℕ
vdu_above d to = option_map (λ x. x.0) (find (λ x. nat_lt x.1.maximum (count d x.0 to)) (enumerate_from 0 d.vdus))

-- the number of the first VDU that an ask would lead above its maximum, which TERMINATE never does (own rule)
abbrev pub above_profile : Vnfd → Ask → List ℕ → Option ℕ
above_profile d (Terminate mode timeout) to = None
above_profile d _ to = vdu_above d to

-- how many definitions would stand or be made (own limit)
abbrev pub planned_size : Vnfd → Holding → Ask → List ℕ → ℕ
planned_size d h ask to = standing d (inventory_of h) + created (plan (case_of d h ask to))

-- something is made, and with what stands it is more than an instance may have (own limit)
abbrev pub is_oversized : Vnfd → Holding → Ask → List ℕ → Bool
is_oversized d h ask to = nat_lt 0 (created (plan (case_of d h ask to))) && nat_lt 2500 (planned_size d h ask to)

-- why there is no plan, but for its size (SOL 003 5.4.4 to 5.4.10; the order is an own rule)
abbrev pub first_refusal : Vnfd → Holding → Ask → List ℕ → Option PlanRefusal
first_refusal d h ask to = first_some (
    option_map UnknownVnfc (unknown_vnfc d h ask)
    ∷ when (aims_at_present h ask to) NothingToDo
    ∷ option_map AboveProfile (above_profile d ask to) ∷ [])

-- why there is no plan: the first of these that applies (SOL 003 5.4.4 to 5.4.10; the limits and the order are own
-- rules)
abbrev pub refusal : Vnfd → Holding → Ask → List ℕ → Option PlanRefusal
refusal d h ask to = first_some (first_refusal d h ask to
    ∷ when (is_oversized d h ask to) (TooMany (planned_size d h ask to)) ∷ [])

-- the refusal is that of a plan that is too large (own limit)
abbrev pub IsTooMany : Vnfd → Holding → Ask → List ℕ → PlanRefusal → Type 0
IsTooMany d h ask to why = (is_oversized d h ask to ≡ true) × (why ≡ TooMany (planned_size d h ask to))

-- the ask with these changes fits a record of 65,536 bytes, whatever its texts and its numbers are, where its content
-- isn't refused, so that its names are the descriptor's and no aspect is named twice, and it names at most 512 machines
-- (own limit)
abbrev pub FitsRecord : Vnfd → Ask → List Change → Type 0
FitsRecord d ask changes =
    content_refusal d ask ≡ None → TypedAsk ask → NamesFew ask → (time occ instance : ℕ) (role : Role)
    → length (spelling (record {
      moment = time;
      kind = Asked
          (record { occ = occ; instance = instance; role = role; ask = ask; changes = changes });
    })) ≤ MAX_RECORD
