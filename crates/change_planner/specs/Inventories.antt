-- A plan over what a holding says stands, and over what a history does (own rule over SOL 003 5.5.2.2,
-- instantiatedVnfInfo).
use Rattle.std.specs.Prelude.{List, Some, ℕ, ◌≡◌}
use Rattle.lcm_events.specs.declared.asks.Ask.{Ask}
use Rattle.lcm_events.specs.declared.descriptor.Vnfd.{Vnfd}
use Rattle.lcm_events.specs.declared.events.Event.{Event}
use Rattle.lcm_events.specs.declared.held.Holding.{Holding}
use Rattle.lcm_model.specs.Allowed.{IsLegalWithin}
use Rattle.lcm_model.specs.Instances.{holding, inventory, inventory_of, levels}
use Rattle.lcm_model.specs.Levels.{target}
use Rattle.lcm_model.specs.Lives.{descriptor}
use Rattle.lcm_model.specs.Plans.{Case, plan}
use Rattle.lcm_model.specs.Refusals.{case_in, situation}

-- what a plan over a holding is made for (own rule)
abbrev pub case_of : Vnfd → Holding → Ask → List ℕ → Case
case_of d h ask to = record { vnfd = d; held = inventory_of h; ask = ask; to = to }

-- in a legal history the holding of an instance says what stands, what runs and which serials were used as the history
-- does (SOL 003 5.5.2.2)
abbrev pub HoldingsAreInventories : Type 0
HoldingsAreInventories =
    (width m : ℕ) (H : List Event) → IsLegalWithin width m H → (i : ℕ) (d : Vnfd) → descriptor H i ≡ Some d
    → inventory_of (holding d H i) ≡ inventory H i

-- in a legal history the plan of an ask over the holding of an instance, with the levels that it aims at, is its plan
-- over the history (SOL 003 5.4.4 to 5.4.10)
abbrev pub PlansAreThoseOfHistories : Type 0
PlansAreThoseOfHistories =
    (width m : ℕ) (H : List Event) → IsLegalWithin width m H → (i : ℕ) (d : Vnfd) → descriptor H i ≡ Some d
    → (ask : Ask) → plan (case_of d (holding d H i) ask (target d (levels d H i) ask))
    ≡ plan (case_in d (situation d H i) ask)
