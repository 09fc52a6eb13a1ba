-- Whom an operation is asked of (own rule over SOL 003 5.4.4 to 5.4.10).
use Rattle.std.specs.Prelude.{Bool, List, None, Some, true, ℕ, ◌≡◌}
use Rattle.lcm_events.specs.declared.asks.Ask.{Ask}
use Rattle.lcm_events.specs.declared.changes.Change.{Change}
use Rattle.lcm_events.specs.declared.descriptor.Vnfd.{Vnfd}
use Rattle.lcm_events.specs.declared.events.Event.{Event}
use Rattle.lcm_events.specs.declared.held.Holding.{Holding}
use Rattle.lcm_model.specs.Instances.{holding}
use Rattle.lcm_model.specs.Levels.{target}
use Rattle.lcm_model.specs.Lives.{descriptor, is_live}
use Rattle.lcm_model.specs.Plans.{plan}
use Rattle.lcm_model.specs.Refusals.{content_refusal}
use Rattle.change_planner.specs.Inventories.{case_of}
use Rattle.lcm_plans.specs.Cases.{standing_refusal}

-- the instance is live, this is its descriptor, and this stands of it (SOL 003 5.5.2.2)
pub record IsAskedOf (H : List Event) (i : ℕ) (d : Vnfd) (h : Holding) : Type 0 where
  pub live : is_live H i ≡ true
  pub described : descriptor H i ≡ Some d
  pub held : h ≡ holding d H i

-- an ask isn't refused over what stands of its instance, and these are the changes of its plan; busy where an operation
-- of the instance goes on (SOL 003 5.4.4 to 5.4.10)
pub record IsPlanOver (d : Vnfd) (h : Holding) (busy : Bool) (ask : Ask) (xs : List Change) : Type 0 where
  pub content : content_refusal d ask ≡ None
  pub standing : standing_refusal d h busy ask ≡ None
  pub planned : xs ≡ plan (case_of d h ask (target d h.levels ask))
