use Rattle.std.proofs.Common.{◌≡◌, ◌<◌, ◌≤◌, ◌+◌, ◌-◌, ℕ, length, take, get_or}
use Rattle.site_traits.specs.DoorPlans.{IsReady}
use Rattle.site_traits.specs.declared.mem_door.DoorPlan.{DoorPlan}
use Rattle.site_traits.specs.declared.mem_door.Planned.{Planned}
use Rattle.site_traits.proofs.mem_door.make_ready.Given as goal

abbrev pub decreases-loop-plan : goal.decreases-loop-plan
decreases-loop-plan l = length l.plans.items

-- the plans from the last down to those that are left are ready
abbrev pub invariant-loop-plan : goal.invariant-loop-plan
invariant-loop-plan l = record {
  left : l.plans.items ≡ take (length l.plans.items) l.fn.plans.items;
  count : length l.ready.items + length l.plans.items ≡ length l.fn.plans.items;
  each : (k : ℕ) (p : DoorPlan) (r : Planned) → length l.plans.items ≤ k → k < length l.fn.plans.items
      → IsReady l.room (get_or l.fn.plans.items k p) (get_or l.ready.items (length l.fn.plans.items - 1 - k) r);
}
