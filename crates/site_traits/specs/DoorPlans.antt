-- The plans of a door in memory, as they were given and as they are ready.
use Rattle.std.specs.Prelude.{◌≡◌, ◌<◌, ℕ, ◌+◌, ◌-◌, ◌/◌, max, List, length, take, Option, Some, None, slice_get}
use Rattle.std.specs.Prelude.{if◌then◌else◌, nat_lt, get_or}
use Rattle.site_traits.specs.declared.door.NextAnswer.{NextAnswer}
use Rattle.site_traits.specs.declared.door.NextAnswer.TheVariants as next
use Rattle.site_traits.specs.declared.mem_conn.MemConn.{MemConn}
use Rattle.site_traits.specs.declared.mem_door.DoorPlan.{DoorPlan}
use Rattle.site_traits.specs.declared.mem_door.DoorPlan.TheVariants as plan
use Rattle.site_traits.specs.declared.mem_door.Planned.{Planned}
use Rattle.site_traits.specs.declared.mem_door.Planned.TheVariants as ready
use Rattle.site_traits.specs.MemConn.{plan_of, IsConnOf, IsFreshConn, IsUncounted}

-- what is ready does what the plan says, with room for so many bytes out
abbrev pub IsReady : ℕ → DoorPlan → Planned → Type 0
IsReady room plan.Nobody ready.Nobody = Unit {0}
IsReady room plan.NextFails ready.Fails = Unit {0}
IsReady room (plan.Conn role pieces failing_read failing_write) (ready.Conn role' conn) =
    (role' ≡ role) × IsConnOf pieces.items failing_read failing_write room conn
IsReady room plan other = ⊥

-- the room for bytes out of each connection where there are so many plans: an equal part of 64 MiB (own rule)
abbrev pub room_of : ℕ → ℕ
room_of plans = 67108864 / max plans 1

-- what is ready stands for the plans, the first of them last
pub record AreReady (plans : List DoorPlan) (ready : List Planned) : Type 0 where
  pub count : length ready ≡ length plans
  pub each : (k : ℕ) (p : DoorPlan) (r : Planned) → k < length plans
      → IsReady (room_of (length plans)) (get_or plans k p) (get_or ready (length plans - 1 - k) r)

-- what comes next of what is left
abbrev pub next_of : List Planned → Option Planned
next_of ready = slice_get ready (length ready - 1)

-- what is left behind it
abbrev pub rest_of : List Planned → List Planned
rest_of ready = take (length ready - 1) ready

-- a connection of the plan is at hand, as it came
pub record IsRenewed (planned conn : MemConn) : Type 0 where
  pub plan : plan_of conn ≡ plan_of planned
  pub fresh : IsFreshConn conn
  pub uncounted : IsUncounted conn

-- the answer to `next` and the connection that is then at hand, by what comes next
abbrev pub Does : Option Planned → NextAnswer → MemConn → Type 0
Does None answer conn = answer ≡ next.Ended
Does (Some ready.Nobody) answer conn = answer ≡ next.Nobody
Does (Some ready.Fails) answer conn = answer ≡ next.Failed
Does (Some (ready.Conn role planned)) answer conn = (answer ≡ next.Came role) × IsRenewed planned conn

-- the count of calls behind one more
abbrev pub calls_after : ℕ → ℕ
calls_after calls = if nat_lt calls 1048576 then calls + 1 else calls
