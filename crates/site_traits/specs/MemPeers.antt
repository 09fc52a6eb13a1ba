-- Peers in memory: an orchestrator that gives the answers of its plan, and a courier that gives the statuses of its
-- plan.
use Rattle.std.specs.Prelude.{ℕ, ◌+◌, min, List, map, take, drop, length, nat_le, if◌then◌else◌, Option, Some, None}
use Rattle.std.specs.Prelude.{slice_get, option_and_then}
use Rattle.std.specs.List.{filter_map}
use Rattle.site_traits.specs.Answer.{Answer}
use Rattle.site_traits.specs.Peers.{Post}
use Rattle.site_traits.specs.declared.mem_courier.PostMark.{PostMark}
use Rattle.site_traits.specs.declared.orchestrator.Call.{Call}
use Rattle.site_traits.specs.declared.orchestrator.Call.TheVariants as call
use Rattle.site_traits.specs.declared.mem_orchestrator.GrantPlan.{GrantPlan}
use Rattle.site_traits.specs.declared.mem_orchestrator.GrantPlan.TheVariants.{Fail, Raw}

-- the answer that a plan gives; one with a longer body than is heard fails (own rule)
abbrev pub answer_of : GrantPlan → Option Answer
answer_of Fail = None
answer_of (Raw status location body) =
    if nat_le (length body) 1048576 then Some (record { status = status; location = location; body = body }) else None

-- the answers of the first so many plans, the oldest first
abbrev pub answers_of : List GrantPlan → ℕ → List Answer
answers_of plans count = filter_map answer_of (take count plans)

-- the bytes of the calls on record
abbrev pub bytes_of : {T : Type 0} → List (T × List ℕ) → List (List ℕ)
bytes_of calls = map (λ c. c.1) calls

-- the post of a call on record: its callback stands in front of its body
abbrev pub post_of : PostMark × List ℕ → Post
post_of c = record { uri = take c.0.uri c.1; body = drop c.0.uri c.1; status = c.0.status }

-- the posts on record, the oldest first
abbrev pub posts_of : List (PostMark × List ℕ) → List Post
posts_of calls = map post_of calls

-- the answer that the plan has at this place
abbrev pub next_answer : List GrantPlan → ℕ → Option Answer
next_answer plans place = option_and_then answer_of (slice_get plans place)

-- The place in a plan of so many after a call at a place: one plan more is used, unless it has an answer and the call
-- failed, since its record has no room (own rule).
abbrev pub place_after : Call → Option Answer → ℕ → ℕ → ℕ
place_after call.Failed (Some answer) place most = place
place_after result answer place most = min (place + 1) most
