-- The notices that wait for each live subscription: a function of the history (SOL 003 5.4.20, Notification endpoint).
use Rattle.std.specs.Prelude.{List, None, Option, if◌then◌else◌, filter, map, nat_lt, reverse, ℕ, ◌≡◌}
use Rattle.lcm_events.specs.declared.events.Event.{Event}
use Rattle.lcm_events.specs.declared.filters.Filter.{Filter}
use Rattle.lcm_model.specs.Lives.{Subscription, is_subscribed}
use Rattle.lcm_model.specs.Notices.{cursor, next_notice, notices}
use Rattle.instance_table.specs.Rows.{continued, tries_past}

-- what waits for a subscription: which it is, what it asks to be told, how often the first notice that waits was posted
-- and not taken, and the places of the notices that wait, the first one first
pub record Queue : Type 0 where
  pub number : ℕ
  pub filter : Filter
  pub tries : ℕ
  pub waiting : List ℕ

-- the places of a subscription's notices past its cursor, the first one first (SOL 003 5.4.20)
abbrev pub waiting : ℕ → List Event → ℕ → List ℕ
waiting m H s = reverse (filter (nat_lt (cursor H s)) (notices m H s))

-- what waits for a subscription (SOL 003 5.4.20)
abbrev pub queue : ℕ → List Event → Subscription → Queue
queue m H x = record {
  number = x.number;
  filter = x.filter;
  tries = tries_past H x.number;
  waiting =
      waiting m H x.number;
}

-- what waits for each live subscription, in the order of their numbers (SOL 003 5.4.20)
abbrev pub queues : ℕ → List Event → List Queue
queues m H = reverse (map (queue m H) (continued H))

-- the queues are those of the history of manager m
abbrev pub StandsFor : ℕ → List Queue → List Event → Type 0
StandsFor m qs H = qs ≡ queues m H

-- the place of the first notice that waits for the subscription of this number, where it is live (SOL 003 5.4.20)
abbrev pub first_waiting : ℕ → List Event → ℕ → Option ℕ
first_waiting m H s = if is_subscribed H s then next_notice m H s else None
