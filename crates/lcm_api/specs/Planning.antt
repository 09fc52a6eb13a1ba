-- What a request comes to: a reply, and what it adds where there is room for that.
use Rattle.std.specs.Prelude.{ℕ, List, [], ◌∷◌, codes, Bool, true, false}
use Rattle.lcm_api.specs.declared.record.Planned.{Planned}
use Rattle.lcm_api.specs.declared.record.Planned.TheVariants.{Records, Told}
use Rattle.lcm_events.specs.declared.events.Event.{Event}
use Rattle.lcm_replies.specs.Replies.{refusal}
use Rattle.lcm_replies.specs.declared.reply.Reply.{Reply}

-- a reply, and the events that the request adds, the latest first
pub record Outcome : Type 0 where
  pub reply : Reply
  pub after : List Event

-- a request that adds nothing comes to this reply
abbrev pub told : Reply → Planned
told reply = Told reply

-- a refused request adds nothing
abbrev pub refused : ℕ → List ℕ → Bool → Planned
refused status detail last = told (refusal status detail last)

-- the event is recorded and this is the reply, unless the journal is full with it
abbrev pub recorded : Bool → Event → Reply → Bool → Outcome
recorded true event reply last = record { reply = refusal 507 (codes "journal full") last; after = [] }
recorded false event reply last = record { reply = reply; after = event ∷ [] }

-- what is planned behind history H comes to this, by which histories' journals are full (own rule)
abbrev pub in_room : (List Event → Bool) → List Event → Bool → Planned → Outcome
in_room full H last (Told reply) = record { reply = reply; after = [] }
in_room full H last (Records event reply) = recorded (full (event ∷ H)) event reply last
