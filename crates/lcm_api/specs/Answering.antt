-- What answering a request does to a history, and when a reply may be told.
use Rattle.std.specs.Prelude.{◌≡◌, ℕ, false, List, ◌++◌, Option, Some, Result, Ok, Err}
use Rattle.executor.specs.History.{HasHistory}
use Rattle.executor.specs.Managed.{Managed, Keeps}
use Rattle.executor.specs.Work.{Work, went, broke}
use Rattle.http_wire.specs.declared.request.Request.{Request}
use Rattle.lcm_events.specs.declared.events.Event.{Event}
use Rattle.lcm_events.specs.declared.states.Role.{Role}
use Rattle.site_traits.specs.Site.{Pair, SiteState}
use Rattle.lcm_api.specs.Outcome.{outcome}
use Rattle.lcm_api.specs.Planning.{Outcome}
use Rattle.lcm_replies.specs.declared.reply.Reply.{Reply}
use Rattle.lcm_api.specs.declared.answering.ApiFault.{ApiFault}
use Rattle.lcm_api.specs.declared.answering.ApiFault.TheVariants as fault

-- the work of a request, by its answer: what it adds is in the history, or the disk failed on the way there, or nothing
-- was done
abbrev pub answered : Outcome → List Event → Result Reply ApiFault → Work
answered o H (Ok reply) = went (o.after ++ H)
answered o H (Err fault.Disk) = broke H (o.after ++ H)
answered o H (Err fault.Memory) = went H

-- the reply is the outcome of the request of this role, where the journal saves so many bytes, and the history ends
-- with what it acknowledges
pub record IsOutcomeOf (m saved : ℕ) (H : List Event) (role : Role) (r : Request) (reply : Reply) : Type 0 where
  pub before : List Event
  pub now : ℕ
  pub reply_is : reply ≡ (outcome m saved before now role r).reply
  pub history_is : H ≡ (outcome m saved before now role r).after ++ before

-- A reply may be told: the manager is open, the reply is the outcome of the request in hand for its role, the history
-- that the manager keeps ends with what it acknowledges, and whatever a stop leaves now has that history.
pub record IsAcknowledged (tells : Type 0) (m : Managed) (s : SiteState) (hand : Option Request) (role : Role)
    (reply : Reply) : Type 0 where
  pub history : List Event
  pub request : Request
  pub usable : m.ledger.closed ≡ false
  pub keeps : Keeps m history
  pub in_hand : hand ≡ Some request
  pub is : IsOutcomeOf m.ledger.manager m.ledger.saved history role request reply
  pub everywhere : tells → (p : Pair) → s.since s.moment p → HasHistory m.ledger.manager history p.image
