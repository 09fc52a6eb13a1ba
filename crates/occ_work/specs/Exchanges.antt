-- What an ask or a poll appends, by its answer.
use Rattle.std.specs.Prelude.{Bool, List, None, Option, Some, [], false, true, ℕ, ◌∷◌}
use Rattle.lcm_events.specs.declared.events.EventKind.{EventKind}
use Rattle.lcm_events.specs.declared.events.EventKind.TheVariants.{Denied, Granted, GrantTried, Moved}
use Rattle.lcm_model.specs.Next.{Answer, granting, polling}
use Rattle.lcm_model.specs.declared.actions.Action.{Action}
use Rattle.lcm_model.specs.declared.actions.Action.TheVariants.{AskForGrant, Poll}
use Rattle.site_traits.specs.Answer.{Answer as Heard}
use Rattle.site_traits.specs.declared.orchestrator.Call.{Call}
use Rattle.occ_work.specs.Deeds.{Exchange, asked, polled}

-- an ask, or else a poll
abbrev pub exchanging : Bool → Action
exchanging true = AskForGrant
exchanging false = Poll

-- what is exchanged for an ask with this body, or else for a poll of this location
abbrev pub exchange_of : Bool → List ℕ → Call → Heard → Exchange
exchange_of true words ended heard = asked words ended heard
exchange_of false words ended heard = polled words ended heard

-- the kinds of the events that the answer to an ask, or else to a poll, appends
abbrev pub kinds_for : Bool → ℕ → Answer → List EventKind
kinds_for true o answer = granting o answer
kinds_for false o answer = polling o answer

-- an entry or none, as a list
abbrev pub listed : Option EventKind → List EventKind
listed None = []
listed (Some kind) = kind ∷ []

-- the event is one that an act before a grant records (own rule over SOL 003 9.4.2)
abbrev pub is_of_act : EventKind → Bool
is_of_act (GrantTried o answer) = true
is_of_act (Granted o grant places spots) = true
is_of_act (Denied o) = true
is_of_act (Moved o to) = true
is_of_act _ = false
