-- The body of the grant request of an occurrence, over a history (SOL 003 9.4.2, Grants; 9.5.2.2, GrantRequest).
use Rattle.std.specs.Prelude.{List, Option, option_and_then, option_map, ℕ}
use Rattle.grant_desk.specs.Requests.{request_text}
use Rattle.lcm_events.specs.declared.descriptor.Vnfd.{Vnfd}
use Rattle.lcm_events.specs.declared.events.Event.{Event}
use Rattle.lcm_events.specs.declared.events.Operation.{Operation}
use Rattle.lcm_model.specs.Instances.{holding}
use Rattle.lcm_model.specs.Lives.{descriptor}
use Rattle.lcm_model.specs.Operations.{operation}

-- the body for an operation of manager m, over the descriptor of its instance and what stands of that (SOL 003 9.5.2.2)
abbrev pub request_over : ℕ → List Event → Operation → Vnfd → List ℕ
request_over m H a d =
    request_text d (holding d H a.instance) (record { manager = m; instance = a.instance; occ = a.occ }) a.ask a.changes

-- the body of the grant request of an occurrence (SOL 003 9.4.2)
abbrev pub grant_request : ℕ → List Event → ℕ → Option (List ℕ)
grant_request m H o = option_and_then (λ a. option_map (request_over m H a) (descriptor H a.instance)) (operation H o)
