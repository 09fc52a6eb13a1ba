-- How many were made of each kind that is numbered (SOL 003 5.4.2, VNF instances; 5.4.12, VNF LCM operation
-- occurrences; 5.4.18, Subscriptions).
use Rattle.std.specs.Prelude.{Bool, List, false, true, ℕ}
use Rattle.lcm_events.specs.declared.events.Event.{Event}
use Rattle.lcm_model.specs.Lives.{instances_made, subscriptions_made}
use Rattle.lcm_model.specs.Operations.{occurrences_made}
use Rattle.vnfm_base.specs.declared.identifier.Kind.{Kind}
use Rattle.vnfm_base.specs.declared.identifier.Kind.TheVariants.{Instance, Occurrence, Subscription, Notice}

-- what is made by an event of its own, and numbered in the order of these: a notice isn't (own rule)
abbrev pub is_made : Kind → Bool
is_made Notice = false
is_made _ = true

-- how many of the kind were made (SOL 003 5.4.2, 5.4.12, 5.4.18)
abbrev pub made : Kind → List Event → ℕ
made Instance H = instances_made H
made Occurrence H = occurrences_made H
made Subscription H = subscriptions_made H
made Notice H = 0
