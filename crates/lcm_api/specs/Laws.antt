-- What holds of every reply to a request.
use Rattle.std.specs.Prelude.{◌≡◌, ◌⊎◌, ℕ, List}
use Rattle.lcm_events.specs.declared.events.Event.{Event}
use Rattle.lcm_events.specs.declared.states.Role.{Role}
use Rattle.lcm_model.specs.Lives.{live_subscriptions}
use Rattle.http_wire.specs.declared.request.Request.{Request}
use Rattle.lcm_api.specs.Outcome.{outcome}
use Rattle.lcm_api.specs.Routes.{routing}
use Rattle.lcm_api.specs.declared.route.Route.TheVariants.{ListSubscriptions, ShowSubscription}
use Rattle.lcm_api.specs.declared.route.Routing.TheVariants.{Served}

-- the connection ends with the reply to a request exactly where it ends with the request (RFC 9112 9.6)
abbrev pub AreLastAsAsked : Type 0
AreLastAsAsked = (m saved : ℕ) (H : List Event) (now : ℕ) (role : Role) (r : Request)
    → (outcome m saved H now role r).reply.last ≡ r.last

-- the request is a GET of the subscriptions or of one of them (SOL 003 5.4.18.3.2, 5.4.19.3.2)
abbrev pub GetsSubscriptions : Request → Type 0
GetsSubscriptions r = (routing r ≡ Served ListSubscriptions) ⊎ (routing r ≡ Served ShowSubscription)

-- Each role sees its own subscriptions alone: after two histories with equal live subscriptions of a role, with their
-- numbers, a GET of them or of one of them by that role comes to the same, whatever else they hold, whatever their
-- journals save, and whenever it is answered (own rule over SOL 003 5.4.18.3.2 and 5.4.19.3.2).
abbrev pub RolesSeeTheirOwn : Type 0
RolesSeeTheirOwn = (m saved other : ℕ) (H K : List Event) (now later : ℕ) (role : Role) (r : Request)
    → GetsSubscriptions r → live_subscriptions H role ≡ live_subscriptions K role
    → outcome m saved H now role r ≡ outcome m other K later role r
