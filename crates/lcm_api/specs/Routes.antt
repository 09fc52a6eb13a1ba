-- Where a request goes: what it asks of which resource, by its target and its method (SOL 003 5.3; RFC 9110 9.1,
-- 10.2.1).
use Rattle.std.specs.Prelude.{ℕ, List, [], ◌∷◌, ◌++◌, codes, map, find, Bool, true, Option, Some, None}
use Rattle.std.specs.Option.{option_map_or}
use Rattle.std.specs.Str.{bytes_eq}
use Rattle.http_wire.specs.declared.request.Request.{Request}
use Rattle.json_members.specs.Problem.{problem_text}
use Rattle.lcm_routes.specs.Paths.{resource_of}
use Rattle.lcm_routes.specs.Targets.{path_of}
use Rattle.lcm_routes.specs.declared.resources.Resource.{Resource}
use Rattle.lcm_routes.specs.declared.resources.Resource.TheVariants.{Instances, Instance, InstanceTask, Occurrences}
use Rattle.lcm_routes.specs.declared.resources.Resource.TheVariants.{Occurrence, OccurrenceTask, Subscription}
use Rattle.lcm_routes.specs.declared.resources.Resource.TheVariants.{Subscriptions}
use Rattle.lcm_replies.specs.declared.reply.Reply.{Reply}
use Rattle.lcm_api.specs.declared.route.Route.{Route}
use Rattle.lcm_api.specs.declared.route.Route.TheVariants as routes
use Rattle.lcm_api.specs.declared.route.Routing.{Routing}
use Rattle.lcm_api.specs.declared.route.Routing.TheVariants.{Nowhere, NotAllowed, Served}

-- a method of a resource, and the route that serves it
pub record Method : Type 0 where
  pub name : List ℕ
  pub route : Route

abbrev pub by : List ℕ → Route → Method
by name route = record { name = name; route = route }

-- the methods of each resource, in byte order (SOL 003 5.4.2.3 to 5.4.19.3)
abbrev pub methods : Resource → List Method
methods Instances = by (codes "GET") routes.ListInstances ∷ by (codes "POST") routes.CreateInstance ∷ []
methods Instance = by (codes "DELETE") routes.DeleteInstance ∷ by (codes "GET") routes.ShowInstance ∷ []
methods (InstanceTask kind) = by (codes "POST") (routes.InstanceTask kind) ∷ []
methods Occurrences = by (codes "GET") routes.ListOccurrences ∷ []
methods Occurrence = by (codes "GET") routes.ShowOccurrence ∷ []
methods (OccurrenceTask task) = by (codes "POST") (routes.OccurrenceTask task) ∷ []
methods Subscriptions = by (codes "GET") routes.ListSubscriptions ∷ by (codes "POST") routes.CreateSubscription ∷ []
methods Subscription = by (codes "DELETE") routes.EndSubscription ∷ by (codes "GET") routes.ShowSubscription ∷ []

-- where a request with this method to a resource goes
abbrev pub routing_to : List ℕ → Option Resource → Routing
routing_to name None = Nowhere
routing_to name (Some x) = option_map_or (λ method. Served method.route)
    (find (λ method. bytes_eq name method.name) (methods x)) (NotAllowed x)

-- where a request goes
abbrev pub routing : Request → Routing
routing r = routing_to r.method (resource_of (path_of r.target))

-- names joined by a comma and a space (RFC 9110 5.6.1)
abbrev pub joined : List (List ℕ) → List ℕ
joined [] = []
joined (name ∷ []) = name
joined (name ∷ next ∷ rest) = name ++ (codes ", " ++ joined (next ∷ rest))

-- the methods that a resource has, as Allow says them (RFC 9110 10.2.1)
abbrev pub allow : Resource → List ℕ
allow x = joined (map (λ method. method.name) (methods x))

-- the resource has no such method (RFC 9110 15.5.6)
unfoldable pub not_allowed : Resource → Bool → Reply
not_allowed x last = record {
  status = 405;
  location = None;
  allow = Some (allow x);
  problem = true;
  body =
      problem_text 405 (codes "method not allowed");
  last = last;
}
