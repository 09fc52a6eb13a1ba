-- Which resource of the VNF lifecycle management interface a path names (SOL 003 5.3, Resource structure and methods).
use Rattle.std.specs.Prelude.{ℕ, List, [], ◌∷◌, codes, Option, Some, None, if◌then◌else◌}
use Rattle.std.specs.Str.{bytes_eq}
use Rattle.lcm_events.specs.declared.asks.OpKind.TheVariants.{Instantiate, Scale, ScaleToLevel, Heal, Operate}
use Rattle.lcm_events.specs.declared.asks.OpKind.TheVariants.{Terminate, ChangeFlavour}
use Rattle.lcm_events.specs.declared.states.Task.TheVariants.{Retry, Rollback, Fail, Cancel}
use Rattle.lcm_routes.specs.declared.resources.Resource.{Resource}
use Rattle.lcm_routes.specs.declared.resources.Resource.TheVariants.{Instances, Instance, InstanceTask, Occurrences}
use Rattle.lcm_routes.specs.declared.resources.Resource.TheVariants.{Occurrence, OccurrenceTask, Subscriptions}
use Rattle.lcm_routes.specs.declared.resources.Resource.TheVariants.{Subscription}
use Rattle.lcm_routes.specs.Targets.{segments}

-- names, each with the resource that it stands for
abbrev pub Names : Type 0
Names = List (List ℕ × Resource)

-- the tasks of an instance (SOL 003 5.4.4 to 5.4.10, from Instantiate VNF task to Operate VNF task)
abbrev pub instance_tasks : Names
instance_tasks =
    (codes "change_flavour", InstanceTask ChangeFlavour)
    ∷ (codes "heal", InstanceTask Heal)
    ∷ (codes "instantiate", InstanceTask Instantiate)
    ∷ (codes "operate", InstanceTask Operate)
    ∷ (codes "scale_to_level", InstanceTask ScaleToLevel)
    ∷ (codes "scale", InstanceTask Scale)
    ∷ (codes "terminate", InstanceTask Terminate)
    ∷ []

-- the tasks of an occurrence (SOL 003 5.4.14 to 5.4.17, Retry, Rollback, Fail and Cancel operation task)
abbrev pub occurrence_tasks : Names
occurrence_tasks =
    (codes "cancel", OccurrenceTask Cancel)
    ∷ (codes "fail", OccurrenceTask Fail)
    ∷ (codes "retry", OccurrenceTask Retry)
    ∷ (codes "rollback", OccurrenceTask Rollback)
    ∷ []

-- a subscription has no task (SOL 003 5.4.19, Individual subscription)
abbrev pub subscription_tasks : Names
subscription_tasks = []

-- what a name stands for
abbrev pub named : Names → List ℕ → Option Resource
named [] text = None
named ((name, resource) ∷ rest) text = if bytes_eq text name then Some resource else named rest text

-- a collection with its items: what the collection is, what one of its items is, and what stands under an item
pub record Collection : Type 0 where
  pub name : List ℕ
  pub whole : Resource
  pub item : Resource
  pub tasks : Names

-- the instances, the occurrences and the subscriptions (SOL 003 5.4.2, 5.4.12 and 5.4.18)
abbrev pub collections : List Collection
collections =
    record { name = codes "subscriptions"; whole = Subscriptions; item = Subscription; tasks = subscription_tasks }
    ∷ record { name = codes "vnf_instances"; whole = Instances; item = Instance; tasks = instance_tasks }
    ∷ record { name = codes "vnf_lcm_op_occs"; whole = Occurrences; item = Occurrence; tasks = occurrence_tasks }
    ∷ []

-- What these segments behind a collection's name stand for. An identifier is any segment that isn't empty; what stands
-- under it is one of its tasks.
abbrev pub below : Collection → List (List ℕ) → Option Resource
below c [] = Some c.whole
below c ([] ∷ rest) = None
below c ((byte ∷ id) ∷ []) = Some c.item
below c ((byte ∷ id) ∷ task ∷ []) = named c.tasks task
below c ((byte ∷ id) ∷ task ∷ more ∷ rest) = None

-- what these segments stand for, of which the first names one of the collections
abbrev pub among : List Collection → List (List ℕ) → Option Resource
among [] segments = None
among (c ∷ others) [] = None
among (c ∷ others) (name ∷ rest) = if bytes_eq name c.name then below c rest else among others (name ∷ rest)

-- the segments in front of each collection's name: the empty one before the first slash, the interface and its version
-- (SOL 003 5.3, Resource structure and methods)
abbrev pub root : List (List ℕ)
root = [] ∷ codes "vnflcm" ∷ codes "v1" ∷ []

-- what these segments stand for, which begin with those of this front
abbrev pub under : List (List ℕ) → List (List ℕ) → Option Resource
under [] segments = among collections segments
under (part ∷ front) [] = None
under (part ∷ front) (segment ∷ rest) = if bytes_eq segment part then under front rest else None

-- The resource that a path names, byte for byte; none where it is no path of the interface, as with a slash at its end,
-- an empty segment or other letters (SOL 003 5.3, RFC 3986 3.3).
abbrev pub resource_of : List ℕ → Option Resource
resource_of path = under root (segments path)
