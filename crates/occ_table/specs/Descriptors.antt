-- Which descriptor each instance was made of (SOL 003 5.5.2.2, VnfInstance, vnfdId).
use Rattle.std.specs.List.{AllByRecursion}
use Rattle.std.specs.Prelude.{List, None, Option, [], if◌then◌else◌, length, map, option_map, reverse, slice_get}
use Rattle.std.specs.Prelude.{unwrap_or, ℕ, ◌++◌, ◌-◌, ◌<◌, ◌==◌, ◌∷◌}
use Rattle.lcm_events.specs.declared.events.Event.{Event}
use Rattle.lcm_events.specs.declared.events.EventKind.{EventKind}
use Rattle.lcm_events.specs.declared.events.EventKind.TheVariants.{Created}
use Rattle.lcm_model.specs.Lives.{creation, creations}

-- the identifier of the descriptor of the instance of this number, or no bytes where there is no such instance (SOL 003
-- 5.5.2.2, vnfdId)
abbrev pub vnfd : List Event → ℕ → List ℕ
vnfd H i = unwrap_or (option_map (λ x. x.vnfd) (creation H i)) []

-- the identifier of the descriptor of each instance that was ever created, in the order of the instances' numbers (SOL
-- 003 5.5.2.2, vnfdId)
abbrev pub vnfds : List Event → List (List ℕ)
vnfds H = reverse (map (λ x. x.vnfd) (creations H))

-- what stands at the place of this number, which counts from 1
abbrev pub numbered : {A : Type 0} → ℕ → List A → Option A
numbered n xs = if n == 0 then None else slice_get xs (n - 1)

-- the descriptor of the instance of this number, among those of all instances
abbrev pub vnfd_in : ℕ → List (List ℕ) → List ℕ
vnfd_in i vs = unwrap_or (numbered i vs) []

-- the descriptors of the instances after an event
abbrev pub vnfds_after : EventKind → List (List ℕ) → List (List ℕ)
vnfds_after (Created instance vnfd name text) vs = vs ++ vnfd ∷ []
vnfds_after _ vs = vs

-- the name at this place of a list, or no bytes beyond its end
abbrev pub name_at : List (List ℕ) → ℕ → List ℕ
name_at names n = unwrap_or (slice_get names n) []

-- the descriptors of instances that are told by places in a list of names (own format)
abbrev pub named_by : List (List ℕ) → List ℕ → List (List ℕ)
named_by names numbers = map (name_at names) numbers

-- each place is one of the list (own format)
abbrev pub NamesEach : List (List ℕ) → List ℕ → Type 0
NamesEach names numbers = AllByRecursion (λ n. n < length names) numbers

-- what is kept of descriptors: that of each instance, and for how many more instances there is room (own rule)
pub record KeptDescriptors : Type 0 where
  pub vnfds : List (List ℕ)
  pub spare : ℕ
