-- Where things stand in a descriptor: node templates, policies, what they require and what they aim at (TOSCA Simple
-- Profile 1.2, SOL 001).
use Rattle.std.specs.Cmp.Lexicographic.{slice_cmp}
use Rattle.std.specs.List.{filter_map, list_all}
use Rattle.std.specs.Ordering.{is_lt, nat_cmp}
use Rattle.std.specs.Option.{option_map_or, option_or}
use Rattle.std.specs.Str.{bytes_eq}
use Rattle.std.specs.Prelude.{map, ℕ, List, [], ◌∷◌, Bool, false, if◌then◌else◌, filter, Option, Some, None}
use Rattle.std.specs.Prelude.{option_and_then, option_map, codes, is_some}
use Rattle.serde_json.specs.Data.{Data, null, boolean, number, string, array, object}
use Rattle.serde_json.specs.Find.{get, as_array, as_object, as_str}
use Rattle.vnfd_document.specs.Json.{Named, at, is_text, items_in, members_in, named_entries}

-- the node templates, in byte order of their names, where there are any (TOSCA Simple Profile 1.2, topology_template)
abbrev pub node_templates : Data → Option (List Named)
node_templates d = option_map members_in (option_and_then as_object
    (at (codes "topology_template" ∷ codes "node_templates" ∷ []) d))

-- a named thing put before the first whose name isn't less
abbrev pub put_by_name : Named → List Named → List Named
put_by_name x [] = x ∷ []
put_by_name x (y ∷ ys) = if is_lt (slice_cmp nat_cmp y.0 x.0) then y ∷ put_by_name x ys else x ∷ y ∷ ys

-- named things in byte order of their names, and those of one name in the order of the list
abbrev pub by_name : List Named → List Named
by_name [] = []
by_name (x ∷ xs) = put_by_name x (by_name xs)

-- the policies of a list of one-member objects, or of an object (TOSCA Simple Profile 1.2, policies)
abbrev pub policies_in : Data → List Named
policies_in null = []
policies_in (boolean b) = []
policies_in (number n) = []
policies_in (string s) = []
policies_in (array ds) = by_name (named_entries (array ds))
policies_in (object ms) = members_in ms

-- the policies, in byte order of their names, and those of one name in the order of the list
abbrev pub policies : Data → List Named
policies d = option_map_or policies_in (at (codes "topology_template" ∷ codes "policies" ∷ []) d) []

-- the thing is of this type (TOSCA Simple Profile 1.2, type)
abbrev pub has_type : List ℕ → Data → Bool
has_type kind d = option_map_or (is_text kind) (get (codes "type") d) false

-- the things of this type
abbrev pub of_type : List ℕ → List Named → List Named
of_type kind xs = filter (λ x. has_type kind x.1) xs

-- the member of this name of the thing's properties (TOSCA Simple Profile 1.2, properties)
abbrev pub property : List ℕ → Data → Option Data
property name d = at (codes "properties" ∷ name ∷ []) d

-- what a template requires, by name, in the order of the list (TOSCA Simple Profile 1.2, requirements)
abbrev pub requirements : Data → List Named
requirements d = option_map_or named_entries (get (codes "requirements") d) []

-- what stands under this name, in order
abbrev pub under : List ℕ → List Named → List Data
under name xs = map (λ x. x.1) (filter (λ x. bytes_eq name x.0) xs)

-- what a template requires under this name, in the order of the list (TOSCA Simple Profile 1.2, requirements)
abbrev pub required : List ℕ → Data → List Data
required name d = under name (requirements d)

-- the template that a requirement names: a text, or an object with the text `node` (TOSCA Simple Profile 1.2,
-- requirements)
abbrev pub node_named : Data → Option (List ℕ)
node_named d = option_or (as_str d) (option_and_then as_str (get (codes "node") d))

-- the texts of a list, where each entry is one
abbrev pub texts_of : List Data → Option (List (List ℕ))
texts_of ds = if list_all (λ d. is_some (as_str d)) ds then Some (filter_map as_str ds) else None

-- what a policy aims at: none where it has no targets, else the texts of the list, where it is one (TOSCA Simple
-- Profile 1.2, targets)
abbrev pub targets_in : Option Data → Option (List (List ℕ))
targets_in None = Some []
targets_in (Some d) = option_and_then (λ items. texts_of (items_in items)) (as_array d)

abbrev pub targets : Data → Option (List (List ℕ))
targets d = targets_in (get (codes "targets") d)
