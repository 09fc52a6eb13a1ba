-- The node templates of a descriptor: the first thing that is wrong with them, and the VDUs, storages, links and ports
-- that they are (SOL 001, node types).
use Rattle.std.specs.List.{list_all, list_any}
use Rattle.std.specs.Option.{option_or}
use Rattle.std.specs.Str.{bytes_eq}
use Rattle.std.specs.Prelude.{ℕ, List, [], ◌∷◌, ◌&&◌, Bool, filter, length, nat_le, if◌then◌else◌, Option, Some, None}
use Rattle.std.specs.Prelude.{is_some, option_and_then, unwrap_or, codes}
use Rattle.serde_json.specs.Data.{Data}
use Rattle.serde_json.specs.Find.{as_str}
use Rattle.vnfd_document.specs.declared.fault.VnfdFault.{VnfdFault}
use Rattle.vnfd_document.specs.declared.fault.VnfdFault.TheVariants.{Lacks, TooMany, Wrong}
use Rattle.vnfd_document.specs.Checks.{first_failing, first_fault}
use Rattle.vnfd_document.specs.Json.{Named, at, whole}
use Rattle.vnfd_document.specs.Members.{needed, optional}
use Rattle.vnfd_document.specs.Names.{is_given_name, is_name, unknown}
use Rattle.vnfd_document.specs.Places.{node_named, of_type, property, required}
use Rattle.vnfd_nodes.specs.Sizes.{size_of}

-- ---- the templates by type

-- the node templates of a descriptor, by type
pub record Nodes : Type 0 where
  pub products : List Named
  pub vdus : List Named
  pub storages : List Named
  pub links : List Named
  pub ports : List Named

-- the templates with an identifier of a descriptor (SOL 001, the node type of a VNF, descriptor_id)
abbrev pub products_in : List Named → List Named
products_in templates = filter (λ x. is_some (property (codes "descriptor_id") x.1)) templates

-- those that describe the product, the VDUs, the storages, the links and the ports among these templates (SOL 001, node
-- types)
abbrev pub nodes_in : List Named → Nodes
nodes_in templates = record {
  products = products_in templates;
  vdus = of_type (codes "tosca.nodes.nfv.Vdu.Compute") templates;
  storages = of_type (codes "tosca.nodes.nfv.Vdu.VirtualBlockStorage") templates;
  links = of_type (codes "tosca.nodes.nfv.VnfVirtualLink") templates;
  ports = of_type (codes "tosca.nodes.nfv.VduCp") templates;
}

-- ---- members

-- the size that a value is (TOSCA Simple Profile 1.2, scalar-unit.size)
abbrev pub size : Data → Option ℕ
size d = option_and_then size_of (as_str d)

-- the name that a value is
abbrev pub name_text : List ℕ → Option (List ℕ)
name_text text = if is_name text then Some text else None

abbrev pub name : Data → Option (List ℕ)
name d = option_and_then name_text (as_str d)

-- the memory of a VDU (SOL 001, tosca.datatypes.nfv.VirtualMemory)
abbrev pub memory_at : Data → Option Data
memory_at d = at (codes "capabilities" ∷ codes "virtual_compute" ∷ codes "properties" ∷ codes "virtual_memory"
    ∷ codes "virtual_mem_size" ∷ []) d

-- the processors of a VDU (SOL 001, tosca.datatypes.nfv.VirtualCpu)
abbrev pub cpus_at : Data → Option Data
cpus_at d = at (codes "capabilities" ∷ codes "virtual_compute" ∷ codes "properties" ∷ codes "virtual_cpu"
    ∷ codes "num_virtual_cpu" ∷ []) d

-- the greatest number of instances of a VDU (SOL 001, tosca.datatypes.nfv.VduProfile)
abbrev pub maximum_at : Data → Option Data
maximum_at d = at (codes "properties" ∷ codes "vdu_profile" ∷ codes "max_number_of_instances" ∷ []) d

-- the size of a storage (SOL 001, tosca.datatypes.nfv.VirtualBlockStorageData)
abbrev pub size_at : Data → Option Data
size_at d = at (codes "properties" ∷ codes "virtual_block_storage_data" ∷ codes "size_of_storage" ∷ []) d

-- ---- the checks, in their order

-- exactly one template describes the product
abbrev pub product_refusal : List Named → Option VnfdFault
product_refusal [] = Some (Lacks (codes "descriptor_id"))
product_refusal (x ∷ []) = None
product_refusal (x ∷ y ∷ rest) = Some (Wrong (codes "descriptor_id"))

-- the product's properties are there and names (SOL 001, the node type of a VNF)
abbrev pub product_properties : List (List ℕ)
product_properties = codes "descriptor_id" ∷ codes "provider" ∷ codes "product_name" ∷ codes "software_version"
    ∷ codes "descriptor_version" ∷ codes "flavour_id" ∷ []

abbrev pub property_refusal : Data → List ℕ → Option VnfdFault
property_refusal d key = needed key name (property key d)

-- this property of the product, where it is a name, else the empty name
abbrev pub property_of : Data → List ℕ → List ℕ
property_of d key = unwrap_or (option_and_then name (property key d)) []

-- a property isn't the empty name
abbrev pub empty_refusal : Data → List ℕ → Option VnfdFault
empty_refusal d key = if bytes_eq (property_of d key) [] then Some (Wrong key) else None

-- all properties are there and names
unfoldable pub missing_refusal : Data → Option VnfdFault
missing_refusal d = first_failing (property_refusal d) product_properties

-- the identifiers of the descriptor and of its flavour aren't empty
unfoldable pub empties_refusal : Data → Option VnfdFault
empties_refusal d = first_failing (empty_refusal d) (codes "descriptor_id" ∷ codes "flavour_id" ∷ [])

-- both, in this order
abbrev pub properties_refusal : Data → Option VnfdFault
properties_refusal d = option_or (missing_refusal d) (empties_refusal d)

-- the names of these templates are names that aren't empty
abbrev pub have_names : List Named → Bool
have_names xs = list_all (λ x. is_given_name x.0) xs

-- the names of the VDUs, storages, links and ports are names that aren't empty
unfoldable pub have_all_names : Nodes → Bool
have_all_names n = have_names n.vdus && have_names n.storages && have_names n.links && have_names n.ports

-- there are at most so many (own limits)
abbrev pub count_refusal : List ℕ → ℕ → List Named → Option VnfdFault
count_refusal what most xs = if nat_le (length xs) most then None else Some (TooMany what)

unfoldable pub counts_refusal : Nodes → Option VnfdFault
counts_refusal n =
    first_fault
    (count_refusal (codes "vdus") 64 n.vdus
    ∷ count_refusal (codes "storages") 128 n.storages
    ∷ count_refusal (codes "links") 64 n.links
    ∷ count_refusal (codes "ports") 256 n.ports
    ∷ [])

-- a VDU's memory is a size, and its processors are from 1 to 65,535
unfoldable pub compute_refusal : Named → Option VnfdFault
compute_refusal x =
    first_fault
    (needed (codes "virtual_mem_size") size (memory_at x.1)
    ∷ needed (codes "num_virtual_cpu") (whole 1 65535) (cpus_at x.1)
    ∷ [])

-- a VDU's maximum, where there is one, is a whole number to 65,535
abbrev pub maximum_refusal : Named → Option VnfdFault
maximum_refusal x = optional (codes "max_number_of_instances") (whole 0 65535) (maximum_at x.1)

-- one of these has this name
abbrev pub is_known : List Named → List ℕ → Bool
is_known xs target = list_any (λ x. bytes_eq target x.0) xs

-- what a requirement aims at is one of these
abbrev pub aim_refusal : List Named → Option (List ℕ) → Option VnfdFault
aim_refusal known None = Some (Wrong (codes "name"))
aim_refusal known (Some target) = if is_known known target then None else Some (unknown target)

-- what these requirements aim at is among these
unfoldable pub aims_refusal : List Named → List Data → Option VnfdFault
aims_refusal known requirements = first_failing (λ r. aim_refusal known (node_named r)) requirements

-- a VDU's storages are storages
abbrev pub storage_refusal : List Named → Named → Option VnfdFault
storage_refusal storages x = aims_refusal storages (required (codes "virtual_storage") x.1)

-- a storage's size, where there is one, is a size
abbrev pub size_refusal : Named → Option VnfdFault
size_refusal x = optional (codes "size_of_storage") size (size_at x.1)

-- a port has a VDU that is known: the first thing that it is bound to, and whatever else it is bound to
unfoldable pub binding_refusal : List Named → List Data → Option VnfdFault
binding_refusal vdus [] = Some (Lacks (codes "virtual_binding"))
binding_refusal vdus (d ∷ ds) = aims_refusal vdus (d ∷ ds)

-- a port's VDU is known, and its link, where it has one
unfoldable pub port_refusal : List Named → List Named → Named → Option VnfdFault
port_refusal vdus links x =
    option_or (binding_refusal vdus (required (codes "virtual_binding") x.1))
    (aims_refusal links (required (codes "virtual_link") x.1))

-- the checks of all VDUs, storages and ports
unfoldable pub computes_refusal : Nodes → Option VnfdFault
computes_refusal n = first_failing compute_refusal n.vdus

unfoldable pub maxima_refusal : Nodes → Option VnfdFault
maxima_refusal n = first_failing maximum_refusal n.vdus

unfoldable pub storages_refusal : Nodes → Option VnfdFault
storages_refusal n = first_failing (storage_refusal n.storages) n.vdus

unfoldable pub sizes_refusal : Nodes → Option VnfdFault
sizes_refusal n = first_failing size_refusal n.storages

unfoldable pub ports_refusal : Nodes → Option VnfdFault
ports_refusal n = first_failing (port_refusal n.vdus n.links) n.ports

-- the VDUs, storages and ports are as they should be, check after check, and within a check template after template
abbrev pub templates_refusal : Nodes → Option VnfdFault
templates_refusal n =
    first_fault (computes_refusal n ∷ maxima_refusal n ∷ storages_refusal n ∷ sizes_refusal n ∷ ports_refusal n ∷ [])
