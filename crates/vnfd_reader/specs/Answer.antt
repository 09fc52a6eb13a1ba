-- What bytes are as a descriptor: the first thing that is wrong with them, or what they say (SOL 001; order and limits:
-- own rule, docs/DESCRIPTORS.md).
use Rattle.std.specs.Prelude.{ℕ, List, [], ◌∷◌, ◌&&◌, if◌then◌else◌, map, Option, Some, None, Result, Ok, Err, codes}
use Rattle.std.specs.List.{list_all}
use Rattle.std.specs.Option.{option_or}
use Rattle.serde_json.specs.Data.{Data, null}
use Rattle.lcm_events.specs.declared.descriptor.Vdu.{Vdu}
use Rattle.lcm_events.specs.declared.descriptor.Vnfd.{Vnfd}
use Rattle.vnfd_document.specs.declared.fault.VnfdFault.{VnfdFault}
use Rattle.vnfd_document.specs.declared.fault.VnfdFault.TheVariants.{Lacks, Wrong}
use Rattle.vnfd_document.specs.Checks.{first_fault}
use Rattle.vnfd_document.specs.Document.{document}
use Rattle.vnfd_document.specs.Json.{Named}
use Rattle.vnfd_document.specs.Names.{is_given_name, name_or_empty}
use Rattle.vnfd_document.specs.Places.{node_templates, policies}
use Rattle.vnfd_nodes.specs.Built.{port_of, storage_of, vdu_of}
use Rattle.vnfd_nodes.specs.Nodes.{Nodes, counts_refusal, have_all_names, nodes_in, product_refusal, properties_refusal}
use Rattle.vnfd_nodes.specs.Nodes.{property_of, templates_refusal}
use Rattle.vnfd_policies.specs.Initial.{initial_of}
use Rattle.vnfd_policies.specs.Levels.{default_of, levels_of}
use Rattle.vnfd_policies.specs.Refusal.{level_policies, policies_refusal, policy_names}
use Rattle.vnfd_policies.specs.Rows.{aspects_of}
use Rattle.vnfd_reader.specs.Steps.{steps_refusal}

-- the template that describes the product: the first of those that do
abbrev pub product_of : List Named → Data
product_of [] = null
product_of (x ∷ xs) = x.1

-- all names that the descriptor keeps are names that aren't empty
unfoldable pub names_refusal : Nodes → List Named → Option VnfdFault
names_refusal n ps = if have_all_names n && list_all is_given_name (policy_names ps) then None
    else Some (Wrong (codes "name"))

-- the first thing that is wrong with node templates and policies, but for the numbers stated for levels
abbrev pub parts_refusal : Nodes → List Named → Option VnfdFault
parts_refusal n ps =
    first_fault
    (properties_refusal (product_of n.products)
    ∷ names_refusal n ps
    ∷ counts_refusal n
    ∷ templates_refusal n
    ∷ policies_refusal n.vdus ps
    ∷ [])

-- the VDUs, with the number of instances that the policies give each at first
unfoldable pub vdus_of : List Named → List Named → List Named → List Vdu
vdus_of storages ps vdus = map (λ x. vdu_of storages (initial_of ps x.0) x) vdus

-- the descriptor that node templates and policies say (SOL 001)
unfoldable pub vnfd_of : Nodes → List Named → Vnfd
vnfd_of n ps = record {
  descriptor_id = property_of (product_of n.products) (codes "descriptor_id");
  provider = property_of (product_of n.products) (codes "provider");
  product_name = property_of (product_of n.products) (codes "product_name");
  software_version = property_of (product_of n.products) (codes "software_version");
  descriptor_version = property_of (product_of n.products) (codes "descriptor_version");
  flavour_id = property_of (product_of n.products) (codes "flavour_id");
  vdus = vdus_of n.storages ps n.vdus;
  storages = map storage_of n.storages;
  links = map (λ x. name_or_empty x.0) n.links;
  ports = map (port_of n.vdus n.links) n.ports;
  aspects = aspects_of n.vdus ps;
  levels = levels_of ps;
  default_level = default_of ps;
}

-- the descriptor, unless something is wrong
abbrev pub unless : Option VnfdFault → Vnfd → Result Vnfd VnfdFault
unless None v = Ok v
unless (Some fault) v = Err fault

-- the product is described once, its parts are as they should be, and then the numbers stated for levels
unfoldable pub parts_answer : Nodes → List Named → Result Vnfd VnfdFault
parts_answer n ps =
    unless
    (option_or (product_refusal n.products)
    (option_or (parts_refusal n ps)
    (steps_refusal (vnfd_of n ps) n.vdus (level_policies ps))))
    (vnfd_of n ps)

-- what a document is: it has node templates, and its parts are a descriptor
abbrev pub templates_answer : Option (List Named) → List Named → Result Vnfd VnfdFault
templates_answer None ps = Err (Lacks (codes "node_templates"))
templates_answer (Some templates) ps = parts_answer (nodes_in templates) ps

unfoldable pub document_answer : Data → Result Vnfd VnfdFault
document_answer d = templates_answer (node_templates d) (policies d)

-- what the bytes are: a document, and then a descriptor
abbrev pub read_answer : Result Data VnfdFault → Result Vnfd VnfdFault
read_answer (Ok d) = document_answer d
read_answer (Err fault) = Err fault

unfoldable pub answer : List ℕ → Result Vnfd VnfdFault
answer bytes = read_answer (document bytes)
