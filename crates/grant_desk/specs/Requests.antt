-- The body of a grant request: who asks, what for, and what is to be created, removed and updated (SOL 003 9.4.2,
-- Grants; 9.5.2.2, GrantRequest; 9.5.3.2, ResourceDefinition). Members stand in byte order of their names.
use Rattle.std.specs.List.{enumerate_from}
use Rattle.std.specs.Option.{option_map_or}
use Rattle.std.specs.Prelude.{List, [], ℕ, Option, None, Some, ◌++◌, codes, false, filter, map, option_map}
use Rattle.std.specs.Prelude.{slice_get}
use Rattle.serde_json.specs.Data.{Data, Members, array, boolean, member, no_members, object, string}
use Rattle.serde_json.specs.View.{items_of}
use Rattle.serde_json.specs.Written.{compact_text}
use Rattle.vnfm_base.specs.Ident.{ident, ident_text}
use Rattle.vnfm_base.specs.declared.identifier.Kind.TheVariants as named
use Rattle.lcm_events.specs.declared.asks.Ask.{Ask}
use Rattle.lcm_events.specs.declared.asks.OpKind.{OpKind}
use Rattle.lcm_events.specs.declared.asks.OpKind.TheVariants.{ChangeFlavour, Heal, Instantiate, Operate, Scale}
use Rattle.lcm_events.specs.declared.asks.OpKind.TheVariants.{ScaleToLevel, Terminate}
use Rattle.lcm_events.specs.declared.changes.Change.{Change}
use Rattle.lcm_events.specs.declared.changes.Def.{Def}
use Rattle.lcm_events.specs.declared.changes.DefKind.{DefKind}
use Rattle.lcm_events.specs.declared.changes.DefKind.TheVariants.{Compute, Link, Port, Storage}
use Rattle.lcm_events.specs.declared.changes.Verb.{Verb}
use Rattle.lcm_events.specs.declared.changes.Verb.TheVariants.{Create}
use Rattle.lcm_events.specs.declared.descriptor.Vnfd.{Vnfd}
use Rattle.lcm_events.specs.declared.held.Held.{Held}
use Rattle.lcm_events.specs.declared.held.Holding.{Holding}
use Rattle.lcm_model.specs.Grants.{change_id}
use Rattle.lcm_model.specs.Operations.{kind_of}
use Rattle.change_planner.specs.Acts.{template_name}
use Rattle.held_items.specs.Items.{item_of}
use Rattle.grant_desk.specs.Parts.{asks}
use Rattle.grant_desk.specs.declared.parts.Part.{Part}
use Rattle.grant_desk.specs.declared.parts.Part.TheVariants as part
use Rattle.grant_desk.specs.declared.requests.GrantAsker.{GrantAsker}

-- a member that is there where there is a value of it, and then the rest (RFC 8259 4)
abbrev pub member_where : List ℕ → Option Data → Members → Members
member_where name None rest = rest
member_where name (Some d) rest = member name d rest

-- the infrastructure's name of a resource, and the connection to where it stands (SOL 003 9.5.3.2, resource; 4.4.1.7,
-- ResourceHandle)
abbrev pub handle : Held → Data
handle y = object (member (codes "resourceId") (string y.resource)
    (member (codes "vimConnectionId") (string y.place.vim) no_members))

-- the resource of a change: none where it is created, else what stands (SOL 003 9.5.3.2)
abbrev pub resource_for : Verb → Option Held → Option Data
resource_for Create y = None
resource_for _ y = option_map handle y

-- the type of a resource definition (SOL 003 9.5.3.2)
abbrev pub type_word : DefKind → List ℕ
type_word Link = codes "VL"
type_word Storage = codes "STORAGE"
type_word Compute = codes "COMPUTE"
type_word Port = codes "LINKPORT"

-- the name of the VDU of a definition, which a link has none of (SOL 003 9.5.3.2)
abbrev pub vdu_for : Vnfd → DefKind → Def → Option Data
vdu_for d Link x = None
vdu_for d _ x = Some (string (option_map_or (λ u. u.name) (slice_get d.vdus x.vdu) []))

-- a change with its number, over what stands (SOL 003 9.5.3.2)
abbrev pub entry : Vnfd → Holding → ℕ × Change → Data
entry d h x =
    object
    (member (codes "id") (string (change_id x.0))
    (member_where (codes "resource") (resource_for x.1.verb (item_of x.1.def h.items))
    (member (codes "resourceTemplateId") (string (template_name d x.1.def.kind x.1.def))
    (member (codes "type") (string (type_word x.1.def.kind))
    (member_where (codes "vduId") (vdu_for d x.1.def.kind x.1.def)
    no_members)))))

-- what is asked for in a part, in the order of the plan (SOL 003 9.5.2.2)
unfoldable pub entries : Vnfd → Holding → Part → List Change → Data
entries d h part xs = array (items_of (map (entry d h) (filter (λ x. asks part x.1.verb) (enumerate_from 0 xs))))

-- the identifiers of an instance and of an occurrence (RFC 9562 4)
unfoldable pub instance_id : ℕ → ℕ → List ℕ
instance_id manager n = ident_text (ident manager named.Instance n)

unfoldable pub occurrence_id : ℕ → ℕ → List ℕ
occurrence_id manager n = ident_text (ident manager named.Occurrence n)

-- a link to a path (SOL 013)
abbrev pub link : List ℕ → Data
link path = object (member (codes "href") (string path) no_members)

-- the links of a grant request: to the instance and to the occurrence (SOL 003 9.5.2.2)
abbrev pub links : List ℕ → List ℕ → Data
links instance occ =
    object
    (member (codes "vnfInstance") (link (codes "/vnflcm/v1/vnf_instances/" ++ instance))
    (member (codes "vnfLcmOpOcc") (link (codes "/vnflcm/v1/vnf_lcm_op_occs/" ++ occ))
    no_members))

-- the word for an operation (SOL 003 9.5.4.2, GrantedLcmOperationType)
abbrev pub operation_word : OpKind → List ℕ
operation_word Instantiate = codes "INSTANTIATE"
operation_word Scale = codes "SCALE"
operation_word ScaleToLevel = codes "SCALE_TO_LEVEL"
operation_word Heal = codes "HEAL"
operation_word Operate = codes "OPERATE"
operation_word Terminate = codes "TERMINATE"
operation_word ChangeFlavour = codes "CHANGE_FLAVOUR"

-- a grant request (SOL 003 9.5.2.2, GrantRequest)
abbrev pub request : Vnfd → Holding → GrantAsker → Ask → List Change → Data
request d h who ask xs =
    object
    (member (codes "_links") (links (instance_id who.manager who.instance) (occurrence_id who.manager who.occ))
    (member (codes "addResources") (entries d h part.Add xs)
    (member (codes "flavourId") (string d.flavour_id)
    (member (codes "isAutomaticInvocation") (boolean false)
    (member (codes "operation") (string (operation_word (kind_of ask)))
    (member (codes "removeResources") (entries d h part.Remove xs)
    (member (codes "updateResources") (entries d h part.Update xs)
    (member (codes "vnfInstanceId") (string (instance_id who.manager who.instance))
    (member (codes "vnfLcmOpOccId") (string (occurrence_id who.manager who.occ))
    (member (codes "vnfdId") (string d.descriptor_id)
    no_members))))))))))

-- its text
unfoldable pub request_text : Vnfd → Holding → GrantAsker → Ask → List Change → List ℕ
request_text d h who ask xs = compact_text (request d h who ask xs)
