-- The view of an instance (SOL 003 5.5.2.2, VnfInstance). Members stand in byte order of their names.
use Rattle.std.specs.Prelude.{Bool, ℕ, List, ◌++◌, codes, if◌then◌else◌, Some, option_map}
use Rattle.serde_json.specs.Data.{Data, string, object, no_members, member}
use Rattle.serde_json.specs.Written.{compact_text}
use Rattle.vnfm_base.specs.Ident.{ident, ident_text}
use Rattle.vnfm_base.specs.declared.identifier.Kind.TheVariants.{Instance}
use Rattle.instance_table.specs.Steps.{first_instance}
use Rattle.instance_table.specs.declared.rows.InstanceRow.{InstanceRow}
use Rattle.lcm_events.specs.declared.descriptor.Vnfd.{Vnfd}
use Rattle.json_views.specs.Links.{links}
use Rattle.json_views.specs.Resources.{info_where}
use Rattle.json_views.specs.Views.{member_where}
use Rattle.json_bodies.specs.declared.body.CreateBody.{CreateBody}

-- the text of the identifier of instance n (RFC 9562 4)
unfoldable pub instance_id : ℕ → ℕ → List ℕ
instance_id manager n = ident_text (ident manager Instance n)

-- where instance n is found (SOL 003 5.4.3)
unfoldable pub instance_path : ℕ → ℕ → List ℕ
instance_path manager n = codes "/vnflcm/v1/vnf_instances/" ++ instance_id manager n

-- the state of an instance (SOL 003 5.5.2.2, instantiationState)
abbrev pub instantiation_state : Bool → List ℕ
instantiation_state instantiated = if instantiated then codes "INSTANTIATED" else codes "NOT_INSTANTIATED"

-- instance n, of this row, as its descriptor has it (SOL 003 5.5.2.2)
abbrev pub instance_value : ℕ → ℕ → InstanceRow → Vnfd → Data
instance_value manager n row d =
    object
    (member (codes "_links") (links row.holding.instantiated (instance_path manager n))
    (member (codes "id") (string (instance_id manager n))
    (member_where (codes "instantiatedVnfInfo") (info_where d row.holding)
    (member (codes "instantiationState") (string (instantiation_state row.holding.instantiated))
    (member_where (codes "vnfInstanceDescription") (option_map string row.text)
    (member_where (codes "vnfInstanceName") (option_map string row.name)
    (member (codes "vnfProductName") (string d.product_name)
    (member (codes "vnfProvider") (string d.provider)
    (member (codes "vnfSoftwareVersion") (string d.software_version)
    (member (codes "vnfdId") (string row.vnfd)
    (member (codes "vnfdVersion") (string d.descriptor_version)
    no_members)))))))))))

-- its text
unfoldable pub instance_text : ℕ → ℕ → InstanceRow → Vnfd → List ℕ
instance_text manager n row d = compact_text (instance_value manager n row d)

-- the row of instance n, which was just created with this body (SOL 003 5.4.2)
abbrev pub created_row : ℕ → CreateBody → Vnfd → InstanceRow
created_row n body d = first_instance (Some d) n body.vnfd body.name body.text

-- the text of the view of an instance that was just created: that of its row
unfoldable pub created_text : ℕ → ℕ → CreateBody → Vnfd → List ℕ
created_text manager n body d = instance_text manager n (created_row n body d) d
