-- The members of a view as they are put, one after another.
use Rattle.std.specs.Prelude.{Bool, List, ℕ, codes}
use Rattle.serde_json.specs.Data.{Data, string, Members, no_members, member, put}
use Rattle.lcm_events.specs.declared.descriptor.Vnfd.{Vnfd}
use Rattle.json_views.specs.Instance.{instantiation_state}

-- the members on the descriptor's product put to these
unfoldable pub with_product : Vnfd → Members → Members
with_product vnfd members =
    put (codes "vnfSoftwareVersion") (string vnfd.software_version)
    (put (codes "vnfProvider") (string vnfd.provider) (put (codes "vnfProductName") (string vnfd.product_name) members))

-- the members that every view of an instance has, for its identifier, its links, its state, its `vnfdId` and its
-- descriptor
unfoldable pub needed_members : List ℕ → Data → Bool → List ℕ → Vnfd → Members
needed_members id links instantiated vnfd_id vnfd =
    (member (codes "_links") links
    (member (codes "id") (string id)
    (member (codes "instantiationState") (string (instantiation_state instantiated))
    (member (codes "vnfProductName") (string vnfd.product_name)
    (member (codes "vnfProvider") (string vnfd.provider)
    (member (codes "vnfSoftwareVersion") (string vnfd.software_version)
    (member (codes "vnfdId") (string vnfd_id)
    (member (codes "vnfdVersion") (string vnfd.descriptor_version)
    no_members))))))))
