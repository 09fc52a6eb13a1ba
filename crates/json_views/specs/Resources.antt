-- What stands of an instance, as its view shows it (SOL 003 5.5.2.2, instantiatedVnfInfo; 5.5.3, the resource infos of
-- an instance). Members stand in byte order of their names.
use Rattle.std.specs.Option.{option_map_or}
use Rattle.std.specs.Prelude.{List, [], Option, Some, None, ℕ, ◌++◌, codes, filter, if◌then◌else◌}
use Rattle.std.specs.Prelude.{is_some, map, slice_get, unwrap_or, zip}
use Rattle.serde_json.specs.Data.{Data, array, member, no_items, no_members, number, object, string, unsigned}
use Rattle.held_items.specs.Items.{item_of}
use Rattle.lcm_events.specs.Same.{same_kind}
use Rattle.lcm_events.specs.declared.asks.AspectLevel.{AspectLevel}
use Rattle.lcm_events.specs.declared.changes.DefKind.{DefKind}
use Rattle.lcm_events.specs.declared.changes.DefKind.TheVariants.{Compute, Link, Storage}
use Rattle.lcm_events.specs.declared.descriptor.Aspect.{Aspect}
use Rattle.lcm_events.specs.declared.descriptor.Vnfd.{Vnfd}
use Rattle.lcm_events.specs.declared.held.Held.{Held}
use Rattle.lcm_events.specs.declared.held.Holding.{Holding}
use Rattle.lcm_model.specs.Vnfcs.{def_of, storages_of}
use Rattle.json_bodies.specs.Machines.{machine_text}
use Rattle.json_bodies.specs.Words.{power_word}
use Rattle.json_views.specs.Views.{array_of}

-- the name of a VDU (SOL 001, Vdu.Compute), empty where the descriptor has none of this number
abbrev pub vdu_name : Vnfd → ℕ → List ℕ
vdu_name d v = option_map_or (λ u. u.name) (slice_get d.vdus v) []

-- the name of a storage (SOL 001, Vdu.VirtualBlockStorage), empty where the descriptor has none of this number
abbrev pub storage_name : Vnfd → ℕ → List ℕ
storage_name d k = option_map_or (λ x. x.name) (slice_get d.storages k) []

-- the name of a link (SOL 001, VnfVirtualLink), empty where the descriptor has none of this number
abbrev pub link_name : Vnfd → ℕ → List ℕ
link_name d k = unwrap_or (slice_get d.links k) []

-- the identifier of a machine: its VDU's name, `-` and its serial number (own rule)
unfoldable pub machine_id : Vnfd → ℕ → ℕ → List ℕ
machine_id d v s = machine_text (vdu_name d v) s

-- the identifier of a storage of a machine: the machine's, `/` and the storage's name (own rule)
unfoldable pub storage_id : Vnfd → ℕ → ℕ → ℕ → List ℕ
storage_id d v s k = machine_id d v s ++ codes "/" ++ storage_name d k

-- the infrastructure's name of a resource, and the connection to where it stands (SOL 003 5.5.3, ResourceHandle)
abbrev pub handle_of : List ℕ → List ℕ → Data
handle_of resource vim = object (member (codes "resourceId") (string resource)
    (member (codes "vimConnectionId") (string vim) no_members))

-- that of an item
abbrev pub handle : Held → Data
handle y = handle_of y.resource y.place.vim

-- the storages of its VDU that stand for this machine (own rule)
abbrev pub standing_storages : Vnfd → Holding → ℕ → ℕ → List ℕ
standing_storages d h v s = filter (λ k. is_some (item_of (def_of Storage v s k) h.items)) (storages_of d v)

-- their identifiers (SOL 003 5.5.3, VnfcResourceInfo, storageResourceIds)
unfoldable pub storage_ids : Vnfd → Holding → ℕ → ℕ → Data
storage_ids d h v s = array_of (λ k. string (storage_id d v s k)) (standing_storages d h v s)

-- a storage that stands (SOL 003 5.5.3, VirtualStorageResourceInfo)
abbrev pub storage_info : Vnfd → Held → Data
storage_info d y =
    object
    (member (codes "id") (string (storage_id d y.def.vdu y.def.serial y.def.item))
    (member (codes "storageResource") (handle y)
    (member (codes "virtualStorageDescId") (string (storage_name d y.def.item))
    no_members)))

-- a link that stands (SOL 003 5.5.3, VnfVirtualLinkResourceInfo)
abbrev pub link_info : Vnfd → Held → Data
link_info d y =
    object
    (member (codes "id") (string (link_name d y.def.item))
    (member (codes "networkResource") (handle y)
    (member (codes "vnfVirtualLinkDescId") (string (link_name d y.def.item))
    no_members)))

-- a compute that stands, with the storages of its machine (SOL 003 5.5.3, VnfcResourceInfo)
abbrev pub compute_info : Vnfd → Holding → Held → Data
compute_info d h y =
    object
    (member (codes "computeResource") (handle y)
    (member (codes "id") (string (machine_id d y.def.vdu y.def.serial))
    (member (codes "storageResourceIds") (storage_ids d h y.def.vdu y.def.serial)
    (member (codes "vduId") (string (vdu_name d y.def.vdu))
    no_members))))

-- what stands of a kind, in order of definition (own rule)
abbrev pub standing : DefKind → Holding → List Held
standing kind h = filter (λ y. same_kind y.def.kind kind) h.items

-- an aspect by its name, and the level that it is at (SOL 001, ScalingAspects)
abbrev pub level_of : Aspect × ℕ → AspectLevel
level_of x = record { aspect = x.0.name; level = x.1 }

-- the levels of the aspects, in order of aspect (SOL 001, ScalingAspects)
abbrev pub aspect_levels : Vnfd → Holding → List AspectLevel
aspect_levels d h = map level_of (zip d.aspects h.levels)

-- the level of an aspect (SOL 003 5.5.2.2, scaleStatus)
abbrev pub scale_info : AspectLevel → Data
scale_info x = object (member (codes "aspectId") (string x.aspect)
    (member (codes "scaleLevel") (number (unsigned x.level)) no_members))

-- what stands of an instance (SOL 003 5.5.2.2, instantiatedVnfInfo)
abbrev pub instantiated_info : Vnfd → Holding → Data
instantiated_info d h =
    object
    (member (codes "extCpInfo") (array no_items)
    (member (codes "flavourId") (string d.flavour_id)
    (member (codes "scaleStatus") (array_of scale_info (aspect_levels d h))
    (member (codes "virtualStorageResourceInfo") (array_of (storage_info d) (standing Storage h))
    (member (codes "vnfState") (string (power_word h.started))
    (member (codes "vnfVirtualLinkResourceInfo") (array_of (link_info d) (standing Link h))
    (member (codes "vnfcResourceInfo") (array_of (compute_info d h) (standing Compute h))
    no_members)))))))

-- the same, where the instance is INSTANTIATED
abbrev pub info_where : Vnfd → Holding → Option Data
info_where d h = if h.instantiated then Some (instantiated_info d h) else None
