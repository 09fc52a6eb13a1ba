-- What the changes of an occurrence did to resources (SOL 003 5.5.2.13, VnfLcmOpOcc, resourceChanges; 5.5.3, the
-- affected resources). Members stand in byte order of their names.
use Rattle.std.specs.List.{range_with_len}
use Rattle.std.specs.Option.{option_map_or}
use Rattle.std.specs.Prelude.{Bool, List, None, Option, codes, false, filter, filter_map, if◌then◌else◌, length}
use Rattle.std.specs.Prelude.{option_and_then, option_map, slice_get, ℕ, ◌==◌}
use Rattle.serde_json.specs.Data.{Data, member, no_members, object, string}
use Rattle.lcm_events.specs.Same.{same_kind}
use Rattle.lcm_events.specs.declared.changes.Change.{Change}
use Rattle.lcm_events.specs.declared.changes.DefKind.{DefKind}
use Rattle.lcm_events.specs.declared.changes.DefKind.TheVariants.{Compute, Link, Storage}
use Rattle.lcm_events.specs.declared.descriptor.Vnfd.{Vnfd}
use Rattle.occ_table.specs.declared.rows.OccRow.{OccRow}
use Rattle.occ_table.specs.declared.used.Used.{Used}
use Rattle.json_views.specs.Resources.{handle_of, link_name, machine_id, storage_id, storage_name, vdu_name}
use Rattle.json_views.specs.Views.{array_of}
use Rattle.json_views.specs.Words.{change_word}
use Rattle.json_views.specs.declared.affected.Affected.{Affected}

-- the change of this number is made: its net is 1 (own rule)
abbrev pub is_made : OccRow → ℕ → Bool
is_made row c = option_map_or (λ n. n == 1) (slice_get row.nets c) false

-- what the change of this number used last, once it is made (SOL 003 5.5.2.13, resourceChanges)
abbrev pub used_once_made : OccRow → ℕ → Option Used
used_once_made row c = if is_made row c then option_and_then (λ u. u) (slice_get row.used c) else None

-- a change with what it used
abbrev pub with_used : Change → Option Used → Option Affected
with_used x used = option_map (λ u. record { change = x; used = u }) used

-- the change of this number with what it used, where it is made (SOL 003 5.5.2.13, resourceChanges)
abbrev pub made_at : OccRow → ℕ → Option Affected
made_at row c = option_and_then (λ x. with_used x (used_once_made row c)) (slice_get row.changes c)

-- the changes that are made, in the order of the plan (SOL 003 5.5.2.13, resourceChanges)
abbrev pub affected : OccRow → List Affected
affected row = filter_map (made_at row) (range_with_len 0 (length row.changes))

-- those of a kind
abbrev pub of_kind : DefKind → List Affected → List Affected
of_kind kind xs = filter (λ x. same_kind x.change.def.kind kind) xs

-- the infrastructure's name of what a change used, and the connection to where it stands (SOL 003 5.5.3,
-- ResourceHandle)
abbrev pub used_handle : Affected → Data
used_handle x = handle_of x.used.resource x.used.place.vim

-- a link that a change is about (SOL 003 5.5.3, AffectedVirtualLink)
abbrev pub affected_link : Vnfd → Affected → Data
affected_link d x =
    object
    (member (codes "changeType") (string (change_word x.change.verb))
    (member (codes "id") (string (link_name d x.change.def.item))
    (member (codes "networkResource") (used_handle x)
    (member (codes "vnfVirtualLinkDescId") (string (link_name d x.change.def.item))
    no_members))))

-- a storage that a change is about (SOL 003 5.5.3, AffectedVirtualStorage)
abbrev pub affected_storage : Vnfd → Affected → Data
affected_storage d x =
    object
    (member (codes "changeType") (string (change_word x.change.verb))
    (member (codes "id") (string (storage_id d x.change.def.vdu x.change.def.serial x.change.def.item))
    (member (codes "storageResource") (used_handle x)
    (member (codes "virtualStorageDescId") (string (storage_name d x.change.def.item))
    no_members))))

-- a machine that a change is about (SOL 003 5.5.3, AffectedVnfc)
abbrev pub affected_machine : Vnfd → Affected → Data
affected_machine d x =
    object
    (member (codes "changeType") (string (change_word x.change.verb))
    (member (codes "computeResource") (used_handle x)
    (member (codes "id") (string (machine_id d x.change.def.vdu x.change.def.serial))
    (member (codes "vduId") (string (vdu_name d x.change.def.vdu))
    no_members))))

-- what these changes did (SOL 003 5.5.2.13, resourceChanges)
abbrev pub changes_value : Vnfd → List Affected → Data
changes_value d xs =
    object
    (member (codes "affectedVirtualLinks") (array_of (affected_link d) (of_kind Link xs))
    (member (codes "affectedVirtualStorages") (array_of (affected_storage d) (of_kind Storage xs))
    (member (codes "affectedVnfcs") (array_of (affected_machine d) (of_kind Compute xs))
    no_members)))

-- what the changes of an occurrence did, of those that are made (SOL 003 5.5.2.13, resourceChanges)
abbrev pub resource_changes : Vnfd → OccRow → Data
resource_changes d row = changes_value d (affected row)
