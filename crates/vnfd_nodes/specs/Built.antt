-- The VDUs, storages, links and ports that node templates are (SOL 001, node types). The defaults of needed members
-- show in no document that passes the checks.
use Rattle.std.specs.List.{list_any}
use Rattle.std.specs.Option.{option_map_or}
use Rattle.std.specs.Str.{bytes_eq}
use Rattle.std.specs.Prelude.{ℕ, List, [], ◌∷◌, ◌+◌, Bool, false, if◌then◌else◌, Option, Some, None, option_and_then}
use Rattle.std.specs.Prelude.{unwrap_or, codes}
use Rattle.serde_json.specs.Data.{Data}
use Rattle.lcm_events.specs.declared.descriptor.Port.{Port}
use Rattle.lcm_events.specs.declared.descriptor.Storage.{Storage}
use Rattle.lcm_events.specs.declared.descriptor.Vdu.{Vdu}
use Rattle.vnfd_document.specs.Json.{Named, whole}
use Rattle.vnfd_document.specs.Names.{name_or_empty}
use Rattle.vnfd_document.specs.Places.{node_named, required}
use Rattle.vnfd_nodes.specs.Nodes.{cpus_at, maximum_at, memory_at, size, size_at}

-- one of these values names the thing
abbrev pub is_named : List ℕ → List Data → Bool
is_named key aims = list_any (λ d. option_map_or (bytes_eq key) (node_named d) false) aims

-- the places, from n on, of those things that one of these values names
abbrev pub places_named : ℕ → List Named → List Data → List ℕ
places_named n [] aims = []
places_named n (x ∷ xs) aims = if is_named x.0 aims then n ∷ places_named (n + 1) xs aims
    else places_named (n + 1) xs aims

-- the place, from n on, of the thing with this name
abbrev pub place_of : ℕ → List Named → List ℕ → Option ℕ
place_of n [] target = None
place_of n (x ∷ xs) target = if bytes_eq target x.0 then Some n else place_of (n + 1) xs target

-- the place of the thing that the first of these values names
abbrev pub aimed_at : List Named → List Data → Option ℕ
aimed_at known [] = None
aimed_at known (d ∷ ds) = option_and_then (place_of 0 known) (node_named d)

-- a VDU; its maximum is 4,294,967,295, which no count exceeds, where none is given (SOL 001, Vdu.Compute; own default)
unfoldable pub vdu_of : List Named → ℕ → Named → Vdu
vdu_of storages initial x = record {
  name = name_or_empty x.0;
  memory = unwrap_or (option_and_then size (memory_at x.1)) 0;
  cpus = unwrap_or (option_and_then (whole 1 65535) (cpus_at x.1)) 0;
  maximum = unwrap_or (option_and_then (whole 0 65535) (maximum_at x.1)) 4294967295;
  initial = initial;
  storages = places_named 0 storages (required (codes "virtual_storage") x.1);
}

-- a storage; its size is 0 where none is given (SOL 001, Vdu.VirtualBlockStorage; own default)
unfoldable pub storage_of : Named → Storage
storage_of x = record { name = name_or_empty x.0; size = unwrap_or (option_and_then size (size_at x.1)) 0 }

-- a port, with its first VDU and its first link (SOL 001, VduCp)
unfoldable pub port_of : List Named → List Named → Named → Port
port_of vdus links x = record {
  name = name_or_empty x.0;
  vdu = unwrap_or (aimed_at vdus (required (codes "virtual_binding") x.1)) 0;
  link = aimed_at links (required (codes "virtual_link") x.1);
}
