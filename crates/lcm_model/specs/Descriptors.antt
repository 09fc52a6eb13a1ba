-- Which descriptors are valid, and which levels, holdings and changes are of a descriptor (own limits over SOL 001).
use Rattle.std.specs.List.{list_all}
use Rattle.std.specs.Option.{option_map_or}
use Rattle.std.specs.Prelude.{Bool, List, length, map, nat_le, nat_lt, slice_get, true, unwrap_or, zip, ℕ, ◌&&◌, ◌==◌}
use Rattle.std.specs.Prelude.{◌||◌, ◌≡◌, ◌≤◌}
use Rattle.lcm_events.specs.Descriptors.{is_name_before, is_rising, is_valid_steps}
use Rattle.lcm_events.specs.Same.{kind_number, same_kind}
use Rattle.lcm_events.specs.declared.changes.Def.{Def}
use Rattle.lcm_events.specs.declared.descriptor.Aspect.{Aspect}
use Rattle.lcm_events.specs.declared.descriptor.Row.{Row}
use Rattle.lcm_events.specs.declared.descriptor.Vdu.{Vdu}
use Rattle.lcm_events.specs.declared.descriptor.Vnfd.{Vnfd}
use Rattle.lcm_events.specs.declared.held.Holding.{Holding}
use Rattle.lcm_model.specs.Vnfcs.{is_def_of}
use Rattle.lcm_model.specs.Instances.{levels}
use Rattle.lcm_events.specs.declared.descriptor.Storage.{Storage}
use Rattle.lcm_events.specs.declared.descriptor.Port.{Port}
use Rattle.lcm_events.specs.declared.descriptor.Level.{Level}
use Rattle.lcm_events.specs.declared.changes.DefKind.TheVariants.{Link}

-- a name that isn't empty (own rule)
abbrev pub is_given : List ℕ → Bool
is_given name = nat_lt 0 (length name)

-- these levels are of the descriptor: one number for each aspect, within its maximum (SOL 001, ScalingAspects)
abbrev pub are_levels_of : Vnfd → List ℕ → Bool
are_levels_of d levels = (length levels == length d.aspects)
    && list_all (λ x. nat_le x.1 x.0.maximum) (zip d.aspects levels)

-- the VDU's maximum is a number of instances, or none is given (SOL 001, vdu_profile)
abbrev pub is_valid_maximum : ℕ → Bool
is_valid_maximum n = nat_le n 65535 || (n == 4294967295)

-- the VDU is valid: its name is given, its sizes are within the limits, its storages exist and rise (SOL 001,
-- Vdu.Compute)
abbrev pub is_valid_vdu : Vnfd → Vdu → Bool
is_valid_vdu d u =
    is_given u.name && nat_le u.memory 1152921504606846976 && nat_le 1 u.cpus && nat_le u.cpus 65535
    && is_valid_maximum u.maximum && nat_le u.initial 65535
    && is_rising nat_lt u.storages && list_all (λ n. nat_lt n (length d.storages)) u.storages

-- the storage is valid: its name is given, its size is within the limit (SOL 001, Vdu.VirtualBlockStorage)
abbrev pub is_valid_storage : Storage → Bool
is_valid_storage x = is_given x.name && nat_le x.size 1152921504606846976

-- the port is valid: its name is given, its VDU exists, and its link where it has one (SOL 001, VduCp)
abbrev pub is_valid_port : Vnfd → Port → Bool
is_valid_port d p = is_given p.name && nat_lt p.vdu (length d.vdus)
    && option_map_or (λ n. nat_lt n (length d.links)) p.link true

-- the row is valid: its VDU exists, and it has so many deltas, each within the limit (SOL 001, VduScalingAspectDeltas)
abbrev pub is_valid_row : Vnfd → ℕ → Row → Bool
is_valid_row d steps row = nat_lt row.vdu (length d.vdus) && (length row.deltas == steps)
    && list_all (λ n. nat_le n 65535) row.deltas

-- the aspect is valid: its name is given, its maximum is within the limit, its rows are valid and rise by VDU (SOL 001,
-- ScalingAspects)
abbrev pub is_valid_aspect : Vnfd → Aspect → Bool
is_valid_aspect d a =
    is_given a.name && nat_le a.maximum 1000 && is_valid_steps a.maximum a.steps
    && is_rising nat_lt (map (λ r. r.vdu) a.rows) && list_all (is_valid_row d a.steps) a.rows

-- the level is valid: its name is given, and its numbers are levels of the descriptor (SOL 001, InstantiationLevels)
abbrev pub is_valid_level : Vnfd → Level → Bool
is_valid_level d l = is_given l.name && are_levels_of d l.numbers

-- the counts of a descriptor's named things are within the limits, and there is a level (own limits)
abbrev pub has_valid_counts : Vnfd → Bool
has_valid_counts d =
    nat_le (length d.vdus) 64 && nat_le (length d.storages) 128 && nat_le (length d.links) 64
    && nat_le (length d.ports) 256 && nat_le (length d.aspects) 16 && nat_le (length d.levels) 64
    && nat_lt d.default_level (length d.levels)

-- the names stand in byte order, each once (own rule)
abbrev pub are_sorted : List (List ℕ) → Bool
are_sorted names = is_rising is_name_before names

-- the named things of each list stand in the byte order of their names, each name once (own rule)
abbrev pub has_sorted_names : Vnfd → Bool
has_sorted_names d =
    are_sorted (map (λ x. x.name) d.vdus) && are_sorted (map (λ x. x.name) d.storages)
    && are_sorted d.links && are_sorted (map (λ x. x.name) d.ports)
    && are_sorted (map (λ x. x.name) d.aspects) && are_sorted (map (λ x. x.name) d.levels)

-- the descriptor is valid (own rule over SOL 001)
pub record IsValid (d : Vnfd) : Type 0 where
  pub named : (is_given d.descriptor_id && is_given d.flavour_id) ≡ true
  pub counts : has_valid_counts d ≡ true
  pub sorted : has_sorted_names d ≡ true
  pub vdus : list_all (is_valid_vdu d) d.vdus ≡ true
  pub storages : list_all is_valid_storage d.storages ≡ true
  pub links : list_all is_given d.links ≡ true
  pub ports : list_all (is_valid_port d) d.ports ≡ true
  pub aspects : list_all (is_valid_aspect d) d.aspects ≡ true
  pub levels : list_all (is_valid_level d) d.levels ≡ true

-- the first definition stands before the second: by VDU, serial, kind and item (own rule)
abbrev pub is_def_before : Def → Def → Bool
is_def_before x y =
    nat_lt x.vdu y.vdu || ((x.vdu == y.vdu) && (nat_lt x.serial y.serial || ((x.serial == y.serial)
    && (nat_lt (kind_number x.kind) (kind_number y.kind) || (same_kind x.kind y.kind && nat_lt x.item y.item)))))

-- the definition is the descriptor's, with a serial up to its VDU's greatest (own rule)
abbrev pub is_def_up_to : Vnfd → List ℕ → Def → Bool
is_def_up_to d tops x = is_def_of d x && (same_kind x.kind Link || nat_le x.serial (unwrap_or (slice_get tops x.vdu) 0))

-- the holding is of the descriptor (own rule)
pub record IsHoldingOf (d : Vnfd) (h : Holding) : Type 0 where
  pub levels : are_levels_of d h.levels ≡ true
  pub few : length h.items ≤ 2500
  pub rising : is_rising (λ x y. is_def_before x.def y.def) h.items ≡ true
  pub known : list_all (λ x. is_def_up_to d h.top x.def) h.items ≡ true
  pub tops : length h.top ≡ length d.vdus
  pub small : list_all (λ n. nat_lt n 2147483648) h.top ≡ true
