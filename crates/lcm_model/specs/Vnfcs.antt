-- The definitions of an instance, and which of its machines are whole (own rule over SOL 003 5.5.3, VnfcResourceInfo).
use Rattle.std.specs.List.{enumerate_from, list_all, list_any, range_with_len}
use Rattle.std.specs.Option.{option_map_or}
use Rattle.std.specs.Prelude.{Bool, List, [], filter, length, map, nat_lt, slice_get, ℕ, ◌&&◌, ◌++◌, ◌==◌, ◌∷◌}
use Rattle.lcm_events.specs.declared.changes.Def.{Def}
use Rattle.lcm_events.specs.declared.changes.DefKind.{DefKind}
use Rattle.lcm_events.specs.declared.changes.DefKind.TheVariants.{Compute, Link, Port, Storage}
use Rattle.lcm_events.specs.declared.descriptor.Vnfd.{Vnfd}
use Rattle.lcm_model.specs.Words.{is_among, same_bool}
use Rattle.lcm_model.specs.Levels.{count}

-- what stands of an instance, as a plan asks it (own rule)
pub record Inventory : Type 0 where
  pub stands : Def → Bool
  pub runs : Def → Bool
  pub top : ℕ → ℕ

-- a definition by its parts (own rule)
abbrev pub def_of : DefKind → ℕ → ℕ → ℕ → Def
def_of kind v s n = record { kind = kind; item = n; vdu = v; serial = s }

-- the definition of a link (own rule)
abbrev pub link_def : ℕ → Def
link_def n = def_of Link 65535 0 n

-- the definition of the compute of a machine (own rule)
abbrev pub compute_def : ℕ → ℕ → Def
compute_def v s = def_of Compute v s 0

-- the numbers of the VDU's storages (SOL 001, Vdu.Compute)
abbrev pub storages_of : Vnfd → ℕ → List ℕ
storages_of d v = option_map_or (λ u. u.storages) (slice_get d.vdus v) []

-- the numbers of the VDU's ports (SOL 001, VduCp)
abbrev pub ports_of : Vnfd → ℕ → List ℕ
ports_of d v = map (λ x. x.0) (filter (λ x. x.1.vdu == v) (enumerate_from 0 d.ports))

-- the items of one kind that each machine of a VDU has (own rule)
abbrev pub items : Vnfd → DefKind → ℕ → List ℕ
items d Compute v = 0 ∷ []
items d Storage v = storages_of d v
items d Port v = ports_of d v
items d Link v = []

-- the definitions of one kind of a machine, by item (own rule)
abbrev pub defs : Vnfd → DefKind → ℕ → ℕ → List Def
defs d kind v s = map (def_of kind v s) (items d kind v)

-- the definitions of a machine: its storages, its compute, its ports (own rule)
abbrev pub all_defs : Vnfd → ℕ → ℕ → List Def
all_defs d v s = defs d Storage v s ++ defs d Compute v s ++ defs d Port v s

-- the numbers of the VDUs (own rule)
abbrev pub vdu_numbers : Vnfd → List ℕ
vdu_numbers d = range_with_len 0 (length d.vdus)

-- the definitions of the links (own rule)
abbrev pub links : Vnfd → List Def
links d = map link_def (range_with_len 0 (length d.links))

-- all definitions of a machine stand (own rule)
abbrev pub is_whole : Vnfd → Inventory → ℕ → ℕ → Bool
is_whole d held v s = list_all held.stands (all_defs d v s)

-- some definition of a machine stands (own rule)
abbrev pub is_there : Vnfd → Inventory → ℕ → ℕ → Bool
is_there d held v s = list_any held.stands (all_defs d v s)

-- the serials of a VDU of which something stands, rising (own rule)
abbrev pub there : Vnfd → Inventory → ℕ → List ℕ
there d held v = filter (is_there d held v) (range_with_len 1 (held.top v))

-- the VDU is in step: as many machines as the count, all whole, each running exactly where the instance is started (own
-- rule)
abbrev pub is_vdu_in_step : Vnfd → Inventory → List ℕ → Bool → ℕ → Bool
is_vdu_in_step d held levels started v =
    (length (there d held v) == count d v levels)
    && list_all (λ s. is_whole d held v s && same_bool started (held.runs (compute_def v s))) (there d held v)

-- the instance is in step: each VDU is, and every link stands (own rule)
abbrev pub is_in_step : Vnfd → Inventory → List ℕ → Bool → Bool
is_in_step d held levels started =
    list_all (is_vdu_in_step d held levels started) (vdu_numbers d) && list_all held.stands (links d)

-- a definition of this kind is one of the descriptor's (own rule)
abbrev pub is_def_in : Vnfd → DefKind → Def → Bool
is_def_in d Link x = nat_lt x.item (length d.links) && (x.vdu == 65535) && (x.serial == 0)
is_def_in d kind x = nat_lt x.vdu (length d.vdus) && is_among (items d kind x.vdu) x.item && nat_lt 0 x.serial

-- the definition is one of the descriptor's: a link of it, or an item of one of its VDUs with a serial from 1 (own
-- rule)
abbrev pub is_def_of : Vnfd → Def → Bool
is_def_of d x = is_def_in d x.kind x
