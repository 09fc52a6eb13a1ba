-- Machines by their identifiers (SOL 003 5.5.2.9, HealVnfRequest; SOL 002 for vnfcInstanceId; the form of the
-- identifiers is an own rule).
use Rattle.std.specs.List.{enumerate_from, list_any}
use Rattle.std.specs.Prelude.{◌&&◌, ◌++◌, ◌+◌, ◌<◌, ◌==◌, ◌≡◌, ◌≢◌, ◌∷◌, [], Bool, List, None, Option, Some, codes}
use Rattle.std.specs.Prelude.{drop, filter_map, if◌then◌else◌, length, map, nat_le, option_map, slice_get, take}
use Rattle.std.specs.Prelude.{decimal, unwrap_or, ℕ}
use Rattle.std.specs.Str.{bytes_eq}
use Rattle.std.specs.Str.Parse.{digits_value}
use Rattle.lcm_events.specs.declared.asks.Vnfc.{Vnfc}
use Rattle.lcm_events.specs.declared.descriptor.Vdu.{Vdu}
use Rattle.lcm_events.specs.declared.descriptor.Vnfd.{Vnfd}

-- the identifier of a machine: its VDU's name, `-` and its serial number (own rule)
abbrev pub machine_text : List ℕ → ℕ → List ℕ
machine_text name serial = name ++ codes "-" ++ decimal serial

-- the number, where the text is the identifier of the machine of this VDU with this number, and it is one of four bytes
abbrev pub serial_if : List ℕ → List ℕ → ℕ → Option ℕ
serial_if name text serial = if bytes_eq text (machine_text name serial) && nat_le serial 4294967295 then Some serial
    else None

-- the serial number with which a text is the identifier of a machine of the VDU of this name: what its digits behind
-- the name and a hyphen say (own rule)
abbrev pub serial_in : List ℕ → List ℕ → Option ℕ
serial_in name text = serial_if name text (digits_value 10 (drop (length name + 1) text))

-- the machine of a VDU, which has its number, of which a text is the identifier
abbrev pub machine_of : List ℕ → ℕ × Vdu → Option Vnfc
machine_of text x = option_map (λ s. record { vdu = x.0; serial = s }) (serial_in x.1.name text)

-- the VDUs of a descriptor with their numbers; 65,535 is the number of none (own format)
abbrev pub numbered : Vnfd → List (ℕ × Vdu)
numbered d = enumerate_from 0 (take 65535 d.vdus)

-- a machine that no instance has: its VDU is none (own rule)
abbrev pub no_machine : Vnfc
no_machine = record { vdu = 65535; serial = 0 }

-- the machine of a descriptor of which the text is the identifier, or one that no instance has (own rule)
abbrev pub machine_named : Vnfd → List ℕ → Vnfc
machine_named d text = unwrap_or (slice_get (filter_map (machine_of text) (numbered d)) 0) no_machine

-- two machines are the same (own rule)
abbrev pub same_machine : Vnfc → Vnfc → Bool
same_machine a b = (a.vdu == b.vdu) && (a.serial == b.serial)

-- the machines that aren't among those seen or before them
abbrev pub machines_after : List Vnfc → List Vnfc → List Vnfc
machines_after seen [] = []
machines_after seen (x ∷ machines) = if list_any (same_machine x) seen then machines_after seen machines
    else x ∷ machines_after (seen ++ x ∷ []) machines

-- each machine once, where it comes first (own rule)
abbrev pub distinct_machines : List Vnfc → List Vnfc
distinct_machines machines = machines_after [] machines

-- the machines of a descriptor that these texts name, each once, where it comes first (own rule)
abbrev pub machines_named : Vnfd → List (List ℕ) → List Vnfc
machines_named d texts = distinct_machines (map (machine_named d) texts)

-- the identifier of a machine is read as that machine, where its VDU has a number, its serial number has four bytes and
-- no VDU before its own has that one's name (own rule)
abbrev pub MachinesAreReadBack : Type 0
MachinesAreReadBack =
    (d : Vnfd) (x : Vnfc) (vdu : Vdu) → slice_get d.vdus x.vdu ≡ Some vdu → x.vdu < 65535 → x.serial < 4294967296
    → ((k : ℕ) (other : Vdu) → k < x.vdu → slice_get d.vdus k ≡ Some other → other.name ≢ vdu.name)
    → machine_named d (machine_text vdu.name x.serial) ≡ x
