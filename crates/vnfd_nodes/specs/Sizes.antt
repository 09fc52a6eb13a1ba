-- Sizes: decimal digits, any spaces and a unit in any case of letters (TOSCA Simple Profile 1.2, scalar-unit.size).
use Rattle.std.specs.Char.{is_ascii_digit, to_ascii_lowercase}
use Rattle.std.specs.List.{prefix_len, take_while}
use Rattle.std.specs.Str.{bytes_eq}
use Rattle.std.specs.Str.Parse.{digits_value}
use Rattle.std.specs.Prelude.{ℕ, List, Bool, Option, Some, None, codes, drop, length, map, nat_le, nat_lt}
use Rattle.std.specs.Prelude.{if◌then◌else◌, ◌==◌, ◌&&◌, ◌*◌}

-- the unit has this name, in any case of letters
abbrev pub is_unit : List ℕ → List ℕ → Bool
is_unit name unit = bytes_eq (map to_ascii_lowercase name) (map to_ascii_lowercase unit)

-- the bytes of a unit (TOSCA Simple Profile 1.2, scalar-unit.size)
abbrev pub bytes_of_unit : List ℕ → Option ℕ
bytes_of_unit unit =
    if is_unit (codes "B") unit then Some 1 else
    (if is_unit (codes "kB") unit then Some 1000 else
    (if is_unit (codes "KiB") unit then Some 1024 else
    (if is_unit (codes "MB") unit then Some 1000000 else
    (if is_unit (codes "MiB") unit then Some 1048576 else
    (if is_unit (codes "GB") unit then Some 1000000000 else
    (if is_unit (codes "GiB") unit then Some 1073741824 else
    (if is_unit (codes "TB") unit then Some 1000000000000 else
    (if is_unit (codes "TiB") unit then Some 1099511627776 else None))))))))

-- what stands behind the longest front whose bytes pass
abbrev pub behind : (ℕ → Bool) → List ℕ → List ℕ
behind test text = drop (prefix_len test text) text

-- a space
abbrev pub is_space : ℕ → Bool
is_space byte = byte == 32

-- the bytes that digits and a unit mean, where there are digits, and at most 2 ^ 60 bytes (own limit)
abbrev pub bytes_of : List ℕ → Option ℕ → Option ℕ
bytes_of digits None = None
bytes_of digits (Some unit) =
    if nat_lt 0 (length digits) && nat_le (digits_value 10 digits * unit) 1152921504606846976
    then Some (digits_value 10 digits * unit) else None

-- the size that a text is, in bytes
abbrev pub size_of : List ℕ → Option ℕ
size_of text = bytes_of (take_while is_ascii_digit text) (bytes_of_unit (behind is_space (behind is_ascii_digit text)))
