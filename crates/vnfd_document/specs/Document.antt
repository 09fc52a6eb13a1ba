-- The JSON object that the bytes of a descriptor are (RFC 8259).
use Rattle.std.specs.Prelude.{ℕ, List, length, nat_lt, if◌then◌else◌, is_some, Option, Some, None, option_and_then}
use Rattle.std.specs.Prelude.{Result, Ok, Err, codes}
use Rattle.std.specs.Str.{is_utf8}
use Rattle.serde_json.specs.Data.{Data}
use Rattle.serde_json.specs.Find.{as_object}
use Rattle.serde_json.specs.Read.{read}
use Rattle.vnfd_document.specs.declared.fault.VnfdFault.{VnfdFault}
use Rattle.vnfd_document.specs.declared.fault.VnfdFault.TheVariants.{NotJson, TooMany}

-- the value, where it is an object (RFC 8259 4)
abbrev pub only_object : Data → Option Data
only_object d = if is_some (as_object d) then Some d else None

-- the JSON object that the bytes are, where they are one (RFC 8259)
abbrev pub object_of : List ℕ → Option Data
object_of bytes = if is_utf8 bytes then option_and_then only_object (read bytes) else None

-- that object, or why the bytes are refused: there are too many, or they are none (own limit)
abbrev pub object_or_fault : Option Data → Result Data VnfdFault
object_or_fault None = Err NotJson
object_or_fault (Some d) = Ok d

abbrev pub document : List ℕ → Result Data VnfdFault
document bytes = if nat_lt 1048576 (length bytes) then Err (TooMany (codes "bytes"))
    else object_or_fault (object_of bytes)
