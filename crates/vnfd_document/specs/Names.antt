-- Names in a descriptor (own rule): at most 255 bytes of UTF-8 without control characters.
use Rattle.std.specs.Prelude.{ℕ, List, [], length, nat_le, ◌&&◌, Bool, if◌then◌else◌, codes}
use Rattle.vnfm_base.specs.Text.{is_short_text}
use Rattle.vnfd_document.specs.declared.fault.VnfdFault.{VnfdFault}
use Rattle.vnfd_document.specs.declared.fault.VnfdFault.TheVariants.{Unknown, Wrong}

-- the text is a name
abbrev pub is_name : List ℕ → Bool
is_name = is_short_text 255

-- the text is a name that isn't empty
abbrev pub is_given_name : List ℕ → Bool
is_given_name text = nat_le 1 (length text) && is_name text

-- the text where it is a name, else the empty name
abbrev pub name_or_empty : List ℕ → List ℕ
name_or_empty text = if is_name text then text else []

-- why a text that names nothing is refused: it is unknown, or it is no name at all
abbrev pub unknown : List ℕ → VnfdFault
unknown target = if is_given_name target then Unknown target else Wrong (codes "name")
