-- Members of an object that may be absent (RFC 8259 4).
use Rattle.std.specs.Prelude.{List, None, Option, Some, ℕ}
use Rattle.serde_json.specs.Data.{Data, Members, put}

-- the members with this value under this name, where there is a value
abbrev pub put_where : List ℕ → Option Data → Members → Members
put_where name None rest = rest
put_where name (Some d) rest = put name d rest
