-- The media type of a request's body (RFC 9110 8.3, Content-Type; RFC 8259 11, application/json).
use Rattle.std.specs.Prelude.{ℕ, ◌==◌, ◌||◌, ◌&&◌, Bool, true, List, length, nat_le, take, drop, codes, Option, Some}
use Rattle.std.specs.Prelude.{None}
use Rattle.std.specs.List.{list_all, before_first}
use Rattle.std.specs.Str.{str_eq_ignore_ascii_case}

-- the byte is a semicolon, behind which parameters stand (RFC 9110 8.3.1)
abbrev pub is_semicolon : ℕ → Bool
is_semicolon byte = byte == 59

-- the byte is a space or a tab (RFC 9110 5.6.3)
abbrev pub is_blank : ℕ → Bool
is_blank byte = (byte == 32) || (byte == 9)

-- what stands before the parameters begins with application/json in any case of letters, with nothing but blanks behind
-- it (RFC 9110 8.3.1)
abbrev pub names_json : List ℕ → Bool
names_json name =
    nat_le 16 (length name) && (str_eq_ignore_ascii_case (take 16 name) (codes "application/json")
    && list_all is_blank (drop 16 name))

-- the body is JSON by its Content-Type; where there is none, it is taken for JSON (RFC 9110 8.3; own rule)
abbrev pub is_json : Option (List ℕ) → Bool
is_json None = true
is_json (Some media) = names_json (before_first is_semicolon media)
