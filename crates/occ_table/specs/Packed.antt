-- How the names of what a change used are kept: in one text, one after the other (own format).
use Rattle.std.specs.Prelude.{List, Option, Vec, drop, length, option_map, take, unwrap_or, vec_capacity, ℕ, ◌+◌, ◌≤◌}
use Rattle.std.specs.Global.{Global}
use Rattle.vnfm_base.specs.Text.{IsName}
use Rattle.occ_table.specs.declared.used.Used.{Used}

-- the resource with its place that a text tells, whose first two names have these lengths (own format)
abbrev pub unpacked : List ℕ → ℕ → ℕ → Used
unpacked names r v = record {
  resource = take r names;
  place =
      record { vim = take v (drop r names); zone = drop v (drop r names) };
}

-- for how many bytes there is room (own rule)
abbrev pub room_in : Option (Vec ℕ Global) → ℕ
room_in names = unwrap_or (option_map (λ v. vec_capacity v) names) 0

-- how many bytes the names have (own rule)
abbrev pub names_length : Used → ℕ
names_length u = length u.resource + (length u.place.vim + length u.place.zone)

-- the text is three names, the first two of these lengths (own format)
pub record HoldsNames (names : List ℕ) (r v : ℕ) : Type 0 where
  pub fits : r + v ≤ length names
  pub resource : IsName (take r names)
  pub vim : IsName (take v (drop r names))
  pub zone : IsName (drop v (drop r names))
