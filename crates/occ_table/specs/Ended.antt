-- What a row forgets once its occurrence is over: what no view of it shows (own rule; SOL 003 5.5.2.13 has neither
-- attempts nor places nor the location of a grant).
use Rattle.std.specs.Prelude.{Bool, List, None, Option, [], if◌then◌else◌, ℕ}
use Rattle.lcm_events.specs.declared.events.Event.{Event}
use Rattle.lcm_model.specs.Grants.{GivenGrant}
use Rattle.lcm_model.specs.Moves.{is_final, state}
use Rattle.occ_table.specs.declared.rows.Grant.{Grant}

-- the occurrence is over: its state is final (SOL 003 5.6.2)
abbrev pub is_over : List Event → ℕ → Bool
is_over H o = is_final (state H o)

-- what is kept of a list: all of it until the occurrence is over, and then nothing (own rule)
abbrev pub kept : {A : Type 0} → Bool → List A → List A
kept over xs = if over then [] else xs

-- what is kept of what there may be: it until the occurrence is over, and then none (own rule)
abbrev pub kept_where : {A : Type 0} → Bool → Option A → Option A
kept_where over x = if over then None else x

-- what a grant gave, as a row keeps it: once the occurrence is over, its identifier alone (SOL 003 9.5.2.3; own rule)
abbrev pub kept_grant : Bool → GivenGrant → Grant
kept_grant over g = record { name = g.name; places = kept over g.places; spots = kept over g.spots }

-- what is left of a grant in a row
abbrev pub stripped : Bool → Grant → Grant
stripped over g = record { name = g.name; places = kept over g.places; spots = kept over g.spots }
