-- What an answer to a grant request or to a poll says. A grant is hostile input: what has another form than this isn't
-- read (SOL 003 9.4.2, Grants; 9.4.3, Individual grant; 9.5.2.3, Grant; 9.5.3.3, GrantInfo; RFC 8259).
use Rattle.std.specs.Prelude.{Bool, true, ℕ, List, [], ◌∷◌, length, nat_le, codes, if◌then◌else◌, ◌==◌, ◌||◌}
use Rattle.std.specs.Prelude.{Option, Some, None, option_and_then, option_map}
use Rattle.std.specs.Str.{is_utf8}
use Rattle.serde_json.specs.Data.{Data, Items, no_items, item}
use Rattle.serde_json.specs.Find.{get, as_str, as_array}
use Rattle.serde_json.specs.Read.{read}
use Rattle.site_traits.specs.Answer.{Answer}
use Rattle.vnfm_base.specs.Text.{is_short_text}
use Rattle.lcm_events.specs.declared.places.Place.{Place}
use Rattle.grant_desk.specs.declared.answers.GrantAnswer.{GrantAnswer}
use Rattle.grant_desk.specs.declared.answers.GrantAnswer.TheVariants.{Granted, Later, Denied, Trouble}
use Rattle.grant_desk.specs.declared.rows.GrantRows.{GrantRows}

-- the text, where it is a name (own rule)
abbrev pub name_text : List ℕ → Option (List ℕ)
name_text text = if is_short_text 255 text then Some text else None

-- the text, where it is a name that isn't empty (own rule)
abbrev pub given_text : List ℕ → Option (List ℕ)
given_text text = if nat_le 1 (length text) then name_text text else None

-- the name that a value is, where it is one (own rule)
abbrev pub name_in : Data → Option (List ℕ)
name_in d = option_and_then name_text (as_str d)

-- the name that isn't empty that a value is, where it is one (own rule)
abbrev pub given_in : Data → Option (List ℕ)
given_in d = option_and_then given_text (as_str d)

-- the name of a member that may be absent, empty where it is (own rule)
abbrev pub name_where : Option Data → Option (List ℕ)
name_where None = Some []
name_where (Some d) = name_in d

-- the place of a row: a connection and a zone (SOL 003 9.5.3.3)
abbrev pub place_in : Data → Option Place
place_in d =
    option_and_then (λ vim. option_map (λ zone. record { vim = vim; zone = zone })
    (name_where (get (codes "zoneId") d)))
    (name_where (get (codes "vimConnectionId") d))

-- a row: the identifier of a resource definition, maybe empty, and its place (SOL 003 9.5.3.3)
abbrev pub row_in : Data → Option (List ℕ × Place)
row_in d =
    option_and_then (λ id. option_map (λ place. (id, place)) (place_in d))
    (option_and_then name_in (get (codes "resourceDefinitionId") d))

-- the rows of a list, where each entry is one (SOL 003 9.5.2.3)
abbrev pub rows_in : Items → Option (List (List ℕ × Place))
rows_in no_items = Some []
rows_in (item d ds) = option_and_then (λ row. option_map (λ rows. row ∷ rows) (rows_in ds)) (row_in d)

-- the rows of a member that may be absent, none where it is (SOL 003 9.5.2.3)
abbrev pub rows_where : Option Data → Option (List (List ℕ × Place))
rows_where None = Some []
rows_where (Some d) = option_and_then rows_in (as_array d)

-- the grant that a value is, where it is one (SOL 003 9.5.2.3)
abbrev pub grant_in : Data → Option GrantRows
grant_in d =
    option_and_then (λ id.
    option_and_then (λ add.
    option_and_then (λ remove.
    option_map (λ update. record { grant = id; add = add; remove = remove; update = update })
    (rows_where (get (codes "updateResources") d)))
    (rows_where (get (codes "removeResources") d)))
    (rows_where (get (codes "addResources") d)))
    (option_and_then given_in (get (codes "id") d))

-- the grant that the bytes are, where they are one (RFC 8259)
abbrev pub grant_of : List ℕ → Option GrantRows
grant_of bytes = if is_utf8 bytes then option_and_then grant_in (read bytes) else None

-- a grant that can be read is granted, another is trouble (own rule)
abbrev pub granted : Option GrantRows → GrantAnswer
granted None = Trouble
granted (Some rows) = Granted rows

-- a grant that comes later; an ask must be told where (SOL 003 9.4.2)
abbrev pub later : Bool → Option (List ℕ) → GrantAnswer
later true None = Trouble
later asked location = Later location

-- what an answer to an ask, or else to a poll, says (SOL 003 9.4.2, 9.4.3)
abbrev pub answer_of : Bool → Answer → GrantAnswer
answer_of asked heard =
    if (heard.status == 200) || (heard.status == 201) then granted (grant_of heard.body)
    else (if heard.status == 202 then later asked heard.location else (if heard.status == 403 then Denied else Trouble))

-- the answer has something to keep: a grant or a location (own rule)
abbrev pub is_kept : Answer → Bool
is_kept heard = (heard.status == 200) || (heard.status == 201) || (heard.status == 202)
