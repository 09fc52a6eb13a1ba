-- The members of an entry of a grant request as they are put, one after another.
use Rattle.std.specs.Prelude.{List, ℕ, codes}
use Rattle.serde_json.specs.Data.{Members, member, no_members, string}

-- the members that every entry has: its identifier, its template and its type
abbrev pub needed_members : List ℕ → List ℕ → List ℕ → Members
needed_members id template word =
    member (codes "id") (string id) (member (codes "resourceTemplateId") (string template)
    (member (codes "type") (string word) no_members))
