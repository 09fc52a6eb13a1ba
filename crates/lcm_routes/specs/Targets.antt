-- The parts of a request target (RFC 3986 3.3, Path, and 3.4, Query): the path up to the first question mark, and the
-- query behind it. Both are taken as they stand: no byte is decoded.
use Rattle.std.specs.Prelude.{ℕ, Bool, List, [], codes, nat_eq, ◌==◌, slice_get}
use Rattle.std.specs.Option.{unwrap_or}
use Rattle.std.specs.List.{slice_split, before_first, after_first, starts_with, list_any}

-- the byte is a slash
abbrev pub is_slash : ℕ → Bool
is_slash byte = byte == 47

-- the byte is a question mark
abbrev pub is_question : ℕ → Bool
is_question byte = byte == 63

-- the byte is an ampersand
abbrev pub is_ampersand : ℕ → Bool
is_ampersand byte = byte == 38

-- what stands before the target's first question mark, or all of it where it has none (RFC 3986 3.3)
abbrev pub path_of : List ℕ → List ℕ
path_of target = before_first is_question target

-- what stands behind the target's first question mark, or nothing where it has none (RFC 3986 3.4)
abbrev pub query_of : List ℕ → List ℕ
query_of target = after_first is_question target

-- the texts between a path's slashes, in their order: one more than there are slashes (RFC 3986 3.3)
abbrev pub segments : List ℕ → List (List ℕ)
segments path = slice_split is_slash path

-- the query's parts, which are joined by ampersands (SOL 013, attribute-based filtering)
abbrev pub query_parts : List ℕ → List (List ℕ)
query_parts target = slice_split is_ampersand (query_of target)

-- a part of a query gives a filter: it begins with filter= (SOL 013, attribute-based filtering)
abbrev pub is_filter : List ℕ → Bool
is_filter part = starts_with nat_eq part (codes "filter=")

-- some part of the query gives a filter (SOL 013, attribute-based filtering)
abbrev pub asks_filter : List ℕ → Bool
asks_filter target = list_any is_filter (query_parts target)

-- The text of the identifier in a path of the interface: its fifth segment, behind the empty one before the first
-- slash, the interface's name, its version and the collection's name; empty where there are fewer (SOL 003 5.3,
-- Resource structure and methods).
abbrev pub identifier_in : List ℕ → List ℕ
identifier_in path = unwrap_or (slice_get (segments path) 4) []
