-- The words of the command line (own rule, docs/FORMATS.md).
use Rattle.std.specs.Prelude.{ℕ, Bool, List, [], drop, map, Result, Ok, Err}
use Rattle.std.specs.Result.{is_ok}
use Rattle.std.specs.String.{string_bytes}
use Rattle.std.specs.Vec.Iter.{into_iter_items}
use Rattle.std.specs.declared.io.Error.{Error}
use Rattle.std.specs.declared.string.String.{String}
use Rattle.std.specs.declared.vec.IntoIter.{IntoIter}

-- the bytes of the words: those of the arguments behind the first, or none where the arguments couldn't be had
abbrev pub words_in : {Z Y : Type 0} → Result (IntoIter (String Z) Y) Error → List (List ℕ)
words_in (Ok all) = map string_bytes (drop 1 (into_iter_items all))
words_in (Err fault) = []

-- the arguments could be had: each is UTF-8 (std, `env::args`)
abbrev pub are_legible : {T : Type 0} → Result T Error → Bool
are_legible arguments = is_ok arguments
