-- Marks that are set or not, one for a place, and how they are packed into words (own format).
use Rattle.std.specs.Prelude.{Bool, List, if◌then◌else◌, zero, suc, true, ℕ, [], ◌%◌, ◌/◌, ◌==◌, ◌∷◌}

-- what a contract sees of marks: the marks, the oldest first, and for how many more words of them there is room
pub record ShownMarks : Type 0 where
  pub marks : List Bool
  pub room : ℕ

-- the marks from the first that is set
abbrev pub from_set : List Bool → List Bool
from_set [] = []
from_set (mark ∷ marks) = if mark then true ∷ marks else from_set marks

-- the n marks of a word: its lowest bits, the lowest first
unfoldable pub marks_in : ℕ → ℕ → List Bool
marks_in zero word = []
marks_in (suc n) word = (word % 2 == 1) ∷ marks_in n (word / 2)
