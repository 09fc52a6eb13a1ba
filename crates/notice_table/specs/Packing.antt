-- How marks are packed into words (own format).
use Rattle.std.specs.List.{flat_map}
use Rattle.std.specs.Prelude.{Bool, List, length, ℕ, [], ◌++◌, ◌<◌, ◌^◌, ◌≡◌}
use Rattle.notice_table.specs.Marks.{marks_in}
use Rattle.notice_table.specs.declared.marks.Marks.TheInside.{Inside}

-- the marks of words that are full
abbrev pub in_words : List ℕ → List Bool
in_words words = flat_map (marks_in 64) words

-- the marks of the front word, of the full words and of the back word
abbrev pub marks_of : Inside → List Bool
marks_of t = marks_in t.left t.front ++ (in_words t.words.items ++ marks_in t.filled t.back)

-- the marks are counted, the back word has no bit beyond its marks and isn't full, and where the front word is empty
-- all is
pub record IsPacked (t : Inside) : Type 0 where
  pub count : t.count ≡ length (marks_of t)
  pub filled : t.filled < 64
  pub back : t.back < 2 ^ t.filled
  pub front : t.left ≡ 0 → (t.words.items ≡ []) × (t.filled ≡ 0)
