-- How many acts ended in each way (own rule).
use Rattle.std.specs.Prelude.{Bool, List, false, filter, length, true, ℕ, ◌≡◌}
use Rattle.occ_work.specs.declared.ends.Acted.{Acted}
use Rattle.occ_work.specs.declared.ends.Acted.TheVariants.{Recorded, Unreached, Waiting}
use Rattle.occ_work.specs.declared.ends.Turn.{Turn}

-- two acts ended alike
abbrev pub same_end : Acted → Acted → Bool
same_end Recorded Recorded = true
same_end Waiting Waiting = true
same_end Unreached Unreached = true
same_end _ _ = false

-- how many acts ended so
abbrev pub count_of : Acted → List Acted → ℕ
count_of end ends = length (filter (same_end end) ends)

-- the counts are those of these endings
pub record CountsEndings (turn : Turn) (ends : List Acted) : Type 0 where
  pub acted : turn.acted ≡ count_of Recorded ends
  pub waiting : turn.waiting ≡ count_of Waiting ends
  pub unreached : turn.unreached ≡ count_of Unreached ends
