-- What levels that were counted, and targets that were looked up, are seen as.
use Rattle.std.specs.Prelude.{ℕ, List, Option}
use Rattle.vnfd_reader.specs.declared.counts.LevelCounts.{LevelCounts}
use Rattle.vnfd_reader.specs.declared.counts.Aim.{Aim}

-- the level's name and the numbers of instances
abbrev pub counts_seen : LevelCounts → List ℕ × List ℕ
counts_seen l = (l.name, l.counts.items)

-- the target and the place
abbrev pub aim_seen : Aim → List ℕ × Option ℕ
aim_seen a = (a.target.now, a.place)
