use Rattle.std.proofs.Common.{drop, length, ◌≡◌, ◌≤◌}
use Rattle.notice_table.specs.Marks.{from_set}
use Rattle.notice_table.proofs.marks.Marks.pass.Given as goal

abbrev pub invariant-loop-self : goal.invariant-loop-self
invariant-loop-self l = record { marks : from_set l.self.marks ≡ from_set (drop 1 l.fn.self.marks); room : l.fn.self.room ≤ l.self.room }

abbrev pub decreases-loop-self : goal.decreases-loop-self
decreases-loop-self l = length l.self.marks
