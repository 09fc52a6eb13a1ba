use Rattle.std.proofs.Common.{length}
use Rattle.journal_records.specs.Reading.{AreRecords}
use Rattle.journal_records.proofs.content.are_records.Given as goal

-- what is left are records exactly where all bytes are
abbrev pub invariant-loop-rest : goal.invariant-loop-rest
invariant-loop-rest l = (AreRecords l.rest → AreRecords l.fn.bytes) × (AreRecords l.fn.bytes → AreRecords l.rest)

abbrev pub decreases-loop-rest : goal.decreases-loop-rest
decreases-loop-rest l = length l.rest
