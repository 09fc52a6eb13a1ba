-- One record more is its bytes with an open gate and their number.
use Rattle.std.proofs.Common.{arith}
use Rattle.old_journal.proofs.Records.{size_push}
use Rattle.old_journal.proofs.limits.old_records_add_up.Goals as goal

pub returns-clause-adds : goal.returns-clause-adds
returns-clause-adds c = λ rs bytes old new is adds. let more = size_push rs bytes in omega (arith, is, adds, more)

pub returns-clause-longer : goal.returns-clause-longer
returns-clause-longer c = λ rs bytes. let more = size_push rs bytes in omega (arith, more)
