-- One record more is its bytes with an open gate and their number.
use Rattle.std.proofs.Common.{arith}
use Rattle.journal_core.proofs.Records.{size_push}
use Rattle.journal_core.proofs.limits.records_add_up.Goals as goal

pub returns-clause-adds : goal.returns-clause-adds
returns-clause-adds c = λ rs bytes old new is adds. let more = size_push rs bytes in omega (arith, is, adds, more)

pub returns-clause-room : goal.returns-clause-room
returns-clause-room c = λ rs bytes end saved limit is. let more = size_push rs bytes in
    ((λ room. omega (arith, is, room, more)), (λ before. omega (arith, is, before, more)))

pub returns-clause-longer : goal.returns-clause-longer
returns-clause-longer c = λ rs bytes. let more = size_push rs bytes in omega (arith, more)
