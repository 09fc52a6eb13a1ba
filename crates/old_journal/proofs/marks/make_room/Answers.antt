use Rattle.std.proofs.Common.{arith}
use Rattle.old_journal.proofs.EveryLemmas.{every_halved, halved_at}
use Rattle.old_journal.proofs.marks.make_room.Goals as goal

pub returns-clause-every : goal.returns-clause-every
returns-clause-every c = every_halved _ _ _ _ c.requires.every c.requires.next (omega arith) (omega arith)
    c.halve.ensures.each

pub returns-clause-next : goal.returns-clause-next
returns-clause-next c = halved_at _ _ c.args.kept.now.items _ c.requires.next (omega arith) (omega arith)
