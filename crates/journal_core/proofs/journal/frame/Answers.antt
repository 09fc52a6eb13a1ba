use Rattle.std.proofs.Common.{◌+◌, ◌-◌, length, rules, arith}
use Rattle.journal_core.proofs.Frame.{framed_in}
use Rattle.journal_core.proofs.journal.frame.Goals as goal

pub returns-clause-framed : goal.returns-clause-framed
returns-clause-framed c =
    framed_in c.args.buffer.now c.copy_from_slice.new.self c.copy_from_slice-2.new.self c.copy_from_slice-3.new.self c.args.bytes.now 4 (length c.args.bytes.now + 8 - 8)
    c.requires.room (search rules) (search rules) (search rules) (omega arith) (omega arith)
