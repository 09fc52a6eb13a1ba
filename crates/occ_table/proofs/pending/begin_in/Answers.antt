use Rattle.std.proofs.Common.{arith, lt-ltb, le-ltb, length, List}
use Rattle.occ_table.specs.declared.pending.Pending.{Pending}
use Rattle.occ_table.proofs.Updates.{chosen, passed_over}
use Rattle.std.proofs.Common.{◌∙◌}
use Rattle.occ_table.proofs.pending.begin_in.Goals as goal

pub returns-then-len-lt-ROOM-clause-items : goal.returns-then-len-lt-ROOM-clause-items
returns-then-len-lt-ROOM-clause-items c =
    let ps : List Pending = c.args.entries.now.items in
    c.push_reserved.ensures.items ∙ chosen _ _ _ (lt-ltb (length ps) 4
    (omega (arith, c.len.ensures, c.if-len-lt-ROOM.true, c.args.entries.now.ok.0)))

pub returns-else-len-lt-ROOM-clause-items : goal.returns-else-len-lt-ROOM-clause-items
returns-else-len-lt-ROOM-clause-items c =
    let ps : List Pending = c.args.entries.now.items in
    passed_over _ _ _ (le-ltb (length ps) 4 (omega (arith, c.len.ensures, c.if-len-lt-ROOM.false, c.args.entries.now.ok.0)))
