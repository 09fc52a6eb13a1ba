use Rattle.std.proofs.Common.{rules, sym}
use Rattle.notice_table.proofs.MarkLaws.{counted, no_marks}
use Rattle.notice_table.proofs.marks.Marks.new.Goals as goal

pub invariant_of-result : goal.invariant_of-result
invariant_of-result c =
    let none = no_marks c.new.result.items c.new.ensures.items in
    record { count = sym (counted none); filled = search rules; back = search rules; front = λ _. (c.new.ensures.items, search rules) }

pub returns : goal.returns
returns c = no_marks c.new.result.items c.new.ensures.items
