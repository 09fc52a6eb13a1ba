use Rattle.std.proofs.Common.{◌%◌, ◌*◌, ◌+◌, ◌^◌, ◌∙◌, ap, sym, true, false, ℕ}
use Rattle.notice_table.specs.Marks.{marks_in}
use Rattle.notice_table.proofs.MarkLaws.{marked_word, unset_low}
use Rattle.notice_table.proofs.marks.word_with_mark.Goals as goal

pub returns-then-mark-clause-marks : goal.returns-then-mark-clause-marks
returns-then-mark-clause-marks c = rw c.if-mark.true (marked_word c.args.place c.args.word true c.requires.place c.requires.word)

pub returns-else-mark-clause-marks : goal.returns-else-mark-clause-marks
returns-else-mark-clause-marks c =
    rw c.if-mark.false (ap (λ (k : ℕ). marks_in (c.args.place + 1) k)
    (sym (unset_low c.args.word (1 * 2 ^ c.args.place % 18446744073709551616)))
    ∙ marked_word c.args.place c.args.word false c.requires.place c.requires.word)
