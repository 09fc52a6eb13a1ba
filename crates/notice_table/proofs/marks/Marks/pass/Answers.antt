use Rattle.std.proofs.Common.{◌∙◌, refl, sym}
use Rattle.notice_table.proofs.MarkLaws.{starts_set}
use Rattle.notice_table.proofs.marks.Marks.pass.Goals as goal

pub returns-clause-marks : goal.returns-clause-marks
returns-clause-marks c = sym (starts_set _ c.loop-self.self.marks c.first.result refl c.first.ensures
    (sym c.loop-self-test.false ∙ c.eq.ensures)) ∙ c.loop-self.invariant.marks
