use Rattle.std.proofs.Common.{ap, arith, slice_get, ◌∙◌, ◌++◌}
use Rattle.notice_table.specs.Marks.{ShownMarks, marks_in}
use Rattle.notice_table.specs.Packing.{in_words}
use Rattle.notice_table.proofs.MarkLaws.{first_in, none_left}
use Rattle.notice_table.proofs.marks.Marks.first.Goals as goal

pub returns-then-self-eq0 : goal.returns-then-self-eq0
returns-then-self-eq0 c =
    let t = c.self.inside in
    none_left t.left t.front t.words.items t.filled t.back c.if-self-eq0.true (c.self.invariant.front c.if-self-eq0.true)
    ∙ ap (λ (s : ShownMarks). slice_get s.marks 0) c.self.view_is

pub returns-else-self-eq0 : goal.returns-else-self-eq0
returns-else-self-eq0 c =
    let t = c.self.inside in
    first_in t.left t.front (in_words t.words.items ++ marks_in t.filled t.back) (omega (arith, c.if-self-eq0.false))
    ∙ ap (λ (s : ShownMarks). slice_get s.marks 0) c.self.view_is
