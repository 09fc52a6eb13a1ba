use Rattle.std.proofs.Common.{◌++◌, ◌∙◌, ◌∷◌, [], ap, arith, rules}
use Rattle.notice_table.specs.Marks.{ShownMarks, marks_in}
use Rattle.notice_table.specs.Packing.{in_words}
use Rattle.notice_table.proofs.MarkLaws.{one_more, put_first, put_last}
use Rattle.notice_table.proofs.marks.Marks.put.Goals as goal

pub invariant_of-self : goal.invariant_of-self
invariant_of-self c =
    let t = c.self.inside in
    let rest = c.self.invariant.front c.if-self-eq0.true in
    record {
      count = one_more t.count (marks_in t.left t.front ++ (in_words t.words.items ++ marks_in t.filled t.back)) _ c.args.mark
          c.self.invariant.count
          (put_first t.left t.front t.words.items t.filled t.back c.word_with_mark-self-inside.result c.args.mark c.if-self-eq0.true rest
          c.word_with_mark-self-inside.ensures.marks);
      filled = c.self.invariant.filled;
      back = c.self.invariant.back;
      front = λ none. absurd (omega (arith, none));
    }

pub returns-then-self-eq0 : goal.returns-then-self-eq0
returns-then-self-eq0 c =
    let t = c.self.inside in
    put_first t.left t.front t.words.items t.filled t.back c.word_with_mark-self-inside.result c.args.mark c.if-self-eq0.true
    (c.self.invariant.front c.if-self-eq0.true) c.word_with_mark-self-inside.ensures.marks
    ∙ ap (λ (s : ShownMarks). s.marks ++ c.args.mark ∷ []) c.self.view_is

pub invariant_of-self-then-self : goal.invariant_of-self-then-self
invariant_of-self-then-self c =
    let t = c.self.inside in
    record {
      count = one_more t.count (marks_in t.left t.front ++ (in_words t.words.items ++ marks_in t.filled t.back)) _ c.args.mark
          c.self.invariant.count
          (put_last (marks_in t.left t.front) t.words.items c.push_back_reserved.new.self.items t.filled t.back c.word_with_mark-word.result
          0 c.args.mark c.push_back_reserved.ensures.items (omega (arith, c.if-self.true)) c.word_with_mark-word.ensures.marks);
      filled = search rules;
      back = search rules;
      front = λ none. absurd (omega (arith, none, c.if-self-eq0.false));
    }

pub returns-then-self : goal.returns-then-self
returns-then-self c =
    let t = c.self.inside in
    put_last (marks_in t.left t.front) t.words.items c.push_back_reserved.new.self.items t.filled t.back c.word_with_mark-word.result 0
    c.args.mark c.push_back_reserved.ensures.items (omega (arith, c.if-self.true)) c.word_with_mark-word.ensures.marks
    ∙ ap (λ (s : ShownMarks). s.marks ++ c.args.mark ∷ []) c.self.view_is
