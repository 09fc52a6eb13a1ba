use Rattle.std.proofs.Common.{◌≡◌, ◌++◌, ◌∙◌, [], List, Bool, ap, arith, drop, rules, sym}
use Rattle.notice_table.specs.Marks.{ShownMarks, marks_in}
use Rattle.notice_table.specs.Packing.{in_words}
use Rattle.notice_table.proofs.MarkLaws.{drop_in, last_word, next_word, none_at_all, nothing, one_less, some_left}
use Rattle.notice_table.proofs.marks.Marks.drop_first.Goals as goal

pub overflow_sub-self-then-self-gt1 : goal.overflow_sub-self-then-self-gt1
overflow_sub-self-then-self-gt1 c =
    let t = c.self.inside in
    let some = some_left t.left t.front (in_words t.words.items ++ marks_in t.filled t.back) (omega (arith, c.if-self-gt1.true)) in
    let is = c.self.invariant.count in
    omega (arith, some, is)

pub overflow_sub-self-then-self-eq1 : goal.overflow_sub-self-then-self-eq1
overflow_sub-self-then-self-eq1 c =
    let t = c.self.inside in
    let some = some_left t.left t.front (in_words t.words.items ++ marks_in t.filled t.back) (omega (arith, c.if-self-eq1.true)) in
    let is = c.self.invariant.count in
    omega (arith, some, is)

pub invariant_of-self : goal.invariant_of-self
invariant_of-self c =
    let t = c.self.inside in
    let rest : List Bool = in_words t.words.items ++ marks_in t.filled t.back in
    record {
      count = one_less t.count (marks_in t.left t.front ++ rest) _ c.self.invariant.count
          (drop_in t.left t.front rest (omega (arith, c.if-self-gt1.true)));
      filled = c.self.invariant.filled;
      back = c.self.invariant.back;
      front = λ none. absurd (omega (arith, none, c.if-self-gt1.true));
    }

pub returns-then-self-gt1-clause-marks : goal.returns-then-self-gt1-clause-marks
returns-then-self-gt1-clause-marks c =
    let t = c.self.inside in
    drop_in t.left t.front (in_words t.words.items ++ marks_in t.filled t.back) (omega (arith, c.if-self-gt1.true))
    ∙ ap (λ (s : ShownMarks). drop 1 s.marks) c.self.view_is

pub invariant_of-self-in-Some : goal.invariant_of-self-in-Some
invariant_of-self-in-Some c =
    let t = c.self.inside in
    record {
      count = one_less t.count (marks_in t.left t.front ++ (in_words t.words.items ++ marks_in t.filled t.back)) _ c.self.invariant.count
          (next_word t.left t.front c.in-Some.word t.words.items c.pop_front.new.self.items
          (marks_in t.filled t.back) c.if-self-eq1.true c.in-Some.ensures.items);
      filled = c.self.invariant.filled;
      back = c.self.invariant.back;
      front = λ none. absurd (omega (arith, none));
    }

pub returns-in-Some-clause-marks : goal.returns-in-Some-clause-marks
returns-in-Some-clause-marks c =
    let t = c.self.inside in
    next_word t.left t.front c.in-Some.word t.words.items c.pop_front.new.self.items
    (marks_in t.filled t.back) c.if-self-eq1.true c.in-Some.ensures.items
    ∙ ap (λ (s : ShownMarks). drop 1 s.marks) c.self.view_is

pub invariant_of-self-in-None : goal.invariant_of-self-in-None
invariant_of-self-in-None c =
    let t = c.self.inside in
    let rest = c.pop_front.new.self in
    let none : rest.items ≡ [] = nothing rest.items (omega (arith, rest.ok.0, c.in-None.ensures.cases.1)) in
    record {
      count = one_less t.count (marks_in t.left t.front ++ (in_words t.words.items ++ marks_in t.filled t.back)) _ c.self.invariant.count
          (last_word t.left t.front t.filled t.back t.words.items rest.items c.if-self-eq1.true (c.in-None.ensures.items ∙ none) none);
      filled = search rules;
      back = search rules;
      front = λ _. (none, search rules);
    }

pub returns-in-None-clause-marks : goal.returns-in-None-clause-marks
returns-in-None-clause-marks c =
    let t = c.self.inside in
    let rest = c.pop_front.new.self in
    let none : rest.items ≡ [] = nothing rest.items (omega (arith, rest.ok.0, c.in-None.ensures.cases.1)) in
    last_word t.left t.front t.filled t.back t.words.items rest.items c.if-self-eq1.true (c.in-None.ensures.items ∙ none) none
    ∙ ap (λ (s : ShownMarks). drop 1 s.marks) c.self.view_is

pub returns-else-self-eq1-clause-marks : goal.returns-else-self-eq1-clause-marks
returns-else-self-eq1-clause-marks c =
    let t = c.self.inside in
    let none : t.left ≡ 0 = omega (arith, c.if-self-gt1.false, c.if-self-eq1.false) in
    let empty = none_at_all t.left t.front t.words.items t.filled t.back none (c.self.invariant.front none) in
    let here : [] ≡ c.args.self.now.marks = sym empty ∙ ap (λ (s : ShownMarks). s.marks) c.self.view_is in
    sym here ∙ ap (drop 1) here
