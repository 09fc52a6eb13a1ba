-- The changes that are left are those of this walk and those of the later ones.
use Rattle.std.proofs.Common.{◌≡◌, ◌≤◌, ◌<◌, ◌+◌, ◌++◌, ◌^◌, ◌∙◌, List, ℕ, ap, sym, refl, arith, take, drop, length, take-append-drop}
use Rattle.grant_desk.proofs.TallyLaws.{walk}
use Rattle.grant_desk.proofs.tallies.are_named_once.Goals as goal

all_parts : {A : Type 0} (n : ℕ) (xs front back : List A) → front ≡ take n xs → back ≡ drop n xs → xs ≡ front ++ back
all_parts {A} n xs front back e f = sym (take-append-drop n xs) ∙ ap (λ (ys : List A). ys ++ drop n xs) (sym e)
    ∙ ap (λ (ys : List A). front ++ ys) (sym f)

pub returns-then-not-are_counted_once-clause-named : goal.returns-then-not-are_counted_once-clause-named
returns-then-not-are_counted_once-clause-named c =
    let parts : c.loop-left.left.now ≡ c.split_at.result.0.now ++ c.split_at.result.1.now =
    all_parts c.min.result _ _ _ c.split_at.ensures.front c.split_at.ensures.back in
    let fits : length c.split_at.result.0.now ≤ length c.count_rows.new.counts = omega arith in
    let small : c.loop-left.first + length c.split_at.result.0.now < 2 ^ 64 = omega arith in
    let step = walk c.args.part c.args.rows.now c.loop-left.first _ _ _ _ _ c.count_rows.ensures.tallied parts fits small
    c.are_counted_once.ensures in
    sym (c.loop-left.invariant.1 ∙ step ∙ rw c.if-not-are_counted_once.true refl)

pub loop-left-preserved : goal.loop-left-preserved
loop-left-preserved c =
    let parts : c.loop-left.left.now ≡ c.split_at.result.0.now ++ c.split_at.result.1.now =
    all_parts c.min.result _ _ _ c.split_at.ensures.front c.split_at.ensures.back in
    let fits : length c.split_at.result.0.now ≤ length c.count_rows.new.counts = omega arith in
    let small : c.loop-left.first + length c.split_at.result.0.now < 2 ^ 64 = omega arith in
    let step = walk c.args.part c.args.rows.now c.loop-left.first _ _ _ _ _ c.count_rows.ensures.tallied parts fits small
    c.are_counted_once.ensures in (
      omega arith,
      c.loop-left.invariant.1 ∙ step ∙ rw c.if-not-are_counted_once.false refl,
      c.count_rows.ensures.length ∙ c.loop-left.invariant.2,
    )
