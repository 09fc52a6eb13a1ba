use Rattle.std.proofs.Common.{◌≡◌, ◌∙◌, ◌<◌, ◌≤◌, ◌-◌, get_or, sym, ap, subst, List, arith}
use Rattle.journal_core.specs.declared.marks.Mark.{Mark}
use Rattle.std.specs.Prelude.{Contains}
use Rattle.journal_core.specs.Marks.{Kept, AreInOrder}
use Rattle.journal_core.proofs.MarkLemmas.{parted, near_before, near_last, near_none}
use Rattle.journal_core.proofs.marks.Marks.near.Goals as goal

pub returns-then-passed-eq0-clause-last : goal.returns-then-passed-eq0-clause-last
returns-then-passed-eq0-clause-last c = λ m there before.
    let kept = c.self.inside.kept.items in
    let n = c.args.n in
    let order = c.self.invariant.2 in
    let passed = c.count_before-passed.result in
    let O : List Mark → Type 0 = λ v. AreInOrder v in
    let slice = c.deref.result.now in
    let order_too : AreInOrder slice = subst O (sym c.deref.ensures.value) order in
    let same : slice ≡ c.args.self.now.places = c.deref.ensures.value ∙ ap (λ (k : Kept). k.places) c.self.view_is in
    let C : List Mark → Type 0 = λ v. Contains v m in
    absurd (near_none slice n order_too passed c.count_before-passed.ensures.bound
    (c.count_before-passed.ensures.place (parted slice n order_too)) m (subst C (sym same) there) before c.if-passed-eq0.true)

pub returns-clause-before : goal.returns-clause-before
returns-clause-before c =
    let n = c.args.n in
    let passed = c.count_before-passed.result in
    let O : List Mark → Type 0 = λ v. AreInOrder v in
    let slice = c.deref.result.now in
    let order_too : AreInOrder slice = subst O (sym c.deref.ensures.value) c.self.invariant.2 in
    let d = c.index.result.now in
    let before = near_before slice n order_too passed c.count_before-passed.ensures.bound
    (c.count_before-passed.ensures.place (parted slice n order_too)) d (let some = c.if-passed-eq0.false in omega (arith, some)) in
    let L : List Mark → Type 0 = λ v. (get_or v (passed - 1) d).before < n in
    let M : Mark → Type 0 = λ v. v.before < n in
    subst M (sym c.index.ensures) (subst L c.deref.ensures.value before)

pub returns-clause-last : goal.returns-clause-last
returns-clause-last c = λ m there before.
    let n = c.args.n in
    let passed = c.count_before-passed.result in
    let O : List Mark → Type 0 = λ v. AreInOrder v in
    let slice = c.deref.result.now in
    let order_too : AreInOrder slice = subst O (sym c.deref.ensures.value) c.self.invariant.2 in
    let d = c.index.result.now in
    let same : slice ≡ c.args.self.now.places = c.deref.ensures.value ∙ ap (λ (k : Kept). k.places) c.self.view_is in
    let C : List Mark → Type 0 = λ v. Contains v m in
    let last = near_last slice n order_too passed c.count_before-passed.ensures.bound
    (c.count_before-passed.ensures.place (parted slice n order_too)) d m (subst C (sym same) there) before
    (let some = c.if-passed-eq0.false in omega (arith, some)) in
    let L : List Mark → Type 0 = λ v. m.before ≤ (get_or v (passed - 1) d).before in
    let M : Mark → Type 0 = λ v. m.before ≤ v.before in
    subst M (sym c.index.ensures) (subst L c.deref.ensures.value last)
