use Rattle.std.proofs.lemmas.Grind.{common_steps}
use Rattle.std.proofs.Common.{◌≡◌, ◌∙◌, ap, sym, subst, refl, ℕ, ◌+◌, List, All, arith}
use Rattle.std.proofs.lemmas.List.Elements.{All-push}
use Rattle.old_journal.specs.declared.marks.Mark.{Mark}
use Rattle.old_journal.specs.Marks.{Kept, AreEvery, IsMark}
use Rattle.old_journal.proofs.EveryLemmas.{every_push}
use Rattle.old_journal.proofs.marks.Marks.keep.Goals as goal

pub invariant_of-self-2 : goal.invariant_of-self-2
invariant_of-self-2 c =
    let seen_is : c.args.mark.before ≡ c.self.inside.seen = c.requires.next
    ∙ sym (ap (λ (k : Kept). k.seen) c.self.view_is) in
    let made = c.make_room-self-inside.ensures in
    let step = c.make_room-self-inside.result in
    let P : ℕ → Type 0 = λ n. AreEvery step (n + 1) c.push_reserved.new.self.items in (
      subst P seen_is (every_push step c.args.mark.before c.make_room-self-inside.new.kept.items
          c.push_reserved.new.self.items c.args.mark
          made.fit.0 made.every made.next refl
          c.push_reserved.ensures.items),
      (made.fit.0, omega (arith, made.fit.1, seen_is)),
      c.push_reserved.ensures.capacity ∙ made.capacity,
    )

pub returns-clause-marks : goal.returns-clause-marks
returns-clause-marks c = λ rs all mark.
    let P : List Mark → Type 0 = λ v. All (IsMark rs) v in
    let was = subst P (sym (ap (λ (k : Kept). k.places) c.self.view_is)) all in
    subst P (sym c.push_reserved.ensures.items) (All-push (IsMark rs) c.make_room-self-inside.new.kept.items c.args.mark
    (c.make_room-self-inside.ensures.marks rs was) mark)

pub make_room-self-inside-requires-clause-next : goal.make_room-self-inside-requires-clause-next
make_room-self-inside-requires-clause-next c = grind (arith, common_steps)
