-- One write more, and the end.
use Rattle.std.proofs.Common.{ℕ, List, ◌≡◌, ◌+◌, ◌-◌, length, take, drop, subst, arith, rules, ◌≤◌, length-drop}
use Rattle.std.proofs.lemmas.List.{length-take-le}
use Rattle.site_traits.specs.Door.{ConnIs, asked_for, has_written}
use Rattle.site_traits.specs.declared.door.WriteAnswer.TheVariants as write
use Rattle.lcm_replies.proofs.TellLemmas.{front_more, more_so_far, none_so_far, tells_more, told_in_part, told_whole}
use Rattle.lcm_replies.proofs.door.write_all.Goals as goal

pub loop-at-preserved : goal.loop-at-preserved
loop-at-preserved g c =
    let bytes = c.args.bytes.now in
    let within : c.loop-at.at + c.in-Took.n ≤ length bytes = omega (arith, c.in-Took.ensures.amount, length-drop c.loop-at.at bytes) in
    let left : length (take (length bytes - c.loop-at.at) (drop c.loop-at.at bytes)) ≡ length bytes - c.loop-at.at =
    length-take-le (length bytes - c.loop-at.at) (drop c.loop-at.at bytes) (omega (arith, length-drop c.loop-at.at bytes)) in
    record {
      within = within;
      counts = search rules;
      asked = more_so_far c.loop-at.at c.in-Took.n (length bytes) _ _ _ c.loop-at-test.true within c.loop-at.invariant.asked
          (subst (λ size. g.D.Door.writes c.write.new.self ≡ asked_for size (write.Took c.in-Took.n) (g.D.Door.writes c.loop-at.door)) left
          c.in-Took.ensures.one);
      told = λ tells.
          let P : List ℕ → Type 0 = λ out. ConnIs (has_written out (g.D.Door.state c.args.door.now).conn) (g.D.Door.state c.args.door.now)
          (g.D.Door.state c.write.new.self) in
          subst P (front_more bytes c.loop-at.at c.in-Took.n within) (tells_more _ _ _ _ _ (c.loop-at.invariant.told tells)
          (c.in-Took.ensures.told tells));
    }

pub loop-at-init : goal.loop-at-init
loop-at-init g c = record {
  within = search rules;
  counts = search rules;
  asked = none_so_far (length c.args.bytes.now) (g.D.Door.writes c.args.door.now);
  told = search rules;
}

pub returns-clause-asks : goal.returns-clause-asks
returns-clause-asks g c = told_whole c.loop-at.at (length c.args.bytes.now) _ _ _ c.loop-at-test.false c.loop-at.invariant.asked

pub returns-in-Failed-clause-asks : goal.returns-in-Failed-clause-asks
returns-in-Failed-clause-asks g c =
    let bytes = c.args.bytes.now in
    let left : length (take (length bytes - c.loop-at.at) (drop c.loop-at.at bytes)) ≡ length bytes - c.loop-at.at =
    length-take-le (length bytes - c.loop-at.at) (drop c.loop-at.at bytes) (omega (arith, length-drop c.loop-at.at bytes)) in
    told_in_part c.loop-at.at (length bytes) _ _ _ _ c.loop-at-test.true c.loop-at.invariant.asked
    (subst (λ size. g.D.Door.writes c.write.new.self ≡ asked_for size write.Failed (g.D.Door.writes c.loop-at.door)) left
    c.in-Failed.ensures.one)
