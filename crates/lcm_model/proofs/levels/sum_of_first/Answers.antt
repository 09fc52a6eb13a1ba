use Rattle.std.proofs.Common.{ℕ, ◌≡◌, arith, nat_le, true, get_or}
use Rattle.std.proofs.lemmas.Grind.{common_steps}
use Rattle.lcm_model.proofs.ListLaws.{sum_step, small_here, small_next}
use Rattle.lcm_model.proofs.levels.sum_of_first.Goals as goal

pub loop-number-preserved : goal.loop-number-preserved
loop-number-preserved c =
    let i : ℕ = c.loop-number.number-index in
    let small : nat_le (get_or c.args.numbers.now i 0) 65535 ≡ true =
    small_here (λ n. nat_le n 65535) c.args.numbers.now i c.loop-number-test.true c.loop-number.invariant.small in
    record {
      value = sum_step c.args.numbers.now i c.loop-number.left c.loop-number.sum _ c.loop-number-test.true
          (omega arith) c.loop-number.invariant.value;
      bound = grind (arith, common_steps);
      small = small_next (λ n. nat_le n 65535) c.args.numbers.now i c.loop-number-test.true c.loop-number.invariant.small;
    }
