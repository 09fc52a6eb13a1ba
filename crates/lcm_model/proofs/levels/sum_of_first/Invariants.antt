use Rattle.lcm_model.specs.Words.{total}
use Rattle.std.proofs.Common.{drop, take, true, ◌*◌, ◌+◌, ◌≡◌, ◌≤◌}
use Rattle.std.specs.List.{list_all}
use Rattle.std.specs.Prelude.{nat_le}
use Rattle.lcm_model.proofs.levels.sum_of_first.Given as goal

abbrev pub invariant-loop-number : goal.invariant-loop-number
invariant-loop-number l = record {
  value : l.sum + total (take l.left (drop l.number-index l.numbers)) ≡ total (take l.count l.numbers);
  bound : l.sum + 65535 * l.left ≤ 65535 * l.count;
  small : list_all (λ n. nat_le n 65535) (drop l.number-index l.numbers) ≡ true;
}
