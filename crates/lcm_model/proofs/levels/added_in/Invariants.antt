use Rattle.lcm_model.specs.Levels.{added, has_small_deltas}
use Rattle.lcm_model.specs.Words.{total}
use Rattle.std.proofs.Common.{drop, true, ◌*◌, ◌+◌, ◌≡◌, ◌≤◌}
use Rattle.std.specs.List.{list_all}
use Rattle.std.specs.Prelude.{map, nat_le, zip}
use Rattle.lcm_model.proofs.levels.added_in.Given as goal

abbrev pub invariant-loop-at : goal.invariant-loop-at
invariant-loop-at l = record {
  value : l.sum + total (map (added l.vdu) (zip (drop l.at l.aspects) (drop l.at l.levels)))
      ≡ total (map (added l.vdu) (zip l.aspects l.levels));
  bound : l.sum ≤ 65535000 * l.at;
  within : list_all (λ x. nat_le x.1 x.0.maximum) (zip (drop l.at l.aspects) (drop l.at l.levels)) ≡ true;
  small : list_all has_small_deltas (drop l.at l.aspects) ≡ true;
}
