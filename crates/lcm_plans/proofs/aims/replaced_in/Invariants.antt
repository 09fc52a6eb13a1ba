use Rattle.std.proofs.Common.{drop, true, ◌≡◌}
use Rattle.lcm_model.specs.Descriptors.{are_levels_of}
use Rattle.lcm_model.specs.Levels.{replaced}
use Rattle.lcm_plans.proofs.aims.replaced_in.Given as goal

abbrev pub invariant-loop-x : goal.invariant-loop-x
invariant-loop-x l = record {
  rest : replaced l.vnfd l.now.items (drop l.x-index l.named) ≡ replaced l.vnfd l.levels l.named;
  levels : are_levels_of l.vnfd l.now.items ≡ true;
}
