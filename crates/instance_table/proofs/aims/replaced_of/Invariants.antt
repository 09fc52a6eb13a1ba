use Rattle.std.proofs.Common.{drop, length, ◌≡◌}
use Rattle.lcm_model.specs.Levels.{replaced}
use Rattle.instance_table.proofs.aims.replaced_of.Given as goal

abbrev pub invariant-loop-aspect : goal.invariant-loop-aspect
invariant-loop-aspect l = record {
  rest : replaced l.vnfd l.now.items (drop l.aspect-index l.named) ≡ replaced l.vnfd l.levels l.named;
  long : length l.now.items ≡ length l.vnfd.aspects;
}
