-- No pair is left.
use Rattle.std.proofs.Common.{arith}
use Rattle.std.proofs.lemmas.Grind.{common_steps}
use Rattle.json_views.proofs.ListLemmas.{all_paired}
use Rattle.json_views.specs.Resources.{level_of}
use Rattle.json_views.proofs.resources.aspect_levels.Goals as goal

pub returns : goal.returns
returns c = all_paired level_of c.loop-aspect.aspect-iterator.a.rest.now c.loop-aspect.aspect-iterator.b.rest.now _ _
    c.loop-aspect.invariant c.in-None.ensures.steps

pub loop-aspect-preserved : goal.loop-aspect-preserved
loop-aspect-preserved c = grind (arith, common_steps)
