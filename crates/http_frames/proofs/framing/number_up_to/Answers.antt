use Rattle.std.proofs.Common.{◌∙◌}
use Rattle.http_frames.proofs.FieldLaws.{cut_more}
use Rattle.http_frames.proofs.framing.number_up_to.Goals as goal

pub loop-digit-preserved : goal.loop-digit-preserved
loop-digit-preserved c = c.grown-number.ensures ∙ cut_more _ _ _ _ c.loop-digit-test.true c.loop-digit.invariant
