use Rattle.std.proofs.Common.{sym, ◌∙◌}
use Rattle.http_frames.proofs.FieldLaws.{announced_length, announced_long, announced_broken}
use Rattle.http_frames.proofs.framing.sized_by.Goals as goal

pub returns-then-not-is_length : goal.returns-then-not-is_length
returns-then-not-is_length c = sym (announced_broken _ (sym c.is_length.ensures.is ∙ c.if-not-is_length.true))

pub returns-then-length-gt-BODY_BYTES : goal.returns-then-length-gt-BODY_BYTES
returns-then-length-gt-BODY_BYTES c = sym (announced_long _ _ (sym c.is_length.ensures.is ∙ c.if-not-is_length.false)
    c.number_up_to-length.ensures c.if-length-gt-BODY_BYTES.true)

pub returns-else-length-gt-BODY_BYTES : goal.returns-else-length-gt-BODY_BYTES
returns-else-length-gt-BODY_BYTES c = sym (announced_length _ _
    (sym c.is_length.ensures.is ∙ c.if-not-is_length.false) c.number_up_to-length.ensures c.if-length-gt-BODY_BYTES.false)
