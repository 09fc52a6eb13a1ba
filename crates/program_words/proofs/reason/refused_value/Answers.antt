-- The value stands quoted, before the option and what that takes.
use Rattle.std.proofs.lemmas.Result.{IfOk-weaker}
use Rattle.program_words.proofs.reason.refused_value.Goals as goal

pub returns : goal.returns
returns c = IfOk-weaker c.refusal.result _ _
    (λ line is. (c.as_str.result.now, rw (c.as_str-2.ensures.value, c.wanted_by.ensures, c.as_str-3.ensures.value) at is))
    c.refusal.ensures
