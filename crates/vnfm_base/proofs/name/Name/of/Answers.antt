use Rattle.std.proofs.Common.{ap, ◌∙◌, ◌++◌, length, drop, replicate}
use Rattle.vnfm_base.proofs.NameLemmas.{HoldsName-front}
use Rattle.vnfm_base.proofs.name.Name.of.Goals as goal

pub invariant_of-result : goal.invariant_of-result
invariant_of-result c =
    HoldsName-front c.in_ok-text.text.now c.put_front.new.room (c.in_ok-text.ensures {u = tt}).text
    (c.put_front.ensures ∙ ap (λ t. t ++ drop (length t) (replicate 255 0)) c.as_bytes.ensures.value)
