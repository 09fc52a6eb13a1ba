use Rattle.std.proofs.Common.{rules}
use Rattle.std.specs.Prelude.{codes}
use Rattle.std.proofs.lemmas.Iterator.Search.{any_from_yields_List}
use Rattle.std.proofs.lemmas.Iterator.Splits.{YieldsList-from_slice_split}
use Rattle.http_frames.specs.Framing.{has_close, parts_options, is_same_word}
use Rattle.http_frames.proofs.framing.has_close.Goals as goal

pub returns : goal.returns
unfolding has_close
returns c = any_from_yields_List (λ option. is_same_word option (codes "close")) _ _ _ c.any.ensures.ran
    (YieldsList-from_slice_split _ parts_options c.args.value.now c.split.ensures.rest c.split.ensures.done c.split.ensures.closure
    (λ x b q k. search rules))
    (λ x b q k. search rules)
