-- Whether it is among them is left to those behind.
use Rattle.std.proofs.Common.{◌≡◌, drop}
use Rattle.program_words.specs.Wrong.{is_among}
use Rattle.program_words.proofs.wrong.is_among.Given as goal

abbrev pub invariant-loop-other : goal.invariant-loop-other
invariant-loop-other l = is_among l.fn.words l.fn.word ≡ is_among (drop l.other-index l.words) l.fn.word
