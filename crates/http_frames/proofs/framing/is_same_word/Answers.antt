use Rattle.std.proofs.lemmas.Slice.Eq.{bytes_eq-Decides}
use Rattle.std.proofs.lemmas.Bool.Decides.{same_from_decides}
use Rattle.http_frames.specs.Framing.{is_same_word}
use Rattle.http_frames.proofs.FieldLaws.{decided}
use Rattle.http_frames.proofs.framing.is_same_word.Goals as goal

pub returns : goal.returns
unfolding is_same_word
returns c = same_from_decides _ _ (decided _ _ c.eq_ignore_ascii_case.ensures.test) (bytes_eq-Decides _ _)
