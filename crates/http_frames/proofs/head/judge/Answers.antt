use Rattle.std.proofs.Common.{◌≤◌, length, sym, ap, ◌∙◌, inl, arith}
use Rattle.httparse.specs.Grammar.{print_request}
use Rattle.http_frames.specs.declared.TheConstants.{HEAD_BYTES}
use Rattle.http_frames.specs.Framing.{frame_of_fields}
use Rattle.http_frames.proofs.MessageLaws.{long_body_big, broken_bad}
use Rattle.http_frames.proofs.head.judge.Goals as goal

pub returns-in-TooLong : goal.returns-in-TooLong
returns-in-TooLong c = inl (long_body_big _ c.requires.head _ c.requires.reads
    (sym (ap frame_of_fields c.requires.fields_are) ∙ sym c.frame_of.ensures ∙ c.in-TooLong.is))

pub returns-in-Broken : goal.returns-in-Broken
returns-in-Broken c =
    let short : length (print_request c.requires.head) ≤ HEAD_BYTES = omega arith in
    broken_bad _ c.requires.head _ c.requires.reads short c.requires.few
    (sym (ap frame_of_fields c.requires.fields_are) ∙ sym c.frame_of.ensures ∙ c.in-Broken.is)
