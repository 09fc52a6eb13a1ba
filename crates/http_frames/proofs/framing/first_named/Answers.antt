use Rattle.std.proofs.Common.{sym, ap, ◌∙◌}
use Rattle.std.specs.Prelude.{option_map}
use Rattle.httparse.specs.Spans.{span_bytes}
use Rattle.http_frames.proofs.FieldLaws.{first_found, first_is_found}
use Rattle.http_frames.proofs.framing.first_named.Goals as goal

pub returns-in-Absent-clause-value : goal.returns-in-Absent-clause-value
returns-in-Absent-clause-value c = sym (first_is_found _ _ _ c.values_named.ensures
    ∙ ap (λ x. option_map (span_bytes c.args.buf.now) (first_found x)) c.in-Absent.is)

pub returns-in-Once-clause-value : goal.returns-in-Once-clause-value
returns-in-Once-clause-value c = sym (first_is_found _ _ _ c.values_named.ensures
    ∙ ap (λ x. option_map (span_bytes c.args.buf.now) (first_found x)) c.in-Once.is)

pub returns-in-Several-clause-value : goal.returns-in-Several-clause-value
returns-in-Several-clause-value c = sym (first_is_found _ _ _ c.values_named.ensures
    ∙ ap (λ x. option_map (span_bytes c.args.buf.now) (first_found x)) c.in-Several.is)
