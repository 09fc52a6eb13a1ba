use Rattle.std.proofs.Common.{◌≡◌, ◌++◌, true, false, sym, ap, ◌∙◌, subst, append-nil}
use Rattle.httparse.specs.Spans.{header_bytes, span_bytes}
use Rattle.http_frames.specs.Framing.{is_same_word}
use Rattle.http_frames.specs.Answers.{HoldsValues}
use Rattle.http_frames.specs.declared.framing.Values.TheVariants.{Absent, Once, Several}
use Rattle.http_frames.proofs.FieldLaws.{values_of-yes, values_of-no, holds_one_more}
use Rattle.http_frames.proofs.framing.Values.with.Goals as goal

pub returns-then-not-is_same_word : goal.returns-then-not-is_same_word
returns-then-not-is_same_word c = λ values h.
    let other : is_same_word (span_bytes c.args.buf.now c.args.header.now.name) c.args.name.now ≡ false = cc in
    subst (HoldsValues c.args.buf.now c.args.self) (sym (ap (λ x. values ++ x)
    (values_of-no c.args.name.now (header_bytes c.args.buf.now c.args.header.now) other) ∙ append-nil values)) h

pub returns-in-Absent : goal.returns-in-Absent
returns-in-Absent c = λ values h.
    let same : is_same_word (span_bytes c.args.buf.now c.args.header.now.name) c.args.name.now ≡ true = cc in
    holds_one_more c.args.buf.now Absent c.args.header.now.value values _ c.requires.1
    (values_of-yes c.args.name.now (header_bytes c.args.buf.now c.args.header.now) same)
    (subst (λ s. HoldsValues c.args.buf.now s values) c.in-Absent.is h)

pub returns-in-Once : goal.returns-in-Once
returns-in-Once c = λ values h.
    let same : is_same_word (span_bytes c.args.buf.now c.args.header.now.name) c.args.name.now ≡ true = cc in
    holds_one_more c.args.buf.now (Once c.in-Once.first) c.args.header.now.value values _ c.requires.1
    (values_of-yes c.args.name.now (header_bytes c.args.buf.now c.args.header.now) same)
    (subst (λ s. HoldsValues c.args.buf.now s values) c.in-Once.is h)

pub returns-in-Several : goal.returns-in-Several
returns-in-Several c = λ values h.
    let same : is_same_word (span_bytes c.args.buf.now c.args.header.now.name) c.args.name.now ≡ true = cc in
    holds_one_more c.args.buf.now (Several c.in-Several.first) c.args.header.now.value values _ c.requires.1
    (values_of-yes c.args.name.now (header_bytes c.args.buf.now c.args.header.now) same)
    (subst (λ s. HoldsValues c.args.buf.now s values) c.in-Several.is h)
