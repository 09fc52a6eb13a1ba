use Rattle.std.proofs.Common.{◌≡◌, ◌≤◌, ℕ, List, length, take, ap, ◌∙◌, subst, inl, inr, arith}
use Rattle.std.proofs.lemmas.List.{length-take}
use Rattle.httparse.specs.Grammar.{HasNoResponse, MayBecomeResponse, NeverHasResponse}
use Rattle.http_frames.specs.declared.TheConstants.{HEAD_BYTES}
use Rattle.http_client.proofs.ReadingLaws.{window_min, spans_there, many_there, refused_is_never}
use Rattle.http_client.proofs.heads.read_head.Goals as goal

pub judge-requires : goal.judge-requires
judge-requires c =
    let found = rw c.in-Ok-Complete.field-0-is at c.in-Ok-Complete.ensures.complete in
    let within = rw c.in-Ok-Complete.field-0-is at c.in-Ok-Complete.ensures.within in
    let short : length (take c.min.result c.args.bytes.now) ≤ HEAD_BYTES =
    omega (
      arith,
      length-take HEAD_BYTES c.args.bytes.now,
      ap length
          (ap (λ k. take k c.args.bytes.now) c.min.ensures ∙ window_min HEAD_BYTES c.args.bytes.now),
    ) in
    spans_there _ _ _ short c.if-head-gt-HEAD_FIELDS.false within found

pub returns-in-Ok-Complete-clause-head : goal.returns-in-Ok-Complete-clause-head
returns-in-Ok-Complete-clause-head c = λ ended.
    let found = rw c.in-Ok-Complete.field-0-is at c.in-Ok-Complete.ensures.complete in
    let within = rw c.in-Ok-Complete.field-0-is at c.in-Ok-Complete.ensures.within in
    inl (inr (many_there c.args.bytes.now _ _ _ (ap (λ k. take k c.args.bytes.now) c.min.ensures ∙ window_min HEAD_BYTES c.args.bytes.now)
    c.if-head-gt-HEAD_FIELDS.true within found))

pub returns-in-Ok-Complete-2-clause-head : goal.returns-in-Ok-Complete-2-clause-head
returns-in-Ok-Complete-2-clause-head c =
    c.judge.ensures c.args.bytes.now (ap (λ k. take k c.args.bytes.now) c.min.ensures ∙ window_min HEAD_BYTES c.args.bytes.now)

pub returns-in-Ok-Partial-clause-head : goal.returns-in-Ok-Partial-clause-head
returns-in-Ok-Partial-clause-head c = λ ended.
    let e : take c.min.result c.args.bytes.now ≡ take HEAD_BYTES c.args.bytes.now =
    ap (λ k. take k c.args.bytes.now) c.min.ensures ∙ window_min HEAD_BYTES c.args.bytes.now in
    let none = rw c.in-Ok-Partial.field-0-is at c.in-Ok-Partial.ensures.partial in
    let may = rw c.in-Ok-Partial.field-0-is at c.in-Ok-Partial.ensures.unfinished in
    inl (inl (record {
      over = c.if-bytes-gt-HEAD_BYTES.true;
      none = subst (λ (x : List ℕ). HasNoResponse x) e none;
      may = subst (λ (x : List ℕ). MayBecomeResponse x) e may;
    }))

pub returns-in-Err-clause-head : goal.returns-in-Err-clause-head
returns-in-Err-clause-head c = λ ended.
    let e : take c.min.result c.args.bytes.now ≡ take HEAD_BYTES c.args.bytes.now =
    ap (λ k. take k c.args.bytes.now) c.min.ensures ∙ window_min HEAD_BYTES c.args.bytes.now in
    let short : length (take c.min.result c.args.bytes.now) ≤ HEAD_BYTES =
    omega (arith, length-take HEAD_BYTES c.args.bytes.now, ap length e) in
    inl (subst (λ (x : List ℕ). NeverHasResponse x) e
    (refused_is_never _ _ c.in-Err.field-0 c.requires short c.in-Err.ensures.invalid c.in-Err.ensures.too_many))
