use Rattle.std.proofs.Common.{arith}
use Rattle.std.proofs.Math.Facts.{Fits-lt-pow}
use Rattle.journal_records.proofs.ContentLemmas.{begin_with, none_by_length, none_by_number}
use Rattle.journal_records.proofs.content.first_size.Goals.{then-size-eq0-via-then-size-eq0, then-size-eq0-via-else-size-eq0+then-size-gt-MAX_RECORD}
use Rattle.journal_records.proofs.content.first_size.Goals.{then-size-eq0-via-else-size-eq0+else-size-gt-MAX_RECORD+then-size-bytes}
use Rattle.journal_records.proofs.content.first_size.Goals as goal

pub returns-then-bytes-lt4 : goal.returns-then-bytes-lt4
returns-then-bytes-lt4 c = none_by_length c.args.bytes.now (omega arith)

pub returns-then-size-eq0 : goal.returns-then-size-eq0
returns-then-size-eq0 c = none_by_number c.args.bytes.now _ c.number_of-size.ensures (λ some fits room.
    elim c.then-size-eq0.branch [
      | then-size-eq0-via-then-size-eq0 w ↦ omega (arith, w.if-size-eq0)
      | then-size-eq0-via-else-size-eq0+then-size-gt-MAX_RECORD w ↦ omega (arith, w.if-size-gt-MAX_RECORD)
      | then-size-eq0-via-else-size-eq0+else-size-gt-MAX_RECORD+then-size-bytes w ↦ omega (arith, w.if-size-bytes)
    ])

pub returns : goal.returns
returns c = begin_with c.args.bytes.now _ (λ i. Fits-lt-pow (c.type_inv.bytes i)) (omega arith) c.number_of-size.ensures (omega arith)
    (omega arith) (omega arith)
