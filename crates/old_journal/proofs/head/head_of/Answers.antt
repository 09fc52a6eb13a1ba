use Rattle.std.proofs.Common.{◌∙◌, sym}
use Rattle.std.proofs.lemmas.Bool.{false≢true}
use Rattle.std.proofs.Math.Facts.{Fits-lt-pow}
use Rattle.old_journal.proofs.HeadLemmas.{head_open, head_broken}
use Rattle.old_journal.proofs.head.head_of.Goals as goal

pub returns-then-ends_within-clause-head : goal.returns-then-ends_within-clause-head
returns-then-ends_within-clause-head c = λ rest is whole.
    head_open c.args.end c.args.len c.from_be_bytes-size.result c.args.bytes.now rest is whole c.if-bytes-ne1.false
    c.if-bytes-lt5.false
    (λ i. Fits-lt-pow (c.type_inv.bytes i)) c.from_be_bytes-size.ensures (c.ends_within.ensures.0 c.if-ends_within.true)

pub returns-else-ends_within-clause-head : goal.returns-else-ends_within-clause-head
returns-else-ends_within-clause-head c = λ rest is whole.
    head_broken c.args.end c.args.len c.from_be_bytes-size.result c.args.bytes.now rest is whole c.if-bytes-ne1.false
    c.if-bytes-lt5.false
    c.from_be_bytes-size.ensures (λ ends. false≢true (sym c.if-ends_within.false ∙ c.ends_within.ensures.1 ends))
