use Rattle.std.proofs.Common.{ap, length, arith}
use Rattle.journal_migration.specs.Packing.{Packing}
use Rattle.journal_migration.proofs.PackLemmas.{on_ok_leads, packs_in, packs_on}
use Rattle.journal_migration.proofs.packing.Packing.add.Goals as goal

pub returns-then-len-bytes-gt-MAX_BATCH : goal.returns-then-len-bytes-gt-MAX_BATCH
returns-then-len-bytes-gt-MAX_BATCH c = λ m rs has.
    let long = ap (λ (p : Packing). length p.content) c.self.view_is in
    let over = c.if-len-bytes-gt-MAX_BATCH.true in
    on_ok_leads c.put.result c.put.ensures.content
    (λ is. packs_on m rs c.args.bytes.now c.args.self.now c.close.new.self c.put.new.self has c.requires
    (omega (arith, long, c.self.invariant)) (omega (arith, long, c.self.invariant, c.len.ensures, over, c.requires.fits))
    (omega (arith, long, c.len.ensures, over))
    c.in_ok-close.ensures.content (c.in_ok-close.ensures.file m has.batches has.hand has.at_hand has.file) is c.put.ensures.bytes
    c.put.ensures.unfit)

pub returns : goal.returns
returns c = λ m rs has.
    on_ok_leads c.put-2.result c.put-2.ensures.content
    (λ is. packs_in m rs c.args.bytes.now c.args.self.now c.put-2.new.self has c.requires is c.put-2.ensures.bytes c.put-2.ensures.unfit)
