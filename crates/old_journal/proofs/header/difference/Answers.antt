use Rattle.std.proofs.Common.{sym, ◌∙◌}
use Rattle.std.proofs.lemmas.Bool.{false≢true}
use borrow.Author.Count.{below_more}
use Rattle.old_journal.specs.Header.{MayStand}
use Rattle.old_journal.proofs.header.difference.Goals as goal

pub loop-place-preserved : goal.loop-place-preserved
loop-place-preserved c = below_more (λ k. MayStand k c.args.front.now) c.loop-place.place c.loop-place.invariant
    (c.stands.ensures.0 c.if-not-stands.false)

pub returns-then-not-stands : goal.returns-then-not-stands
returns-then-not-stands c = record {
  within = c.loop-place-test.true;
  before = c.loop-place.invariant;
  differs = λ may. false≢true (sym c.if-not-stands.true ∙ c.stands.ensures.1 may);
}
