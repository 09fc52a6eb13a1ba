use Rattle.std.proofs.lemmas.Grind.{common_steps}
use Rattle.std.proofs.Common.{◌≡◌, ◌∙◌, ◌∷◌, [], ◌++◌, ap, sym, length, arith}
use Rattle.std.specs.List.{concat}
use Rattle.std.proofs.lemmas.List.{take_all}
use Rattle.site_traits.proofs.ConnLemmas.{concat-more, ends-more, ends-rise, ends-last, have-ends}
use Rattle.site_traits.proofs.mem_conn.MemConn.with.Goals as goal

pub loop-piece-preserved : goal.loop-piece-preserved
loop-piece-preserved c =
    let was = c.loop-piece.invariant in
    let pieces = c.deref-piece-items.result.now in
    let bytes = concat-more pieces c.loop-piece.piece-index c.piece-item.result c.loop-piece.bytes.items c.extend_from_slice.new.self.items
    (omega (arith, c.loop-piece-test.true)) (sym c.piece-item.is) was.bytes
    (c.in_ok-extend_from_slice.ensures.items ∙ ap (λ v. c.loop-piece.bytes.items ++ v) c.as_slice.ensures) in
    record {
      bytes = bytes;
      count = omega (arith, c.in_ok-push.ensures.len, was.count);
      each = ends-more pieces c.loop-piece.piece-index c.loop-piece.ends.items c.push.new.self.items c.extend_from_slice.new.self.items
          was.count bytes
          (c.in_ok-push.ensures.items ∙ ap (λ v. c.loop-piece.ends.items ++ v ∷ []) (c.len.ensures ∙ c.extend_from_slice.new.self.ok.0))
          was.each;
    }

pub invariant_of-result : goal.invariant_of-result
invariant_of-result c =
    let was = c.loop-piece.invariant in
    let pieces = c.deref-piece-items.result.now in
    let all : c.loop-piece.piece-index ≡ length pieces = omega (arith, c.loop-piece-test.false, c.loop-piece.auto.piece-index-end) in
    let have = have-ends pieces c.loop-piece.ends.items c.loop-piece.piece-index was.count was.each in
    record {
      within = omega arith;
      roomy = omega (arith, c.in_ok-out.ensures.capacity);
      rising = ends-rise pieces c.loop-piece.ends.items have;
      last_end = ends-last pieces c.loop-piece.ends.items c.loop-piece.bytes.items (was.count ∙ all)
          (was.bytes ∙ ap concat (take_all c.loop-piece.piece-index pieces (omega (arith, all)))) have;
      passed = λ k lt. omega (arith, lt);
    }

pub returns-clause-plan : goal.returns-clause-plan
returns-clause-plan c = grind (arith, common_steps)
