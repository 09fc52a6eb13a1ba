-- The first semicolon stands where none stands before it.
use Rattle.std.proofs.Common.{eqb, sym, arith, rules}
use Rattle.std.proofs.lemmas.List.Sums.{position_or_len_is}
use Rattle.lcm_api.proofs.media.first_semicolon.Goals as goal

pub returns-then-media-place-eq59 : goal.returns-then-media-place-eq59
returns-then-media-place-eq59 c = sym (position_or_len_is (λ x. eqb x 59) c.args.media.now c.loop-place.place 0 c.loop-place.invariant.0
    c.loop-place.invariant.1 (λ _. search rules))

pub returns : goal.returns
returns c = sym (position_or_len_is (λ x. eqb x 59) c.args.media.now c.loop-place.place 0 c.loop-place.invariant.0 c.loop-place.invariant.1
    (λ h. absurd (omega (arith, c.loop-place-test.false))))
