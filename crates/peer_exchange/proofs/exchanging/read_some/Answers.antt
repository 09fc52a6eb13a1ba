-- A call that fails is the last of those in vain.
use Rattle.std.proofs.Common.{◌≡◌, refl, ap, ◌∙◌, arith, inr}
use Rattle.peer_exchange.specs.Exchanges.{interrupted}
use Rattle.peer_exchange.proofs.LostLaws.{failed_so}
use Rattle.peer_exchange.proofs.exchanging.read_some.Goals as goal

pub returns-in-Err-2-clause-counts : goal.returns-in-Err-2-clause-counts
returns-in-Err-2-clause-counts g c = λ told. let counted = c.in-Err-2.ensures.counted told in (
  _,
  (c.tries.counter, (c.tries.invariant.1 told).3),
  failed_so c.in-Err-2.field-0 _ _ counted.silence counted.fault,
)

pub returns-clause-timed : goal.returns-clause-timed
returns-clause-timed g c = λ told tells. (c.tries.invariant.1 told).4 tells (omega (arith, c.tries-test.false))

pub returns-clause-counts : goal.returns-clause-counts
returns-clause-counts g c = λ told. let all : c.tries.counter ≡ 16 = omega (arith, c.tries-test.false, c.tries.auto.counter-end) in (
  interrupted 15 _,
  (15, refl),
  inr ((c.tries.invariant.1 told).3 ∙ ap (λ times. interrupted times (g.C.Connection.vain c.args.connection.now)) all),
)
