use Rattle.std.proofs.Common.{Some, List, ℕ, ◌++◌, length, take, ap, ◌∙◌, arith, append_assoc}
use Rattle.std.proofs.lemmas.List.{length-drop}
use Rattle.peer_exchange.proofs.LostLaws.{counts_from, interrupted_from}
use Rattle.peer_exchange.proofs.PieceLaws.{take_on}
use Rattle.peer_exchange.proofs.exchanging.send.Goals as goal

pub writes-preserved : goal.writes-preserved
writes-preserved g c = (
  omega (arith, c.in-Ok.ensures.most, ap length c.rest.ensures, length-drop c.writes.sent c.args.bytes.now, c.writes.invariant.0),
  λ told. let before = c.writes.invariant.1 told in
      let old : List ℕ = g.C.Connection.outgoing c.args.connection.now in (
        c.in-Ok.ensures.kept told ∙ before.0,
        (c.in-Ok.ensures.told told).took
            ∙ ap (λ x. x ++ take c.in-Ok.count c.rest.result.now) before.1
            ∙ append_assoc old (take c.writes.sent c.args.bytes.now) (take c.in-Ok.count c.rest.result.now)
            ∙ ap (λ x. old ++ (take c.writes.sent c.args.bytes.now ++ take c.in-Ok.count x)) c.rest.ensures
            ∙ ap (λ x. old ++ x) (take_on c.writes.sent c.in-Ok.count c.args.bytes.now),
        interrupted_from _ _ _ before.2 (c.in-Ok.ensures.counts told),
      ),
)

pub returns-in-Err-clause-counts : goal.returns-in-Err-clause-counts
returns-in-Err-clause-counts g c = λ told.
    counts_from (Some c.in-Err.lost) _ _ _ (c.writes.invariant.1 told).2 (c.in-Err.ensures.counts told)
