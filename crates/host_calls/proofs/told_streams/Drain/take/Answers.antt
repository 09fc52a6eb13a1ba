-- The bytes that were due stand behind those that were taken.
use Rattle.std.proofs.Common.{List, ℕ, ◌++◌, length, take, ap, sym, ◌∙◌}
use Rattle.std.proofs.Math.Seq.{take-add}
use Rattle.host_calls.proofs.told_streams.Drain.take.Goals as goal

pub returns-clause-took : goal.returns-clause-took
returns-clause-took c true =
    let taken : ℕ = c.args.self.now.at in
    let all : List ℕ = c.args.self.now.expected.items in
    take-add taken (length c.args.bytes.now) all
    ∙ ap (λ x. take taken all ++ x) (ap (λ x. take (length c.args.bytes.now) x) (sym c.due.ensures)
    ∙ c.are_due.ensures.same c.if-not-are_due.false)
