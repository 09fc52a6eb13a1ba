use Rattle.std.proofs.Common.{◌∙◌, rules, of_calls, List, ℕ, not, nat_lt}
use Rattle.std.proofs.lemmas.Fn.{always_returns_same}
use Rattle.occ_table.proofs.GoingLaws.{above_found, parted}
use Rattle.occ_table.proofs.going.first_above.Goals as goal

pub returns : goal.returns
returns c = λ rises.
    let ns : List ℕ = c.args.numbers.now in
    let point = c.partition_point-at.ensures.partitioned (λ n. not (nat_lt c.args.after n))
    (always_returns_same _ _ _ (λ a r f k. search (rules, of_calls)))
    (parted c.args.after ns rises) in
    c.number_at.ensures ∙ above_found c.args.after ns c.partition_point-at.result c.partition_point-at.ensures.bound point
