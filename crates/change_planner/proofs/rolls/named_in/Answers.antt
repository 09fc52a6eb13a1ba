use Rattle.std.proofs.lemmas.List.Sorted.{IsNonDecreasingBy-from_sort}
use Rattle.change_planner.proofs.SearchLaws.{named_sorted}
use Rattle.change_planner.proofs.rolls.named_in.Goals as goal

pub returns-clause-named : goal.returns-clause-named
returns-clause-named c = named_sorted c.args.named.now c.args.vdu c.in_ok-serials.serials.items c.sort.new.self.items
    c.in_ok-serials.ensures c.sort.ensures.permutation

pub returns-clause-sorted : goal.returns-clause-sorted
returns-clause-sorted c = IsNonDecreasingBy-from_sort (λ n. n) c.sort.new.self.items c.in_ok-sort.ensures.sorted
