-- One number more tells the name.
use Rattle.std.proofs.Common.{[], ◌∷◌, ◌++◌, ◌∙◌, ap, List, ℕ}
use Rattle.occ_table.specs.Descriptors.{KeptDescriptors, named_by}
use Rattle.occ_table.proofs.vnfds.Vnfds.push.Goals as goal

pub invariant_of-self : goal.invariant_of-self
invariant_of-self c = rw c.push_reserved.ensures.items (c.put_among-number.ensures.each c.self.inside.numbers.items c.self.invariant)

pub returns : goal.returns
returns c =
    ap (λ (ns : List ℕ). named_by c.put_among-number.new.names.items ns) c.push_reserved.ensures.items
    ∙ c.put_among-number.ensures.named c.self.inside.numbers.items c.self.invariant
    ∙ ap (λ (k : KeptDescriptors). k.vnfds ++ c.args.vnfd ∷ []) c.self.view_is
