use Rattle.std.proofs.Common.{List, ℕ, subst}
use Rattle.request_pool.specs.Clients.{KnowsFront}
use Rattle.request_pool.specs.Fronts.{HasReadFront}
use Rattle.request_pool.proofs.FrontLaws.{read_now}
use Rattle.request_pool.proofs.client.Client.pass.Goals as goal

pub invariant_of-self : goal.invariant_of-self
invariant_of-self c =
    subst (λ (x : List ℕ). HasReadFront x c.look-self-inside.new.reader × KnowsFront x c.look-self-inside.result) c.bytes.ensures
    (read_now c.bytes.result.now c.look-self-inside.new.reader c.look-self-inside.ensures.kept, c.look-self-inside.ensures.front)
