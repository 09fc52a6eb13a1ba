use Rattle.std.proofs.Common.{inl, refl, sym, List, ℕ, subst}
use Rattle.http_wire.specs.Intake.{NeedsMore}
use Rattle.request_pool.proofs.client.Client.new.Goals as goal

pub invariant_of-result : goal.invariant_of-result
invariant_of-result c = (c.new-2.ensures c.new.result, inl c.new.ensures)
