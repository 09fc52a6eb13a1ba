-- The greatest number with net 1 is the last of those with net 1.
use Rattle.std.proofs.Common.{◌≡◌, ◌<◌, ℕ, List, Option, None, Some, sym}
use Rattle.std.proofs.Common.{length, slice_get}
use Rattle.std.specs.Prelude.{IfSome}
use Rattle.lcm_events.specs.declared.changes.Change.{Change}
use Rattle.lcm_events.specs.declared.events.Event.{Event}
use Rattle.lcm_model.specs.Attempts.{net}
use Rattle.lcm_model.specs.Next.{is_at_net, with_net}
use Rattle.lcm_model.specs.Operations.{changes}
use Rattle.lcm_model.specs.Words.{last}
use Rattle.change_planner.proofs.NetLaws.{at-net, has-net, has-no-net, last-is, not-at-net}

-- where these are the changes of an occurrence and their nets, the answer is that of the history
pub last-in_history : (xs : List Change) (ns : List ℕ) (r : Option ℕ)
    → IfSome r (λ k. k < length xs) → IfSome r (λ k. slice_get ns k ≡ Some 1)
    → IfSome r (λ k. (j : ℕ) → k < j → j < length xs → ¬ (slice_get ns j ≡ Some 1))
    → (r ≡ None → (k : ℕ) → k < length xs → ¬ (slice_get ns k ≡ Some 1))
    → (H : List Event) (o : ℕ) → xs ≡ changes H o → ((k : ℕ) → k < length xs → slice_get ns k ≡ Some (net H o k))
    → r ≡ last (with_net H o 1)
last-in_history xs ns None known found greatest none H o same nets =
    rw (sym same) (last-is (is_at_net H o 1) (length xs) None known tt tt
    (λ e k l. not-at-net H o 1 k (has-no-net ns k (net H o k) 1 (nets k l) (none e k l))))
last-in_history xs ns (Some k) known found greatest none H o same nets =
    rw (sym same) (last-is (is_at_net H o 1) (length xs) (Some k) known (at-net H o 1 k (has-net ns k (net H o k) 1 (nets k known) found))
    (λ j h l. not-at-net H o 1 j (has-no-net ns j (net H o j) 1 (nets j l) (greatest j h l))) (λ e k l. absurd cc))
