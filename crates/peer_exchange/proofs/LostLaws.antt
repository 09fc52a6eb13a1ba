-- Calls in vain, by why there was no reply.
use Rattle.std.proofs.Common.{◌≡◌, ◌⊎◌, ℕ, zero, suc, Bool, true, false, Option, Some, None, refl, sym, ap, subst, ◌∙◌, inl, inr}
use Rattle.std.specs.Prelude.{MatchBool, ◌≢◌}
use Rattle.std.specs.IoError.{error_kind}
use Rattle.std.specs.declared.io.Error.{Error}
use Rattle.std.specs.declared.io.ErrorKind.{ErrorKind}
use Rattle.std.specs.declared.io.ErrorKind.TheVariants as kind
use Rattle.net_calls.specs.Connections.{Vain, faulted, silent}
use Rattle.peer_exchange.specs.Exchanges.{Counts, IsInterrupted, interrupted}
use Rattle.peer_exchange.specs.declared.exchanging.Lost.{Lost}
use Rattle.peer_exchange.specs.declared.exchanging.Lost.TheVariants as lost

-- some that were interrupted, behind others
interrupted_on : (times : ℕ) (a b c : Vain) → IsInterrupted a b → c ≡ interrupted times b → IsInterrupted a c
interrupted_on zero a b c x is = (x.0, is ∙ x.1)
interrupted_on (suc times) a b c x is =
    let before = interrupted_on times a b (interrupted times b) x refl in (suc before.0, is ∙ ap faulted before.1)

pub interrupted_from : (a b c : Vain) → IsInterrupted a b → IsInterrupted b c → IsInterrupted a c
interrupted_from a b c x y = interrupted_on y.0 a b c x y.1

-- behind calls that were interrupted the counts are those of all
pub counts_from : (why : Option Lost) (a b c : Vain) → IsInterrupted a b → Counts why b c → Counts why a c
counts_from None a b c x y = interrupted_from a b c x y
counts_from (Some lost.Unsent) a b c x y = (y.0, interrupted_from a b y.0 x y.1, y.2)
counts_from (Some lost.Unread) a b c x y = (y.0, interrupted_from a b y.0 x y.1, y.2)
counts_from (Some lost.Late) a b c x y = interrupted_from a b c x y
counts_from (Some lost.Ended) a b c x y = interrupted_from a b c x y
counts_from (Some lost.NoReply) a b c x y = interrupted_from a b c x y
counts_from (Some lost.TooLong) a b c x y = interrupted_from a b c x y
counts_from (Some lost.Memory) a b c x y = interrupted_from a b c x y

-- whether a call waited in vain
would_block : ErrorKind → Bool
would_block kind.WouldBlock = true
would_block _ = false

is_block : (k : ErrorKind) → would_block k ≡ true → k ≡ kind.WouldBlock
unfolding would_block
is_block kind.WouldBlock is = refl
is_block _ is = absurd (subst (λ b. MatchBool b ⊥ (Unit {0})) is tt)

-- a call that failed waited in vain, or failed in another way
pub failed_so : (fault : Error) (old new : Vain) → (error_kind fault ≡ kind.WouldBlock → new ≡ silent old)
    → (error_kind fault ≢ kind.WouldBlock → new ≡ faulted old) → (new ≡ silent old) ⊎ (new ≡ faulted old)
unfolding would_block
failed_so fault old new silence other = by_test (would_block (error_kind fault)) refl
  where
    by_test : (b : Bool) → would_block (error_kind fault) ≡ b → (new ≡ silent old) ⊎ (new ≡ faulted old)
    by_test true is = inl (silence (is_block (error_kind fault) is))
    by_test false is = inr (other (λ block. absurd (subst (λ b. MatchBool b (Unit {0}) ⊥) (sym (ap would_block block) ∙ is) tt)))
