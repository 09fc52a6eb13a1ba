-- Which line goes out to an infrastructure, and on which connection (own rule, docs/VIM.md).
use Rattle.std.specs.Prelude.{◌≡◌, ◌⊎◌, ℕ, Bool, true, false, List, Option, Some, None, IsSomeAnd}
use Rattle.net_calls.specs.Network.{offers_after}
use Rattle.site_traits.specs.declared.jobs.BeginAnswer.{BeginAnswer}
use Rattle.site_traits.specs.declared.jobs.BeginAnswer.TheVariants as begin
use Rattle.site_traits.specs.declared.jobs.LookAnswer.{LookAnswer}
use Rattle.site_traits.specs.declared.jobs.LookAnswer.TheVariants as look
use Rattle.site_traits.specs.declared.jobs.AbortAnswer.{AbortAnswer}
use Rattle.site_traits.specs.declared.jobs.AbortAnswer.TheVariants as abort
use Rattle.net_calls.specs.Connections.{Vain}
use Rattle.peer_exchange.specs.Exchanges.{Counts, SendsFront}
use Rattle.peer_exchange.specs.declared.exchanging.Lost.{Lost}
use Rattle.vim_peers.specs.declared.opened.Opened.{Opened}

-- whether it is an answer, and no failed call
abbrev pub has_begun : BeginAnswer → Bool
has_begun begin.Failed = false
has_begun _ = true

abbrev pub has_looked : LookAnswer → Bool
has_looked look.Failed = false
has_looked _ = true

abbrev pub has_aborted : AbortAnswer → Bool
has_aborted abort.Failed = false
has_aborted _ = true

-- this is what was shown of the connection that was open, or of the one that the network offers next
abbrev pub HadShown : {C A : Type 0} → (C → A) → Option (Opened C) → Option C → A → Type 0
HadShown shows old offered shown =
    IsSomeAnd old (λ o. shows o.connection ≡ shown) ⊎ IsSomeAnd offered (λ c. shows c ≡ shown)

-- The line goes out, once and whole, where there is an answer, on the connection that was open or on the one that the
-- network offers next; else a front of it does, or nothing.
abbrev pub GoesOut : {C : Type 0} → (C → List ℕ) → List ℕ → Bool → Option (Opened C) → Option C → Option (Opened C)
    → Type 0
GoesOut outgoing line whole old offered None = whole ≡ false
GoesOut outgoing line whole old offered (Some now) =
    (before : List ℕ) × HadShown outgoing old offered before × SendsFront whole line before (outgoing now.connection)

-- As many calls were in vain as is said by why there was no reply, none where there was one, behind those on the
-- connection that was open or on the one that the network offers next.
abbrev pub CountsOn : {C : Type 0} → (C → Vain) → Option Lost → Option (Opened C) → Option C → Opened C → Type 0
CountsOn vain why old offered now =
    (before : Vain) × HadShown vain old offered before × Counts why before (vain now.connection)

-- one connection at most is asked of the network, by what it offers at an address
abbrev pub ConnectsAtMostOnce : {C : Type 0} → List (Option C) → List (Option C) → Type 0
ConnectsAtMostOnce old new = (new ≡ old) ⊎ (new ≡ offers_after old)
