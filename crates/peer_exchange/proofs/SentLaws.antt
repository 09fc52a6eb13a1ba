-- How much of a request went out.
use Rattle.std.proofs.Common.{◌≡◌, ℕ, Some, List, ◌++◌, length, refl, sym, ap, ◌∙◌, arith}
use Rattle.std.specs.Prelude.{◌≢◌}
use Rattle.std.proofs.lemmas.List.{take_all}
use Rattle.peer_exchange.specs.Exchanges.{IsSent}
use Rattle.peer_exchange.specs.declared.exchanging.Lost.{Lost}
use Rattle.peer_exchange.specs.declared.exchanging.Lost.TheVariants as lost

-- all of it, but where it couldn't be sent whole
pub whole_sent : (why : Lost) (request old new : List ℕ) → why ≢ lost.Unsent → new ≡ old ++ request
    → IsSent (Some why) request old new
whole_sent lost.Unsent request old new sent went = absurd (sent refl)
whole_sent lost.Late request old new sent went =
    (length request, went ∙ sym (ap (λ x. old ++ x) (take_all (length request) request (omega arith))))
whole_sent lost.Unread request old new sent went = went
whole_sent lost.Ended request old new sent went = went
whole_sent lost.NoReply request old new sent went = went
whole_sent lost.TooLong request old new sent went = went
whole_sent lost.Memory request old new sent went = went
