-- What goes out of a line.
use Rattle.std.proofs.Common.{◌≡◌, ℕ, Bool, true, false, List, ◌++◌, length, Option, Some, None, Result, Ok, Err}
use Rattle.std.proofs.Common.{refl, sym, ap, subst, ◌∙◌, arith, inl}
use Rattle.std.proofs.lemmas.List.{append-nil, take_all}
use Rattle.std.specs.Prelude.{is_ok}
use Rattle.std.specs.Result.{result_err}
use Rattle.peer_exchange.specs.Exchanges.{IsSent, SendsFront}
use Rattle.peer_exchange.specs.declared.exchanging.Lost.{Lost}
use Rattle.peer_exchange.specs.declared.exchanging.Lost.TheVariants as lost
use Rattle.vim_peers.specs.Sent.{GoesOut}
use Rattle.vim_peers.specs.declared.opened.Opened.{Opened}

-- all of a line is a front of it
pub front_of_whole : (whole : Bool) (line old new : List ℕ) → SendsFront true line old new → SendsFront whole line old new
front_of_whole true line old new sent = sent
front_of_whole false line old new sent = (length line, sent ∙ sym (ap (λ x. old ++ x) (take_all (length line) line (omega arith))))

-- as much of a line as went out by then is a front of it, and all of it where a reply came
pub sent_front : {T : Type 0} (result : Result T Lost) (line old new : List ℕ) → IsSent (result_err result) line old new
    → SendsFront (is_ok result) line old new
sent_front (Ok reply) line old new sent = sent
sent_front (Err lost.Unsent) line old new sent = (sent.0, sent.2)
sent_front (Err lost.Late) line old new sent = sent
sent_front (Err lost.Unread) line old new sent = front_of_whole false line old new sent
sent_front (Err lost.Ended) line old new sent = front_of_whole false line old new sent
sent_front (Err lost.NoReply) line old new sent = front_of_whole false line old new sent
sent_front (Err lost.TooLong) line old new sent = front_of_whole false line old new sent
sent_front (Err lost.Memory) line old new sent = front_of_whole false line old new sent

-- where all of it went out, a front of it did, whatever the reply says
goes_out_whole : {C : Type 0} (outgoing : C → List ℕ) (line : List ℕ) (whole : Bool) (old : Option (Opened C)) (offered : Option C)
    (new : Option (Opened C)) → GoesOut outgoing line true old offered new → GoesOut outgoing line whole old offered new
goes_out_whole outgoing line whole old offered None goes = absurd (never goes)
  where
    never : true ≡ false → ⊥
    never is = grind arith
goes_out_whole outgoing line whole old offered (Some now) goes =
    (goes.0, goes.1, front_of_whole whole line goes.0 (outgoing now.connection) goes.2)

-- the same of a link that forgot what came before
pub line_goes_out : {C : Type 0} (outgoing : C → List ℕ) (line sent : List ℕ) (whole : Bool) (old kept : Option (Opened C))
    (offered offer : Option C)
    (new : Option (Opened C)) → sent ≡ line → kept ≡ old → offer ≡ offered → GoesOut outgoing sent true kept offer new
    → GoesOut outgoing line whole old offered new
line_goes_out outgoing line sent whole old kept offered offer new is_line is_old is_offered goes =
    goes_out_whole outgoing line whole old offered new
    (subst (λ l. GoesOut outgoing l true old offered new) is_line
    (subst (λ o. GoesOut outgoing sent true o offered new) is_old
    (subst (λ p. GoesOut outgoing sent true kept p new) is_offered goes)))

-- nothing went out, where the connection is as it was
kept_goes_out : {C : Type 0} (outgoing : C → List ℕ) (line : List ℕ) (opened : Option (Opened C)) (offered : Option C)
    → GoesOut outgoing line false opened offered opened
kept_goes_out outgoing line None offered = refl
kept_goes_out outgoing line (Some now) offered = (outgoing now.connection, inl refl, (0, sym (append-nil (outgoing now.connection))))

pub nothing_goes_out : {C : Type 0} (outgoing : C → List ℕ) (line : List ℕ) (old : Option (Opened C)) (offered : Option C)
    (new : Option (Opened C))
    → new ≡ old → GoesOut outgoing line false old offered new
nothing_goes_out outgoing line old offered new same = subst (λ n. GoesOut outgoing line false old offered n) (sym same)
    (kept_goes_out outgoing line old offered)
