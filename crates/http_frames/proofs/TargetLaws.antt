-- What bytes are that stop in a request target.
use Rattle.std.proofs.Common.{◌≡◌, ℕ, Bool, true, List, [], ◌∷◌, ◌++◌, length, take, refl, sym, ap, ◌∙◌, subst, inl, inr, ◌⊎◌, arith}
use Rattle.std.proofs.Common.{append_assoc, append-nil, length-append}
use Rattle.std.proofs.lemmas.List.Elements.{All-head, All-tail}
use Rattle.httparse.specs.Grammar.{AllPass, is_uri_byte, print_blank, HasNoRequest, EndsInTarget}
use Rattle.httparse.specs.Pieces.{Stops}
use Rattle.httparse.proofs.GrammarLemmas.{request_pieces}
use Rattle.httparse.proofs.PieceLemmas.{Blank_deterministic, Method_deterministic, Stops_token}
use Rattle.http_frames.specs.declared.TheConstants.{HEAD_BYTES}
use Rattle.http_frames.specs.Messages.{StopsInTarget, IsLongTarget, long_head}
use Rattle.http_frames.specs.Beginnings.{Beginning, BeginsWith}
use Rattle.http_frames.specs.Beginnings as begins
use Rattle.http_frames.proofs.MessageLaws.{front_big_without_head}
use Rattle.http_frames.proofs.BeginningLaws.{message_front_not_big}

-- a text of bytes that pass has no stop in it
unstopped : (test : ℕ → Bool) (w r : List ℕ) → AllPass test (w ++ r) → Stops test r → ⊥
unstopped test [] [] all s = s
unstopped test [] (x ∷ r) all s = let passes = All-head (λ v. test v ≡ true) x r all in cc
unstopped test (y ∷ w) r all s = unstopped test w r (All-tail (λ v. test v ≡ true) y (w ++ r) all) s

-- no head stands there
pub no_request_in_target : (bytes : List ℕ) → EndsInTarget bytes → HasNoRequest bytes
no_request_in_target bytes (blank, method, target, token, each, is) h rest reads =
    let p = request_pieces bytes h rest reads in
    let parted : bytes ≡ print_blank blank ++ (method ++ 32 ∷ target) = is ∙ append_assoc (print_blank blank) method (32 ∷ target) in
    let b = Blank_deterministic.unique h.blank blank bytes p.1.0 (method ++ 32 ∷ target) p.1.1
    (parted, Stops_token method (32 ∷ target) token.0 token.1) in
    let m = Method_deterministic.unique h.method method p.1.0 p.1.2.0 target p.1.2.1 (token.0, token.1, b.1) in
    unstopped is_uri_byte h.target (32 ∷ p.1.2.2.0) (subst (AllPass is_uri_byte) (sym m.1 ∙ p.1.2.2.1.0.2) each) refl

some_bytes : (blank method target : List ℕ) → [] ≡ (blank ++ method) ++ 32 ∷ target → ⊥
some_bytes blank method target e = absurd (omega (arith, ap length e, length-append (blank ++ method) (32 ∷ target)))

-- no more than a head may have: they are cut, or bad
pub stops_two_ways : (bytes : List ℕ) (b : Beginning) → StopsInTarget bytes → BeginsWith bytes b → (b ≡ begins.cut) ⊎ (b ≡ begins.bad)
stops_two_ways bytes begins.whole t x = absurd (no_request_in_target bytes t.1 x.0.head x.2.tail x.2.reads)
stops_two_ways bytes begins.none t x = absurd (some_bytes (print_blank t.1.0) t.1.1 t.1.2 (sym x ∙ t.1.5))
stops_two_ways bytes begins.cut t x = inl refl
stops_two_ways bytes begins.bad t x = inr refl
stops_two_ways bytes begins.big t x =
    let over = front_big_without_head bytes x.front x.more (no_request_in_target bytes t.1) x.is x.big in
    absurd (omega (arith, t.0, ap length x.is, length-append x.front x.more))

-- more than a head may have: they are big, or bad
pub goes_on_two_ways : (bytes : List ℕ) (b : Beginning) → IsLongTarget bytes → BeginsWith bytes b → (b ≡ begins.big) ⊎ (b ≡ begins.bad)
goes_on_two_ways bytes begins.whole t x =
    absurd (message_front_not_big bytes x.0 x.1 bytes [] x.2 (sym (append-nil bytes))
    (long_head t.0 (no_request_in_target (take HEAD_BYTES bytes) t.1)))
goes_on_two_ways bytes begins.none t x = absurd (omega (arith, t.0, ap length x))
goes_on_two_ways bytes begins.cut t x = absurd (x.not_big bytes [] (sym (append-nil bytes))
    (long_head t.0 (no_request_in_target (take HEAD_BYTES bytes) t.1)))
goes_on_two_ways bytes begins.bad t x = inr refl
goes_on_two_ways bytes begins.big t x = inl refl
