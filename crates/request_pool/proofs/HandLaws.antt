-- Laws on what is written to a client.
use Rattle.std.proofs.Common.{◌≡◌, ◌≤◌, ◌∙◌, ℕ, List, ◌++◌, length, take, drop, ap, refl, sym, append_assoc, Bool, true, inl, inr}
use Rattle.request_pool.specs.Clients.{ClientState}
use Rattle.request_pool.specs.Hands.{IsTold, close_line}

-- three pieces that were put one behind the other
pub put_thrice : (client a b c : ClientState) (t l d : List ℕ) → a ≡ record client { out = client.out ++ t }
    → b ≡ record a { out = a.out ++ l } → c ≡ record b { out = b.out ++ d } → c ≡ record client { out = client.out ++ (t ++ l ++ d) }
put_thrice client a b c t l d ea eb ec =
    ec ∙ ap (λ (x : ClientState). record x { out = x.out ++ d }) (eb ∙ ap (λ (x : ClientState). record x { out = x.out ++ l }) ea)
    ∙ ap (λ (o : List ℕ). record client { out = o }) (ap (λ x. x ++ d) (append_assoc client.out t l) ∙ append_assoc client.out (t ++ l) d)
