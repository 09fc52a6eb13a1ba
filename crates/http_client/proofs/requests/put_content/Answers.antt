-- Of a body that isn't empty its type and its length are told.
use Rattle.std.proofs.Common.{◌≡◌, ◌∙◌, ap, sym, ℕ, ◌==◌, List, [], ◌∷◌, ◌++◌, true, false, length, append_assoc, refl}
use Rattle.std.specs.Prelude.{Result, Ok, Err, OnOk, codes, decimal}
use Rattle.http_client.specs.Requests.{content_lines}
use Rattle.http_client.proofs.requests.put_content.Goals as goal

content_some : (body : List ℕ) → (length body == 0) ≡ false
    → content_lines body ≡ codes "Content-Type: application/json\r\n"
    ++ (codes "Content-Length: " ++ (decimal (length body) ++ codes "\r\n"))
content_some [] h = absurd (different (sym h)) where
  different : false ≡ true → ⊥
  different e = cc
content_some (byte ∷ rest) h = refl

further : {T E : Type 0} (r : Result T E) (a b e x y z : List ℕ) → b ≡ a ++ x → z ≡ x ++ y → OnOk r (e ≡ b ++ y) → OnOk r (e ≡ a ++ z)
further (Ok v) a b e x y z h s k = k ∙ ap (λ t. t ++ y) h ∙ append_assoc a x y ∙ ap (λ t. a ++ t) (sym s)
further (Err v) a b e x y z h s k = tt

pub returns : goal.returns
returns c =
    further c.put_length.result c.args.bytes.now.items c.extend_from_slice.new.self.items c.put_length.new.bytes.items
    (codes "Content-Type: application/json\r\n") (codes "Content-Length: " ++ (decimal (length c.args.body.now) ++ codes "\r\n"))
    (content_lines c.args.body.now) c.in_ok-extend_from_slice.ensures.items
    (content_some c.args.body.now (sym c.is_empty.ensures ∙ c.if-is_empty.false)) c.put_length.ensures
