-- The room of a name.
use Rattle.std.proofs.Common.{◌≡◌, ℕ, ◌-◌, List, ◌++◌, length, take, drop, replicate, ap, subst, sym, ◌∙◌}
use Rattle.std.proofs.Math.Seq.{take-append_seam}
use Rattle.std.proofs.lemmas.List.{drop-replicate}
use Rattle.vnfm_base.specs.Text.{IsName, HoldsName}

-- a text written over the front of a room of zeros makes a name
pub HoldsName-front : (text room : List ℕ) → IsName text → room ≡ text ++ drop (length text) (replicate 255 0)
    → HoldsName (length text) room
HoldsName-front text room name written =
    let front : take (length text) room ≡ text = ap (take (length text)) written
    ∙ take-append_seam text (drop (length text) (replicate 255 0)) in
    record {
      len_is = ap length front;
      zeros = ap (λ t. t ++ replicate (255 - length text) 0) front ∙ sym
          (written ∙ ap (λ t. text ++ t) (drop-replicate (length text) 255 0));
      name = let P : List ℕ → Type 0 = λ t. IsName t in subst P (sym front) name;
    }
