-- Three names in one text.
use Rattle.std.proofs.Common.{◌≡◌, ◌++◌, ◌∙◌, ℕ, List, ap, sym, subst, take, drop, length, arith}
use Rattle.std.proofs.Math.Seq.{drop-append_seam, take-append_seam}
use Rattle.std.proofs.lemmas.List.{length-append}
use Rattle.vnfm_base.specs.Text.{IsName}
use Rattle.occ_table.specs.Packed.{HoldsNames}

-- names, one after the other
joined : (a b c : List ℕ) → IsName a → IsName b → IsName c → HoldsNames (a ++ (b ++ c)) (length a) (length b)
joined a b c ha hb hc =
    let rest : drop (length a) (a ++ (b ++ c)) ≡ b ++ c = drop-append_seam a (b ++ c) in
    record {
      fits = omega (arith, length-append a (b ++ c), length-append b c);
      resource = subst IsName (sym (take-append_seam a (b ++ c))) ha;
      vim = subst IsName (sym (ap (λ (xs : List ℕ). take (length b) xs) rest ∙ take-append_seam b c)) hb;
      zone = subst IsName (sym (ap (λ (xs : List ℕ). drop (length b) xs) rest ∙ drop-append_seam b c)) hc;
    }

-- a text that is three names
pub holds_names : (names a b c : List ℕ) (r v : ℕ) → names ≡ a ++ (b ++ c) → r ≡ length a → v ≡ length b → IsName a → IsName b → IsName c
    → HoldsNames names r v
holds_names names a b c r v is er ev ha hb hc = rw (is, er, ev) (joined a b c ha hb hc)
