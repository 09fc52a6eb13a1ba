-- Laws on the lines of a trailer.
use Rattle.std.proofs.Common.{◌≡◌, ℕ, List, [], ◌∷◌, ◌++◌, refl, sym, ◌∙◌, subst, inl, inr, arith}
use Rattle.http_frames.specs.Chunks.{HasNoLineFeed, IsEmptyLine, Lines, ReadsTrailer}

-- an empty line has no line feed
pub empty_has_none : (line : List ℕ) → IsEmptyLine line → HasNoLineFeed line
empty_has_none line (inl e) = subst HasNoLineFeed (sym e) tt
empty_has_none line (inr e) = subst HasNoLineFeed (sym e) ((λ x. absurd (omega arith)), tt)

-- the first line of the bytes is one
pub line_unique : (a b r q : List ℕ) → HasNoLineFeed a → HasNoLineFeed b → a ++ 10 ∷ r ≡ b ++ 10 ∷ q → (a ≡ b) × (r ≡ q)
line_unique [] [] r q x y e = (refl, cc)
line_unique [] (c ∷ b) r q x y e = absurd (y.0 (cc))
line_unique (c ∷ a) [] r q x y e = absurd (x.0 (cc))
line_unique (c ∷ a) (d ∷ b) r q x y e =
    let deeper = line_unique a b r q x.1 y.1 (cc) in
    (cc (deeper.0), deeper.1)

-- bytes with no line feed hold no line
no_line_in : (a r t : List ℕ) → HasNoLineFeed t → t ≡ a ++ 10 ∷ r → ⊥
no_line_in [] r [] none e = cc
no_line_in [] r (x ∷ t) none e = none.0 (cc)
no_line_in (c ∷ a) r [] none e = cc
no_line_in (c ∷ a) r (x ∷ t) none e = no_line_in a r t none.1 (cc)

no_trailer_at : (t rest : List ℕ) (lines : List (List ℕ)) (left last : List ℕ) → HasNoLineFeed t → Lines t lines left
    → left ≡ last ++ 10 ∷ rest → ⊥
no_trailer_at t rest [] left last none passed ends = no_line_in last rest t none (passed ∙ ends)
no_trailer_at t rest (line ∷ lines) left last none passed ends = no_line_in line passed.2.0 t none passed.2.1

-- no trailer ends where there is no line feed
pub no_trailer : (t rest : List ℕ) → HasNoLineFeed t → ReadsTrailer t rest → ⊥
no_trailer t rest none ends = no_trailer_at t rest ends.lines ends.left ends.last none ends.passed ends.ends

-- a trailer that begins with a line that isn't empty goes on behind it
trailer_passes : (line mid t rest : List ℕ) (lines : List (List ℕ)) (left last : List ℕ) → HasNoLineFeed line → (IsEmptyLine line → ⊥)
    → t ≡ line ++ 10 ∷ mid → Lines t lines left → IsEmptyLine last → left ≡ last ++ 10 ∷ rest → ReadsTrailer mid rest
trailer_passes line mid t rest [] left last none full e passed empty ends =
    let same = line_unique line last mid rest none (empty_has_none last empty) (sym e ∙ passed ∙ ends) in
    absurd (full (subst IsEmptyLine (sym same.0) empty))
trailer_passes line mid t rest (k ∷ lines) left last none full e passed empty ends =
    let same = line_unique line k mid passed.2.0 none passed.0 (sym e ∙ passed.2.1) in
    record {
      lines = lines;
      left = left;
      passed = subst (λ (b : List ℕ). Lines b lines left) (sym same.1) passed.2.2;
      last = last;
      is_empty = empty;
      ends = ends;
    }

-- a trailer goes on behind the lines that were passed
pub trailer_through : (t rest : List ℕ) (lines : List (List ℕ)) (left : List ℕ) → Lines t lines left → ReadsTrailer t rest
    → ReadsTrailer left rest
trailer_through t rest [] left passed ends = subst (λ (b : List ℕ). ReadsTrailer b rest) passed ends
trailer_through t rest (line ∷ lines) left passed ends =
    trailer_through passed.2.0 rest lines left passed.2.2
    (trailer_passes line passed.2.0 t rest ends.lines ends.left ends.last passed.0 passed.1 passed.2.1 ends.passed ends.is_empty ends.ends)

-- one line more at the end
pub lines_push : (t : List ℕ) (lines : List (List ℕ)) (left line mid : List ℕ) → Lines t lines left → HasNoLineFeed line
    → (IsEmptyLine line → ⊥)
    → left ≡ line ++ 10 ∷ mid → Lines t (lines ++ line ∷ []) mid
lines_push t [] left line mid passed none full e = (none, full, (mid, passed ∙ e, refl))
lines_push t (k ∷ lines) left line mid passed none full e =
    (passed.0, passed.1, (passed.2.0, passed.2.1, lines_push passed.2.0 lines left line mid passed.2.2 none full e))
