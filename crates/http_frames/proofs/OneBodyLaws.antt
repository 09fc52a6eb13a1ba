-- Bytes are a whole chunked body with one content, or a part of one, or broken, or too much, and no two of these.
use Rattle.std.proofs.Common.{◌≡◌, ℕ, ◌+◌, ◌<◌, ◌≤◌, List, [], ◌∷◌, ◌++◌, length, refl, sym, ap, ◌∙◌, subst, inl, inr, arith, append-nil}
use Rattle.std.proofs.Common.{length-append}
use Rattle.std.proofs.lemmas.Bool.{cases_lt}
use Rattle.httparse.specs.Grammar.{ChunkLine, chunk_size, ReadsChunkLine}
use Rattle.httparse.specs.Ascii.{crlf_bytes}
use Rattle.httparse.proofs.ChunkLemmas.{chunk_line_unique}
use Rattle.http_frames.specs.declared.TheConstants.{BODY_BYTES}
use Rattle.http_frames.specs.Chunks.{Chunk, print_chunk, IsChunk, Chunks, content_of, IsEmptyLine, Lines, ReadsTrailer, ReadsChunks}
use Rattle.http_frames.specs.Answers.{ChunksBad, ChunksMuch}
use Rattle.http_frames.specs.Beginnings.{InChunks, AreInChunks, ChunksAreOneWay}
use Rattle.http_frames.specs.Beginnings as begins
use Rattle.http_frames.proofs.ListLaws.{front_of_front}
use Rattle.http_frames.proofs.ChunkLaws.{chunk_line_of, chunk_in}
use Rattle.http_frames.proofs.TrailerLaws.{line_unique, empty_has_none, trailer_through}
use Rattle.http_frames.proofs.BeginningLaws.{whole_not_bad, whole_not_much}

-- ---- one content and one rest

-- the first line of a trailer that begins with an empty one ends it
ends_there : (left rest q last : List ℕ) (lines : List (List ℕ)) (there end : List ℕ) → IsEmptyLine last → left ≡ last ++ 10 ∷ rest
    → Lines left lines there → IsEmptyLine end → there ≡ end ++ 10 ∷ q → rest ≡ q
ends_there left rest q last [] there end empty e passed ends f =
    let same = line_unique last end rest q (empty_has_none last empty) (empty_has_none end ends) (sym e ∙ passed ∙ f) in same.1
ends_there left rest q last (line ∷ lines) there end empty e passed ends f =
    let same = line_unique last line rest passed.2.0 (empty_has_none last empty) passed.0 (sym e ∙ passed.2.1) in
    absurd (passed.1 (subst IsEmptyLine same.0 empty))

-- a trailer ends in one place
one_trailer : (bytes rest q : List ℕ) → ReadsTrailer bytes rest → ReadsTrailer bytes q → rest ≡ q
one_trailer bytes rest q t u =
    let behind = trailer_through bytes q t.lines t.left t.passed u in
    ends_there t.left rest q t.last behind.lines behind.left behind.last t.is_empty t.ends behind.passed behind.is_empty behind.ends

-- where a size line of 0 stands no chunk does
no_chunk_at_zero : (bytes left : List ℕ) (c : Chunk) (mid : List ℕ) (line : ChunkLine) (trailer : List ℕ) → bytes ≡ left
    → ReadsChunkLine left line trailer
    → chunk_size line ≡ 0 → IsChunk c → bytes ≡ print_chunk c ++ mid → ⊥
no_chunk_at_zero bytes left c mid line trailer passed last zero is e =
    let at = subst (λ (x : List ℕ). ReadsChunkLine x c.line (c.content ++ (crlf_bytes ++ mid))) (sym e ∙ passed) (chunk_line_of c mid is) in
    let same = chunk_line_unique left c.line line _ trailer at last in
    let size : chunk_size c.line ≡ chunk_size line = ap chunk_size same.0 in
    let some : 0 < chunk_size c.line = is.some in
    absurd (omega arith)

one_content : (bytes : List ℕ) (cs ds : List Chunk) (left there : List ℕ) (line other : ChunkLine) (trailer behind rest q : List ℕ)
    → Chunks bytes cs left
    → Chunks bytes ds there → ReadsChunkLine left line trailer → ReadsChunkLine there other behind → chunk_size line ≡ 0
    → chunk_size other ≡ 0
    → ReadsTrailer trailer rest → ReadsTrailer behind q → (content_of cs ≡ content_of ds) × (rest ≡ q)
one_content bytes [] [] left there line other trailer behind rest q a b x y zero none t u =
    let same = chunk_line_unique there line other trailer behind (subst (λ (v : List ℕ). ReadsChunkLine v line trailer) (sym a ∙ b) x) y in
    (refl, one_trailer behind rest q (subst (λ (v : List ℕ). ReadsTrailer v rest) same.1 t) u)
one_content bytes [] (d ∷ ds) left there line other trailer behind rest q a b x y zero none t u =
    absurd (no_chunk_at_zero bytes left d b.1.0 line trailer a x zero b.0 b.1.1)
one_content bytes (c ∷ cs) [] left there line other trailer behind rest q a b x y zero none t u =
    absurd (no_chunk_at_zero bytes there c a.1.0 other behind b y none a.0 a.1.1)
one_content bytes (c ∷ cs) (d ∷ ds) left there line other trailer behind rest q a b x y zero none t u =
    let same = chunk_in c d a.1.0 bytes [] b.1.0 a.0 b.0 (sym a.1.1 ∙ sym (append-nil bytes)) b.1.1 in
    let mid : b.1.0 ≡ a.1.0 = sym (append-nil b.1.0) ∙ sym same.1 in
    let deeper = one_content a.1.0 cs ds left there line other trailer behind rest q a.1.2
    (subst (λ (v : List ℕ). Chunks v ds there) mid b.1.2) x y zero none t u in
    (ap (λ v. c.content ++ v) deeper.0 ∙ ap (λ v. v.content ++ content_of ds) (sym same.0), deeper.1)

one_whole : (bytes body rest content q : List ℕ) → ReadsChunks bytes body rest → ReadsChunks bytes content q → (body ≡ content) × (rest ≡ q)
one_whole bytes body rest content q x y =
    let same = one_content bytes x.chunks y.chunks x.left y.left x.line y.line x.trailer y.trailer rest q x.passed y.passed x.last y.last
    x.zero y.zero x.ends y.ends in
    (x.content ∙ same.0 ∙ sym y.content, same.1)

-- ---- no two of these

fits_in : (bytes body rest : List ℕ) (w : ReadsChunks bytes body rest) → length body ≤ BODY_BYTES
    → 0 + length (content_of w.chunks) ≤ BODY_BYTES
fits_in bytes body rest w fits = let same : length body ≡ length (content_of w.chunks) = ap length w.content in omega arith

whole_or_broken : (bytes body rest : List ℕ) → ReadsChunks bytes body rest → ChunksBad 0 bytes → ⊥
whole_or_broken bytes body rest w b = whole_not_bad w.chunks bytes w.left w.line w.trailer b.front b.more w.passed w.last w.zero b.is b.bad

whole_or_much : (bytes body rest : List ℕ) → ReadsChunks bytes body rest → length body ≤ BODY_BYTES → ChunksMuch 0 bytes → ⊥
whole_or_much bytes body rest w fits m =
    whole_not_much 0 w.chunks bytes w.left w.line w.trailer m.front m.more w.passed w.last w.zero
    (fits_in bytes body rest w fits) m.is m.much

broken_or_much : (bytes : List ℕ) → ChunksBad 0 bytes → ChunksMuch 0 bytes → ⊥
broken_or_much bytes x y = elim (cases_lt (length x.front) (length y.front)) [
  | inl shorter ↦ let within = front_of_front x.front y.front x.more y.more (omega arith) (sym x.is ∙ y.is) in
      y.first x.front within.0 within.1 (λ e. let same : length y.front ≡ length (x.front ++ []) =
      ap length within.1 ∙ ap (λ t. length (x.front ++ t)) e in
      absurd (omega (arith, length-append x.front []))) x.bad
  | inr longer ↦ let within = front_of_front y.front x.front y.more x.more longer (sym y.is ∙ x.is) in
      x.first y.front within.0 within.1 y.much
]

pub one_body : ChunksAreOneWay
one_body bytes (begins.whole body rest) (begins.whole content q) x y =
    let same = one_whole bytes body rest content q x.0 y.0 in
    ap (λ v. begins.whole v rest) same.0 ∙ ap (λ v. begins.whole content v) same.1
one_body bytes (begins.whole body rest) begins.part x y = absurd (y.not_whole body rest x.0)
one_body bytes (begins.whole body rest) begins.broken x y = absurd (whole_or_broken bytes body rest x.0 y)
one_body bytes (begins.whole body rest) begins.much x y = absurd (whole_or_much bytes body rest x.0 x.1 y)
one_body bytes begins.part (begins.whole body rest) x y = absurd (x.not_whole body rest y.0)
one_body bytes begins.part begins.part x y = refl
one_body bytes begins.part begins.broken x y = absurd (x.not_bad y.front y.more y.is y.bad)
one_body bytes begins.part begins.much x y = absurd (x.not_much y.front y.more y.is y.much)
one_body bytes begins.broken (begins.whole body rest) x y = absurd (whole_or_broken bytes body rest y.0 x)
one_body bytes begins.broken begins.part x y = absurd (y.not_bad x.front x.more x.is x.bad)
one_body bytes begins.broken begins.broken x y = refl
one_body bytes begins.broken begins.much x y = absurd (broken_or_much bytes x y)
one_body bytes begins.much (begins.whole body rest) x y = absurd (whole_or_much bytes body rest y.0 y.1 x)
one_body bytes begins.much begins.part x y = absurd (y.not_much x.front x.more x.is x.much)
one_body bytes begins.much begins.broken x y = absurd (broken_or_much bytes y x)
one_body bytes begins.much begins.much x y = refl
