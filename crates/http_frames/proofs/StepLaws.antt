-- What the bytes are, by what stands at their front: no size line, a size line alone, a chunk, a last size line.
use Rattle.std.proofs.Common.{◌≡◌, ℕ, ◌+◌, ◌<◌, ◌≤◌, List, [], ◌∷◌, ◌++◌, length, take, drop, refl, sym, ap, ◌∙◌, subst, arith}
use Rattle.std.proofs.Common.{append_assoc, append-nil, length-append, length-drop}
use Rattle.std.proofs.lemmas.List.{drop_at, take-append-drop, drop-drop, length-take-le, drop_all}
use Rattle.std.proofs.lemmas.Bool.{cases_lt}
use Rattle.std.proofs.Common.{inl, inr}
use Rattle.httparse.specs.Ascii.{crlf_bytes}
use Rattle.httparse.specs.Grammar.{ChunkLine, print_chunk_line, chunk_size, ReadsChunkLine, HasNoChunkLine, NeverHasChunkLine}
use Rattle.httparse.specs.Grammar.{MayBecomeChunkLine}
use Rattle.httparse.proofs.ChunkLemmas.{chunk_line_unique, ReadsChunkLine-append}
use Rattle.http_frames.specs.declared.TheConstants.{BODY_BYTES}
use Rattle.http_frames.specs.Chunks.{Chunk, print_chunk, IsChunk, Chunks, content_of, BeginsCrLf, IsBadChunk, no_line, no_end, ReadsTrailer}
use Rattle.http_frames.specs.Answers.{ChunksCut, ChunksBad, ChunksMuch}
use Rattle.http_frames.proofs.ChunkLaws.{chunk_line_of, passes_cut, passes_bad, passes_much}

-- a size line at a front, moved to the whole
moved : (q r whole : List ℕ) (k : ChunkLine) (t : List ℕ) → whole ≡ q ++ r → ReadsChunkLine q k t → ReadsChunkLine whole k (t ++ r)
moved q r whole k t e x = subst (λ (b : List ℕ). ReadsChunkLine b k (t ++ r)) (sym e) (ReadsChunkLine-append q k t r x)

-- chunks that stand at a front begin with a size line, or are none
front_line : (q r whole : List ℕ) (c : Chunk) (m : List ℕ) → IsChunk c → q ≡ print_chunk c ++ m → whole ≡ q ++ r
    → ReadsChunkLine whole c.line ((c.content ++ (crlf_bytes ++ m)) ++ r)
front_line q r whole c m is f e = moved q r whole c.line _ e
    (subst (λ (b : List ℕ). ReadsChunkLine b c.line (c.content ++ (crlf_bytes ++ m))) (sym f) (chunk_line_of c m is))

-- ---- no size line

no_much_without_line : (taken : ℕ) (whole q r : List ℕ) (cs : List Chunk) (left : List ℕ) (line : ChunkLine) (more : List ℕ)
    → HasNoChunkLine whole → whole ≡ q ++ r → Chunks q cs left → ReadsChunkLine left line more → ⊥
no_much_without_line taken whole q r [] left line more none e passed reads =
    none line _ (moved q r whole line more e (subst (λ (b : List ℕ). ReadsChunkLine b line more) (sym passed) reads))
no_much_without_line taken whole q r (c ∷ cs) left line more none e passed reads =
    none c.line _ (front_line q r whole c passed.1.0 passed.0 passed.1.1 e)

no_bad_without_line : (whole q r : List ℕ) (cs : List Chunk) (left : List ℕ)
    → HasNoChunkLine whole → MayBecomeChunkLine whole → whole ≡ q ++ r → Chunks q cs left → IsBadChunk left → ⊥
no_bad_without_line whole q r [] left none may e passed (no_line never) =
    let longer : whole ++ may.0 ≡ left ++ (r ++ may.0) = ap (λ x. x ++ may.0) (e ∙ ap (λ x. x ++ r) passed) ∙ append_assoc left r may.0 in
    never (r ++ may.0) may.1 [] (subst (λ (b : List ℕ). ReadsChunkLine b may.1 []) longer may.2)
no_bad_without_line whole q r [] left none may e passed (no_end line content after reads some size wrong) =
    none line _ (moved q r whole line _ e (subst (λ (b : List ℕ). ReadsChunkLine b line (content ++ after)) (sym passed) reads))
no_bad_without_line whole q r (c ∷ cs) left none may e passed bad =
    none c.line _ (front_line q r whole c passed.1.0 passed.0 passed.1.1 e)

pub cut_before_line : (taken : ℕ) (whole : List ℕ) → HasNoChunkLine whole → MayBecomeChunkLine whole → ChunksCut taken whole
cut_before_line taken whole none may = record {
  not_whole = λ body rest w. no_much_without_line taken whole whole [] w.chunks w.left w.line w.trailer none
      (sym (append-nil whole)) w.passed w.last;
  not_bad = λ q r e bad. no_bad_without_line whole q r bad.chunks bad.left none may e bad.passed bad.bad;
  not_much = λ q r e much. no_much_without_line taken whole q r much.chunks much.left much.line much.more none e much.passed much.reads;
}

never_is_none : (whole : List ℕ) → NeverHasChunkLine whole → HasNoChunkLine whole
never_is_none whole never = subst HasNoChunkLine (append-nil whole) (never [])

pub bad_line : (taken : ℕ) (whole : List ℕ) → NeverHasChunkLine whole → ChunksBad taken whole
bad_line taken whole never = record {
  front = whole;
  more = [];
  is = sym (append-nil whole);
  bad = record { chunks = []; left = whole; passed = refl; bad = no_line never };
  first = λ q r e much. no_much_without_line taken whole q r much.chunks much.left much.line much.more
      (never_is_none whole never) e much.passed much.reads;
}

-- ---- a size line

-- a chunk at a front has the size line that the whole has
chunk_at : (c : Chunk) (m q r whole : List ℕ) (l : ChunkLine) (t : List ℕ) → IsChunk c → q ≡ print_chunk c ++ m → whole ≡ q ++ r
    → ReadsChunkLine whole l t → (c.line ≡ l) × ((c.content ++ (crlf_bytes ++ m)) ++ r ≡ t)
chunk_at c m q r whole l t is f e reads = chunk_line_unique whole c.line l _ t (front_line q r whole c m is f e) reads

-- a chunk of a front is no longer than what is behind the size line
chunk_fits : (c : Chunk) (m q r whole : List ℕ) (l : ChunkLine) (t : List ℕ) → IsChunk c → q ≡ print_chunk c ++ m → whole ≡ q ++ r
    → ReadsChunkLine whole l t → chunk_size l + 2 ≤ length t
chunk_fits c m q r whole l t is f e reads =
    let at = chunk_at c m q r whole l t is f e reads in
    let size : length c.content ≡ chunk_size l = is.sized ∙ ap chunk_size at.0 in
    let whole_length : length ((c.content ++ (crlf_bytes ++ m)) ++ r) ≡ length t = ap length at.1 in
    omega (arith, length-append (c.content ++ (crlf_bytes ++ m)) r, length-append c.content (crlf_bytes ++ m))

pub begins_front : (a r : List ℕ) → BeginsCrLf (a ++ r) → BeginsCrLf a
begins_front [] r h = tt
begins_front (x ∷ []) [] h = h
begins_front (x ∷ []) (y ∷ r) h = h.0
begins_front (x ∷ y ∷ a) r h = h

-- the whole has this size line, and so has each front that has one
no_bad_at_line : (whole q r : List ℕ) (l : ChunkLine) (t : List ℕ) (cs : List Chunk) (left : List ℕ)
    → ReadsChunkLine whole l t → length t < chunk_size l + 2 → BeginsCrLf (drop (chunk_size l) t)
    → whole ≡ q ++ r → Chunks q cs left → IsBadChunk left → ⊥
no_bad_at_line whole q r l t [] left reads short begins e passed (no_line never) =
    never r l t (subst (λ (b : List ℕ). ReadsChunkLine b l t) (e ∙ ap (λ x. x ++ r) passed) reads)
no_bad_at_line whole q r l t [] left reads short begins e passed (no_end line content after at some size wrong) =
    let e' : whole ≡ left ++ r = e ∙ ap (λ x. x ++ r) passed in
    let lines = chunk_line_unique whole line l _ t (moved left r whole line _ e' at) reads in
    let same : length content ≡ chunk_size l = size ∙ ap chunk_size lines.0 in
    let behind : content ++ (after ++ r) ≡ t = sym (append_assoc content after r) ∙ lines.1 in
    let dropped : drop (chunk_size l) t ≡ after ++ r = sym (ap (drop (chunk_size l)) behind)
    ∙ drop_at content (after ++ r) (chunk_size l) same in
    wrong (begins_front after r (subst BeginsCrLf dropped begins))
no_bad_at_line whole q r l t (c ∷ cs) left reads short begins e passed bad =
    let fits = chunk_fits c passed.1.0 q r whole l t passed.0 passed.1.1 e reads in absurd (omega arith)

no_much_at_line : (taken : ℕ) (whole q r : List ℕ) (l : ChunkLine) (t : List ℕ) (cs : List Chunk) (left : List ℕ) (line : ChunkLine)
    (more : List ℕ)
    → ReadsChunkLine whole l t → length t < chunk_size l + 2 → taken + chunk_size l ≤ BODY_BYTES
    → whole ≡ q ++ r → Chunks q cs left → ReadsChunkLine left line more → BODY_BYTES < taken + length (content_of cs) + chunk_size line → ⊥
no_much_at_line taken whole q r l t [] left line more reads short fits e passed at over =
    let e' : whole ≡ left ++ r = e ∙ ap (λ x. x ++ r) passed in
    let lines = chunk_line_unique whole line l _ t (moved left r whole line _ e' at) reads in
    let same : chunk_size line ≡ chunk_size l = ap chunk_size lines.0 in
    absurd (omega arith)
no_much_at_line taken whole q r l t (c ∷ cs) left line more reads short fits e passed at over =
    let fits = chunk_fits c passed.1.0 q r whole l t passed.0 passed.1.1 e reads in absurd (omega arith)

no_whole_at_line : (whole : List ℕ) (l : ChunkLine) (t : List ℕ) (cs : List Chunk) (left : List ℕ) (line : ChunkLine) (trailer : List ℕ)
    → ReadsChunkLine whole l t → length t < chunk_size l + 2 → 0 < chunk_size l
    → Chunks whole cs left → ReadsChunkLine left line trailer → chunk_size line ≡ 0 → ⊥
no_whole_at_line whole l t [] left line trailer reads short some passed last zero =
    let lines = chunk_line_unique whole line l trailer t (subst (λ (b : List ℕ). ReadsChunkLine b line trailer) (sym passed) last) reads in
    let same : chunk_size line ≡ chunk_size l = ap chunk_size lines.0 in
    absurd (omega arith)
no_whole_at_line whole l t (c ∷ cs) left line trailer reads short some passed last zero =
    let fits = chunk_fits c passed.1.0 whole [] whole l t passed.0 passed.1.1 (sym (append-nil whole)) reads in absurd (omega arith)

-- the content, or the CR LF behind it, breaks off
pub cut_in_content : (taken : ℕ) (whole : List ℕ) (l : ChunkLine) (t : List ℕ) → ReadsChunkLine whole l t
    → 0 < chunk_size l → taken + chunk_size l ≤ BODY_BYTES → length t < chunk_size l + 2 → BeginsCrLf (drop (chunk_size l) t)
    → ChunksCut taken whole
cut_in_content taken whole l t reads some fits short begins = record {
  not_whole = λ body rest w. no_whole_at_line whole l t w.chunks w.left w.line w.trailer reads short some w.passed w.last w.zero;
  not_bad = λ q r e bad. no_bad_at_line whole q r l t bad.chunks bad.left reads short begins e bad.passed bad.bad;
  not_much = λ q r e much. no_much_at_line taken whole q r l t much.chunks much.left much.line much.more reads short fits e much.passed
      much.reads much.over;
}

-- the content isn't followed by CR LF
no_much_at_wrong_end : (taken : ℕ) (whole q r : List ℕ) (l : ChunkLine) (t : List ℕ) (cs : List Chunk) (left : List ℕ) (line : ChunkLine)
    (more : List ℕ)
    → ReadsChunkLine whole l t → (BeginsCrLf (drop (chunk_size l) t) → ⊥) → taken + chunk_size l ≤ BODY_BYTES
    → whole ≡ q ++ r → Chunks q cs left → ReadsChunkLine left line more → BODY_BYTES < taken + length (content_of cs) + chunk_size line → ⊥
no_much_at_wrong_end taken whole q r l t [] left line more reads wrong fits e passed at over =
    let e' : whole ≡ left ++ r = e ∙ ap (λ x. x ++ r) passed in
    let lines = chunk_line_unique whole line l _ t (moved left r whole line _ e' at) reads in
    let same : chunk_size line ≡ chunk_size l = ap chunk_size lines.0 in
    absurd (omega arith)
no_much_at_wrong_end taken whole q r l t (c ∷ cs) left line more reads wrong fits e passed at over =
    let chunk = chunk_at c passed.1.0 q r whole l t passed.0 passed.1.1 e reads in
    let same : length c.content ≡ chunk_size l = passed.0.sized ∙ ap chunk_size chunk.0 in
    let behind : c.content ++ ((crlf_bytes ++ passed.1.0) ++ r) ≡ t = sym (append_assoc c.content (crlf_bytes ++ passed.1.0) r) ∙ chunk.1 in
    let dropped : drop (chunk_size l) t ≡ (crlf_bytes ++ passed.1.0) ++ r =
    sym (ap (drop (chunk_size l)) behind) ∙ drop_at c.content _ (chunk_size l) same in
    wrong (subst BeginsCrLf (sym dropped) (refl, refl))

pub bad_end : (taken : ℕ) (whole : List ℕ) (l : ChunkLine) (t : List ℕ) → ReadsChunkLine whole l t
    → 0 < chunk_size l → taken + chunk_size l ≤ BODY_BYTES → (BeginsCrLf (drop (chunk_size l) t) → ⊥) → ChunksBad taken whole
bad_end taken whole l t reads some fits wrong = elim (cases_lt (length t) (chunk_size l)) [
  | inl short ↦ absurd (wrong (subst BeginsCrLf (sym (drop_all (chunk_size l) t (omega arith))) tt))
  | inr there ↦ record {
    front = whole;
    more = [];
    is = sym (append-nil whole);
    bad = record {
      chunks = [];
      left = whole;
      passed = refl;
      bad = no_end l (take (chunk_size l) t) (drop (chunk_size l) t)
          (subst (λ (b : List ℕ). ReadsChunkLine whole l b) (sym (take-append-drop (chunk_size l) t)) reads)
          some (length-take-le (chunk_size l) t there) wrong;
    };
    first = λ q r e much. no_much_at_wrong_end taken whole q r l t much.chunks much.left much.line much.more reads wrong fits e much.passed
        much.reads much.over;
  }
]

-- a whole chunk stands at the front
after_content : (n : ℕ) (t : List ℕ) → n + 2 ≤ length t → BeginsCrLf (drop n t) → drop n t ≡ crlf_bytes ++ drop (n + 2) t
after_content n t there begins =
    let long : 2 ≤ length (drop n t) = omega (arith, length-drop n t) in
    two (drop n t) long begins ∙ ap (λ x. crlf_bytes ++ x) (drop-drop 2 n t)
  where
    two : (x : List ℕ) → 2 ≤ length x → BeginsCrLf x → x ≡ crlf_bytes ++ drop 2 x
    two [] long begins = absurd (omega arith)
    two (a ∷ []) long begins = absurd (omega arith)
    two (a ∷ b ∷ x) long begins = rw (begins.0, begins.1) refl

pub chunk_of : ChunkLine → List ℕ → Chunk
chunk_of l t = record { line = l; content = take (chunk_size l) t }

pub whole_chunk : (whole : List ℕ) (l : ChunkLine) (t : List ℕ) → ReadsChunkLine whole l t → 0 < chunk_size l
    → chunk_size l + 2 ≤ length t → BeginsCrLf (drop (chunk_size l) t)
    → (c : Chunk) × IsChunk c × (c.line ≡ l) × (c.content ≡ take (chunk_size l) t) × (whole ≡ print_chunk c ++ drop (chunk_size l + 2) t)
unfolding print_chunk
whole_chunk whole l t reads some there begins =
    let content : List ℕ = take (chunk_size l) t in
    let split : t ≡ content ++ (crlf_bytes ++ drop (chunk_size l + 2) t) =
    sym (take-append-drop (chunk_size l) t) ∙ ap (λ x. content ++ x) (after_content (chunk_size l) t there begins) in
    let c : Chunk = record { line = l; content = content } in (
      c,
      record { line = reads.0; some = some; sized = length-take-le (chunk_size l) t (omega arith) },
      refl,
      refl,
      reads.1 ∙ ap (λ x. print_chunk_line l ++ x) (split ∙ sym (append_assoc content crlf_bytes (drop (chunk_size l + 2) t)))
          ∙ sym (append_assoc (print_chunk_line l) (content ++ crlf_bytes) (drop (chunk_size l + 2) t)),
    )

-- ---- a size line that says too much

-- no front that is shorter than the size line is bad
no_bad_in_line : (l : ChunkLine) (q r : List ℕ) (cs : List Chunk) (left : List ℕ) → ReadsChunkLine (print_chunk_line l) l []
    → print_chunk_line l ≡ q ++ r → (r ≡ [] → ⊥) → Chunks q cs left → IsBadChunk left → ⊥
no_bad_in_line l q r [] left reads e some passed (no_line never) =
    never r l [] (subst (λ (b : List ℕ). ReadsChunkLine b l []) (e ∙ ap (λ x. x ++ r) passed) reads)
no_bad_in_line l q r [] left reads e some passed (no_end line content after at size_some size wrong) =
    let e' : print_chunk_line l ≡ left ++ r = e ∙ ap (λ x. x ++ r) passed in
    let lines = chunk_line_unique (print_chunk_line l) line l _ [] (moved left r _ line _ e' at) reads in
    some (end_of (content ++ after) r lines.1)
  where
    end_of : (a b : List ℕ) → a ++ b ≡ [] → b ≡ []
    end_of [] b e = e
    end_of (x ∷ a) b e = absurd (cc)
no_bad_in_line l q r (c ∷ cs) left reads e some passed bad =
    let fits = chunk_fits c passed.1.0 q r (print_chunk_line l) l [] passed.0 passed.1.1 e reads in absurd (omega arith)

pub much_line : (taken : ℕ) (whole : List ℕ) (l : ChunkLine) (t : List ℕ) → ReadsChunkLine whole l t
    → BODY_BYTES < taken + chunk_size l → ChunksMuch taken whole
much_line taken whole l t reads over =
    let alone : ReadsChunkLine (print_chunk_line l) l [] = (reads.0, sym (append-nil (print_chunk_line l))) in
    record {
      front = print_chunk_line l;
      more = t;
      is = reads.1;
      much = record { chunks = []; left = print_chunk_line l; passed = refl; line = l; more = []; reads = alone; over = omega arith };
      first = λ q r e some bad. no_bad_in_line l q r bad.chunks bad.left alone e some bad.passed bad.bad;
    }

-- ---- the last size line

pub no_bad_at_last : (whole q r : List ℕ) (l : ChunkLine) (t : List ℕ) (cs : List Chunk) (left : List ℕ)
    → ReadsChunkLine whole l t → chunk_size l ≡ 0 → whole ≡ q ++ r → Chunks q cs left → IsBadChunk left → ⊥
no_bad_at_last whole q r l t [] left reads zero e passed (no_line never) =
    never r l t (subst (λ (b : List ℕ). ReadsChunkLine b l t) (e ∙ ap (λ x. x ++ r) passed) reads)
no_bad_at_last whole q r l t [] left reads zero e passed (no_end line content after at some size wrong) =
    let e' : whole ≡ left ++ r = e ∙ ap (λ x. x ++ r) passed in
    let lines = chunk_line_unique whole line l _ t (moved left r whole line _ e' at) reads in
    let same : chunk_size line ≡ chunk_size l = ap chunk_size lines.0 in
    absurd (omega arith)
no_bad_at_last whole q r l t (c ∷ cs) left reads zero e passed bad =
    let chunk = chunk_at c passed.1.0 q r whole l t passed.0 passed.1.1 e reads in
    let same : chunk_size c.line ≡ chunk_size l = ap chunk_size chunk.0 in
    let some = passed.0.some in
    absurd (omega arith)

pub no_much_at_last : (taken : ℕ) (whole q r : List ℕ) (l : ChunkLine) (t : List ℕ) (cs : List Chunk) (left : List ℕ) (line : ChunkLine)
    (more : List ℕ)
    → ReadsChunkLine whole l t → chunk_size l ≡ 0 → taken ≤ BODY_BYTES
    → whole ≡ q ++ r → Chunks q cs left → ReadsChunkLine left line more → BODY_BYTES < taken + length (content_of cs) + chunk_size line → ⊥
no_much_at_last taken whole q r l t [] left line more reads zero fits e passed at over =
    let e' : whole ≡ left ++ r = e ∙ ap (λ x. x ++ r) passed in
    let lines = chunk_line_unique whole line l _ t (moved left r whole line _ e' at) reads in
    let same : chunk_size line ≡ chunk_size l = ap chunk_size lines.0 in
    absurd (omega arith)
no_much_at_last taken whole q r l t (c ∷ cs) left line more reads zero fits e passed at over =
    let chunk = chunk_at c passed.1.0 q r whole l t passed.0 passed.1.1 e reads in
    let same : chunk_size c.line ≡ chunk_size l = ap chunk_size chunk.0 in
    let some = passed.0.some in
    absurd (omega arith)

no_whole_at_last : (whole : List ℕ) (l : ChunkLine) (t : List ℕ) (cs : List Chunk) (left : List ℕ) (line : ChunkLine)
    (trailer rest : List ℕ)
    → ReadsChunkLine whole l t → chunk_size l ≡ 0 → ((rest : List ℕ) → ReadsTrailer t rest → ⊥)
    → Chunks whole cs left → ReadsChunkLine left line trailer → ReadsTrailer trailer rest → ⊥
no_whole_at_last whole l t [] left line trailer rest reads zero none passed last ends =
    let lines = chunk_line_unique whole line l trailer t (subst (λ (b : List ℕ). ReadsChunkLine b line trailer) (sym passed) last) reads in
    none rest (subst (λ (b : List ℕ). ReadsTrailer b rest) lines.1 ends)
no_whole_at_last whole l t (c ∷ cs) left line trailer rest reads zero none passed last ends =
    let chunk = chunk_at c passed.1.0 whole [] whole l t passed.0 passed.1.1 (sym (append-nil whole)) reads in
    let same : chunk_size c.line ≡ chunk_size l = ap chunk_size chunk.0 in
    let some = passed.0.some in
    absurd (omega arith)

-- the trailer breaks off
pub cut_in_trailer : (taken : ℕ) (whole : List ℕ) (l : ChunkLine) (t : List ℕ) → ReadsChunkLine whole l t → chunk_size l ≡ 0
    → taken ≤ BODY_BYTES → ((rest : List ℕ) → ReadsTrailer t rest → ⊥) → ChunksCut taken whole
cut_in_trailer taken whole l t reads zero fits none = record {
  not_whole = λ body rest w. no_whole_at_last whole l t w.chunks w.left w.line w.trailer rest reads zero none w.passed w.last w.ends;
  not_bad = λ q r e bad. no_bad_at_last whole q r l t bad.chunks bad.left reads zero e bad.passed bad.bad;
  not_much = λ q r e much. no_much_at_last taken whole q r l t much.chunks much.left much.line much.more reads zero fits e much.passed
      much.reads much.over;
}

-- ---- behind all chunks that were passed

-- what is carried from behind each chunk to its front is carried from behind all of them to the first
through : (P : ℕ → List ℕ → Type 0)
    → ((taken : ℕ) (c : Chunk) (mid : List ℕ) → IsChunk c → taken + chunk_size c.line ≤ BODY_BYTES → P (taken + chunk_size c.line) mid
    → P taken (print_chunk c ++ mid))
    → (taken : ℕ) (cs : List Chunk) (bytes left : List ℕ) → Chunks bytes cs left → taken + length (content_of cs) ≤ BODY_BYTES
    → P (taken + length (content_of cs)) left → P taken bytes
through P step taken [] bytes left passed fits p =
    let none : taken + 0 ≡ taken = omega arith in
    subst (λ (b : List ℕ). P taken b) (sym passed) (subst (λ (n : ℕ). P n left) none p)
through P step taken (c ∷ cs) bytes left passed fits p =
    let sized = passed.0.sized in
    let both : length (c.content ++ content_of cs) ≡ length c.content + length (content_of cs) = length-append c.content (content_of cs) in
    let sum : taken + length (c.content ++ content_of cs) ≡ (taken + chunk_size c.line) + length (content_of cs) = omega arith in
    let behind : P (taken + chunk_size c.line) passed.1.0 =
    through P step (taken + chunk_size c.line) cs passed.1.0 left passed.1.2 (omega arith) (subst (λ (n : ℕ). P n left) sum p) in
    subst (λ (b : List ℕ). P taken b) (sym passed.1.1) (step taken c passed.1.0 passed.0 (omega arith) behind)

pub through_cut : (cs : List Chunk) (bytes left : List ℕ) → Chunks bytes cs left → length (content_of cs) ≤ BODY_BYTES
    → ChunksCut (length (content_of cs)) left → ChunksCut 0 bytes
through_cut cs bytes left passed fits cut =
    let sum : length (content_of cs) ≡ 0 + length (content_of cs) = omega arith in
    through (λ n b. ChunksCut n b) passes_cut 0 cs bytes left passed (omega arith) (subst (λ (n : ℕ). ChunksCut n left) sum cut)

pub through_bad : (cs : List Chunk) (bytes left : List ℕ) → Chunks bytes cs left → length (content_of cs) ≤ BODY_BYTES
    → ChunksBad (length (content_of cs)) left → ChunksBad 0 bytes
through_bad cs bytes left passed fits bad =
    let sum : length (content_of cs) ≡ 0 + length (content_of cs) = omega arith in
    through (λ n b. ChunksBad n b) passes_bad 0 cs bytes left passed (omega arith) (subst (λ (n : ℕ). ChunksBad n left) sum bad)

pub through_much : (cs : List Chunk) (bytes left : List ℕ) → Chunks bytes cs left → length (content_of cs) ≤ BODY_BYTES
    → ChunksMuch (length (content_of cs)) left → ChunksMuch 0 bytes
through_much cs bytes left passed fits much =
    let sum : length (content_of cs) ≡ 0 + length (content_of cs) = omega arith in
    through (λ n b. ChunksMuch n b) (λ taken c mid is fits m. passes_much taken c mid is m) 0 cs bytes left passed (omega arith)
    (subst (λ (n : ℕ). ChunksMuch n left) sum much)
