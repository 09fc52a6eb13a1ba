-- Laws on chunks: what holds behind a chunk, with its size taken, holds of the bytes from the chunk on.
use Rattle.std.proofs.Common.{◌≡◌, ℕ, ◌+◌, ◌<◌, ◌≤◌, List, [], ◌∷◌, ◌++◌, length, refl, sym, ap, ◌∙◌, subst, arith, append_assoc}
use Rattle.std.proofs.Common.{append-nil, length-append}
use Rattle.httparse.specs.Ascii.{crlf_bytes}
use Rattle.httparse.specs.Grammar.{ChunkLine, print_chunk_line, chunk_size, ReadsChunkLine}
use Rattle.httparse.proofs.ChunkLemmas.{chunk_line_unique, ReadsChunkLine-append}
use Rattle.http_frames.specs.declared.TheConstants.{BODY_BYTES}
use Rattle.http_frames.specs.Chunks.{Chunk, print_chunk, IsChunk, Chunks, content_of, BeginsCrLf, IsBadChunk, no_line, no_end, HasBadChunk}
use Rattle.http_frames.specs.Chunks.{HasMuch, ReadsTrailer, ReadsChunks}
use Rattle.http_frames.specs.Answers.{ChunksCut, ChunksBad, ChunksMuch}
use Rattle.http_frames.proofs.ListLaws.{same_front}

-- a chunk begins with its size line
pub chunk_line_of : (c : Chunk) (mid : List ℕ) → IsChunk c → ReadsChunkLine (print_chunk c ++ mid) c.line (c.content ++ (crlf_bytes ++ mid))
unfolding print_chunk
chunk_line_of c mid is = (
  is.line,
  append_assoc (print_chunk_line c.line) (c.content ++ crlf_bytes) mid
      ∙ ap (λ x. print_chunk_line c.line ++ x) (append_assoc c.content crlf_bytes mid),
)

-- a size line of a front is that of the whole
pub line_in_front : (q r : List ℕ) (k l : ChunkLine) (t rest : List ℕ) → ReadsChunkLine q k t → ReadsChunkLine (q ++ r) l rest
    → (k ≡ l) × (t ++ r ≡ rest)
line_in_front q r k l t rest x y = chunk_line_unique (q ++ r) k l (t ++ r) rest (ReadsChunkLine-append q k t r x) y

abbrev record_chunk : ChunkLine → List ℕ → Chunk
record_chunk l x = record { line = l; content = x }

same_chunk : (c d : Chunk) → c.line ≡ d.line → c.content ≡ d.content → c ≡ d
same_chunk c d e f =
    let lines : record_chunk c.line c.content ≡ record_chunk d.line c.content = ap (λ l. record_chunk l c.content) e in
    let contents : record_chunk d.line c.content ≡ record_chunk d.line d.content = ap (λ x. record_chunk d.line x) f in
    lines ∙ contents

-- a chunk at a front is the chunk at the whole
pub chunk_in : (c d : Chunk) (mid q r m : List ℕ) → IsChunk c → IsChunk d → print_chunk c ++ mid ≡ q ++ r → q ≡ print_chunk d ++ m
    → (d ≡ c) × (mid ≡ m ++ r)
chunk_in c d mid q r m is_c is_d e f =
    let at_q = subst (λ (x : List ℕ). ReadsChunkLine x d.line (d.content ++ (crlf_bytes ++ m))) (sym f) (chunk_line_of d m is_d) in
    let at_whole = subst (λ (x : List ℕ). ReadsChunkLine x c.line (c.content ++ (crlf_bytes ++ mid))) e (chunk_line_of c mid is_c) in
    let lines = line_in_front q r d.line c.line _ _ at_q at_whole in
    let size : length d.content ≡ length c.content = is_d.sized ∙ ap chunk_size lines.0 ∙ sym is_c.sized in
    let contents = same_front d.content c.content ((crlf_bytes ++ m) ++ r) (crlf_bytes ++ mid) size
    (sym (append_assoc d.content (crlf_bytes ++ m) r) ∙ lines.1) in
    (same_chunk d c lines.0 contents.0, cc (contents.1))

-- bytes that stand in front of CR LF and more begin CR LF
begins_of : (after r mid : List ℕ) → after ++ r ≡ crlf_bytes ++ mid → BeginsCrLf after
begins_of [] r mid e = tt
begins_of (a ∷ []) r mid e = cc
begins_of (a ∷ b ∷ after) r mid e = (cc, cc)

-- no front of a chunk is bad
front_of_chunk_not_bad : (c : Chunk) (mid q r : List ℕ) → IsChunk c → print_chunk c ++ mid ≡ q ++ r → IsBadChunk q → ⊥
front_of_chunk_not_bad c mid q r is e (no_line never) =
    never r c.line _ (subst (λ (x : List ℕ). ReadsChunkLine x c.line (c.content ++ (crlf_bytes ++ mid))) e (chunk_line_of c mid is))
front_of_chunk_not_bad c mid q r is e (no_end line content after reads some size wrong) =
    let at_whole = subst (λ (x : List ℕ). ReadsChunkLine x c.line (c.content ++ (crlf_bytes ++ mid))) e (chunk_line_of c mid is) in
    let lines = line_in_front q r line c.line _ _ reads at_whole in
    let same : length content ≡ length c.content = size ∙ ap chunk_size lines.0 ∙ sym is.sized in
    let contents = same_front content c.content (after ++ r) (crlf_bytes ++ mid) same
    (sym (append_assoc content after r) ∙ lines.1) in
    wrong (begins_of after r mid contents.1)

-- a front with a bad chunk passes the first chunk
pub bad_passes : (c : Chunk) (mid q r : List ℕ) (cs : List Chunk) (left : List ℕ) → IsChunk c → print_chunk c ++ mid ≡ q ++ r
    → Chunks q cs left → IsBadChunk left → (m : List ℕ) × (q ≡ print_chunk c ++ m) × (mid ≡ m ++ r) × HasBadChunk m
bad_passes c mid q r [] left is e passed bad =
    absurd (front_of_chunk_not_bad c mid q r is e (subst IsBadChunk (sym passed) bad))
bad_passes c mid q r (d ∷ cs) left is e passed bad =
    let same = chunk_in c d mid q r passed.1.0 is passed.0 e passed.1.1 in (
      passed.1.0,
      passed.1.1 ∙ ap (λ x. print_chunk x ++ passed.1.0) same.0,
      same.1,
      record { chunks = cs; left = left; passed = passed.1.2; bad = bad },
    )

-- a front with too much content passes the first chunk, where that isn't too much
pub much_passes : (taken : ℕ) (c : Chunk) (mid q r : List ℕ) (cs : List Chunk) (left : List ℕ) (line : ChunkLine) (more : List ℕ)
    → IsChunk c → taken + chunk_size c.line ≤ BODY_BYTES → print_chunk c ++ mid ≡ q ++ r
    → Chunks q cs left → ReadsChunkLine left line more → BODY_BYTES < taken + length (content_of cs) + chunk_size line
    → (m : List ℕ) × (q ≡ print_chunk c ++ m) × (mid ≡ m ++ r) × HasMuch (taken + chunk_size c.line) m
much_passes taken c mid q r [] left line more is fits e passed reads over =
    let at_q = subst (λ (x : List ℕ). ReadsChunkLine x line more) (sym passed) reads in
    let at_whole = subst (λ (x : List ℕ). ReadsChunkLine x c.line (c.content ++ (crlf_bytes ++ mid))) e (chunk_line_of c mid is) in
    let lines = line_in_front q r line c.line _ _ at_q at_whole in
    let size : chunk_size line ≡ chunk_size c.line = ap chunk_size lines.0 in
    absurd (omega arith)
much_passes taken c mid q r (d ∷ cs) left line more is fits e passed reads over =
    let same = chunk_in c d mid q r passed.1.0 is passed.0 e passed.1.1 in
    let size : length d.content ≡ chunk_size c.line = passed.0.sized ∙ ap (λ x. chunk_size x.line) same.0 in (
      passed.1.0,
      passed.1.1 ∙ ap (λ x. print_chunk x ++ passed.1.0) same.0,
      same.1,
      record {
        chunks = cs;
        left = left;
        passed = passed.1.2;
        line = line;
        more = more;
        reads = reads;
        over = omega (arith, length-append d.content (content_of cs));
      },
    )

-- a whole chunked body passes the first chunk
whole_passes : (c : Chunk) (mid : List ℕ) (cs : List Chunk) (left : List ℕ) (line : ChunkLine) (trailer rest : List ℕ)
    → IsChunk c → Chunks (print_chunk c ++ mid) cs left → ReadsChunkLine left line trailer → chunk_size line ≡ 0
    → ReadsTrailer trailer rest → (body : List ℕ) × ReadsChunks mid body rest
whole_passes c mid [] left line trailer rest is passed last zero ends =
    let at_whole = subst (λ (x : List ℕ). ReadsChunkLine x line trailer) (sym passed) last in
    let lines = chunk_line_unique _ line c.line _ _ at_whole (chunk_line_of c mid is) in
    let size : chunk_size line ≡ chunk_size c.line = ap chunk_size lines.0 in
    let some = is.some in
    absurd (omega arith)
whole_passes c mid (d ∷ cs) left line trailer rest is passed last zero ends =
    let same = chunk_in c d mid (print_chunk c ++ mid) [] passed.1.0 is passed.0 (sym (append-nil _)) passed.1.1 in (
      content_of cs,
      record {
        chunks = cs;
        left = left;
        passed = subst (λ (x : List ℕ). Chunks x cs left) (sym (same.1 ∙ append-nil _)) passed.1.2;
        line = line;
        trailer = trailer;
        last = last;
        zero = zero;
        ends = ends;
        content = refl;
      },
    )

-- what breaks off behind a chunk breaks off from the chunk on
pub passes_cut : (taken : ℕ) (c : Chunk) (mid : List ℕ) → IsChunk c → taken + chunk_size c.line ≤ BODY_BYTES
    → ChunksCut (taken + chunk_size c.line) mid → ChunksCut taken (print_chunk c ++ mid)
passes_cut taken c mid is fits cut = record {
  not_whole = λ body rest w. let passed = whole_passes c mid w.chunks w.left w.line w.trailer rest is w.passed w.last w.zero w.ends in
      cut.not_whole passed.0 rest passed.1;
  not_bad = λ q r e bad. let passed = bad_passes c mid q r bad.chunks bad.left is e bad.passed bad.bad in
      cut.not_bad passed.0 r passed.2 passed.3;
  not_much = λ q r e much.
      let passed = much_passes taken c mid q r much.chunks much.left much.line much.more is fits e much.passed much.reads much.over in
      cut.not_much passed.0 r passed.2 passed.3;
}

-- what is bad behind a chunk is bad from the chunk on
pub passes_bad : (taken : ℕ) (c : Chunk) (mid : List ℕ) → IsChunk c → taken + chunk_size c.line ≤ BODY_BYTES
    → ChunksBad (taken + chunk_size c.line) mid → ChunksBad taken (print_chunk c ++ mid)
passes_bad taken c mid is fits bad = record {
  front = print_chunk c ++ bad.front;
  more = bad.more;
  is = ap (λ x. print_chunk c ++ x) bad.is ∙ sym (append_assoc (print_chunk c) bad.front bad.more);
  bad = record { chunks = c ∷ bad.bad.chunks; left = bad.bad.left; passed = (is, (bad.front, refl, bad.bad.passed)); bad = bad.bad.bad };
  first = λ q r e much.
      let passed = much_passes taken c bad.front q r much.chunks much.left much.line much.more is fits e much.passed much.reads much.over in
      bad.first passed.0 r passed.2 passed.3;
}

-- what is too much behind a chunk is too much from the chunk on
pub passes_much : (taken : ℕ) (c : Chunk) (mid : List ℕ) → IsChunk c
    → ChunksMuch (taken + chunk_size c.line) mid → ChunksMuch taken (print_chunk c ++ mid)
passes_much taken c mid is much = record {
  front = print_chunk c ++ much.front;
  more = much.more;
  is = ap (λ x. print_chunk c ++ x) much.is ∙ sym (append_assoc (print_chunk c) much.front much.more);
  much = let size = is.sized in let over = much.much.over in
      record {
        chunks = c ∷ much.much.chunks;
        left = much.much.left;
        passed = (is, (much.front, refl, much.much.passed));
        line = much.much.line;
        more = much.much.more;
        reads = much.much.reads;
        over = omega (arith, length-append c.content (content_of much.much.chunks));
      };
  first = λ q r e some bad.
      let passed = bad_passes c much.front q r bad.chunks bad.left is e bad.passed bad.bad in
      much.first passed.0 r passed.2 some passed.3;
}
