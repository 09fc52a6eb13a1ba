-- Laws on what a decoder has passed.
use Rattle.std.proofs.Common.{◌≡◌, ℕ, suc, ◌+◌, ◌-◌, ◌<◌, ◌≤◌, List, [], ◌∷◌, ◌++◌, length, take, drop, get_or, refl, sym, ap, ◌∙◌, subst}
use Rattle.std.proofs.Common.{arith, append_assoc, append-nil, length-append}
use Rattle.std.proofs.lemmas.List.{drop-append-le, drop-drop, drop_more, drop_all, take-append-drop, length-drop, length-take-le}
use Rattle.std.proofs.lemmas.List.{get_or-take}
use Rattle.std.proofs.lemmas.Bool.Decides.{nat_tests}
use Rattle.memchr.specs.Find.{NoneBefore, Nowhere, Passes, is_byte}
use Rattle.httparse.specs.Grammar.{chunk_size, ReadsChunkLine, NeverHasChunkLine}
use Rattle.httparse.proofs.ChunkLemmas.{ReadsChunkLine-append}
use Rattle.http_frames.specs.declared.TheConstants.{BODY_BYTES}
use Rattle.http_frames.specs.declared.chunks.Place.{Place}
use Rattle.http_frames.specs.declared.chunks.Place.TheVariants as place
use Rattle.http_frames.specs.declared.lines.SizeLine.{SizeLine}
use Rattle.http_frames.specs.Chunks.{Chunk, print_chunk, IsChunk, Chunks, content_of, BeginsCrLf, HasNoLineFeed, IsEmptyLine, Lines}
use Rattle.http_frames.specs.Chunks.{ReadsChunks}
use Rattle.http_frames.specs.Lines.{IsSizeLine, IsSizeFront}
use Rattle.http_frames.specs.Answers.{ChunksCut, ChunksBad, ChunksMuch, HasPassed, HasPassedLines}
use Rattle.http_frames.specs.Steps.{HasPassedSize, IsAt, HasMoreChunks}
use Rattle.http_frames.proofs.SizeLineLaws.{no_line_yet, may_become}
use Rattle.http_frames.proofs.StepLaws.{through_cut, through_bad, through_much, cut_before_line, bad_line, cut_in_trailer, much_line}
use Rattle.http_frames.proofs.StepLaws.{bad_end, cut_in_content, whole_chunk}
use Rattle.http_frames.proofs.TrailerLaws.{trailer_through, no_trailer, lines_push}

-- ---- chunks

chunks_push : (bytes : List ℕ) (cs : List Chunk) (left : List ℕ) (c : Chunk) (mid : List ℕ) → Chunks bytes cs left → IsChunk c
    → left ≡ print_chunk c ++ mid → Chunks bytes (cs ++ c ∷ []) mid
chunks_push bytes [] left c mid passed is e = (is, (mid, passed ∙ e, refl))
chunks_push bytes (k ∷ cs) left c mid passed is e = (
  passed.0,
  (
    passed.1.0,
    passed.1.1,
    chunks_push passed.1.0 cs left c mid passed.1.2 is e,
  ),
)

content_of-push : (cs : List Chunk) (c : Chunk) → content_of (cs ++ c ∷ []) ≡ content_of cs ++ c.content
content_of-push [] c = append-nil c.content
content_of-push (k ∷ cs) c = ap (λ x. k.content ++ x) (content_of-push cs c) ∙ sym (append_assoc k.content (content_of cs) c.content)

pub chunks_grow : (bytes more : List ℕ) (cs : List Chunk) (left : List ℕ) → Chunks bytes cs left → Chunks (bytes ++ more) cs (left ++ more)
chunks_grow bytes more [] left passed = ap (λ x. x ++ more) passed
chunks_grow bytes more (k ∷ cs) left passed = (
  passed.0,
  (
    passed.1.0 ++ more,
    ap (λ x. x ++ more) passed.1.1 ∙ append_assoc (print_chunk k) passed.1.0 more,
    chunks_grow passed.1.0 more cs left passed.1.2,
  ),
)

pub lines_grow : (bytes more : List ℕ) (ls : List (List ℕ)) (left : List ℕ) → Lines bytes ls left → Lines (bytes ++ more) ls (left ++ more)
lines_grow bytes more [] left passed = ap (λ x. x ++ more) passed
lines_grow bytes more (k ∷ ls) left passed = (
  passed.0,
  passed.1,
  (
    passed.2.0 ++ more,
    ap (λ x. x ++ more) passed.2.1 ∙ append_assoc k (10 ∷ passed.2.0) more,
    lines_grow passed.2.0 more ls left passed.2.2,
  ),
)

-- nothing is passed of any bytes
pub passed_none : (bytes : List ℕ) → HasPassed bytes 0 [] []
passed_none bytes = record { within = omega arith; chunks = []; passed = refl; content = refl; fits = omega arith }

-- the same bytes are another part and what is behind it
passed_as : (bytes : List ℕ) (at : ℕ) (body part : List ℕ) (to : ℕ) (longer : List ℕ) → HasPassed bytes at body part → to ≤ length bytes
    → part ++ drop at bytes ≡ longer ++ drop to bytes → HasPassed bytes to body longer
passed_as bytes at body part to longer p within same = record {
  within = within;
  chunks = p.chunks;
  passed = subst (λ (x : List ℕ). Chunks bytes p.chunks x) same p.passed;
  content = p.content;
  fits = p.fits;
}

length_content : (bytes : List ℕ) (at : ℕ) (body part : List ℕ) (p : HasPassed bytes at body part)
    → length body ≡ length (content_of p.chunks)
length_content bytes at body part p = ap length p.content

cut_behind_chunks : (bytes : List ℕ) (at : ℕ) (body part : List ℕ) → HasPassed bytes at body part
    → ChunksCut (length body) (part ++ drop at bytes) → ChunksCut 0 bytes
cut_behind_chunks bytes at body part p cut =
    let same = length_content bytes at body part p in let fits = p.fits in
    through_cut p.chunks bytes (part ++ drop at bytes) p.passed (omega arith)
    (subst (λ (n : ℕ). ChunksCut n (part ++ drop at bytes)) same cut)

bad_behind_chunks : (bytes : List ℕ) (at : ℕ) (body part : List ℕ) → HasPassed bytes at body part
    → ChunksBad (length body) (part ++ drop at bytes) → ChunksBad 0 bytes
bad_behind_chunks bytes at body part p bad =
    let same = length_content bytes at body part p in let fits = p.fits in
    through_bad p.chunks bytes (part ++ drop at bytes) p.passed (omega arith)
    (subst (λ (n : ℕ). ChunksBad n (part ++ drop at bytes)) same bad)

much_behind_chunks : (bytes : List ℕ) (at : ℕ) (body part : List ℕ) → HasPassed bytes at body part
    → ChunksMuch (length body) (part ++ drop at bytes) → ChunksMuch 0 bytes
much_behind_chunks bytes at body part p much =
    let same = length_content bytes at body part p in let fits = p.fits in
    through_much p.chunks bytes (part ++ drop at bytes) p.passed (omega arith)
    (subst (λ (n : ℕ). ChunksMuch n (part ++ drop at bytes)) same much)

-- ---- a size line

-- all bytes are passed, and the line goes on
pub all_passed : (bytes : List ℕ) (at : ℕ) (body part : List ℕ) → HasPassed bytes at body part
    → HasPassed bytes (length bytes) body (part ++ drop at bytes)
all_passed bytes at body part p = passed_as bytes at body part (length bytes) (part ++ drop at bytes) p (omega arith)
    (sym (append-nil (part ++ drop at bytes)) ∙ ap (λ x. (part ++ drop at bytes) ++ x) (sym (drop_all (length bytes) bytes (omega arith))))

pub cut_in_line : (bytes : List ℕ) (at : ℕ) (body part : List ℕ) (s : SizeLine) → HasPassed bytes at body part
    → IsSizeFront (part ++ drop at bytes) s → ChunksCut 0 bytes
cut_in_line bytes at body part s p is = cut_behind_chunks bytes at body part p
    (cut_before_line (length body) (part ++ drop at bytes) (no_line_yet (part ++ drop at bytes) s is)
    (may_become (part ++ drop at bytes) s is))

pub bad_in_line : (bytes : List ℕ) (at : ℕ) (body part : List ℕ) → HasPassed bytes at body part → NeverHasChunkLine (part ++ drop at bytes)
    → ChunksBad 0 bytes
bad_in_line bytes at body part p never = bad_behind_chunks bytes at body part p (bad_line (length body) (part ++ drop at bytes) never)

-- a size line and what is behind it
reads_line : (text : List ℕ) (size : ℕ) (left : List ℕ) (s : IsSizeLine text size) → ReadsChunkLine (text ++ left) s.line left
reads_line text size left s = (s.good, ap (λ x. x ++ left) s.is)

pub line_too_much : (bytes : List ℕ) (at : ℕ) (body part text : List ℕ) (n size : ℕ) → HasPassed bytes at body part → IsSizeLine text size
    → part ++ drop at bytes ≡ text ++ drop n (drop at bytes) → BODY_BYTES - length body < size → ChunksMuch 0 bytes
line_too_much bytes at body part text n size p s same over =
    let said : size ≡ chunk_size s.line = s.size_is in
    let fits = p.fits in
    much_behind_chunks bytes at body part p (subst (λ (x : List ℕ). ChunksMuch (length body) x) (sym same)
    (much_line (length body) (text ++ drop n (drop at bytes)) s.line (drop n (drop at bytes))
    (reads_line text size (drop n (drop at bytes)) s) (omega arith)))

passed_line : (bytes : List ℕ) (at : ℕ) (body part text : List ℕ) (n : ℕ) → HasPassed bytes at body part → n ≤ length (drop at bytes)
    → part ++ drop at bytes ≡ text ++ drop n (drop at bytes) → HasPassed bytes (at + n) body text
passed_line bytes at body part text n p within same = passed_as bytes at body part (at + n) text p
    (omega (arith, p.within, within, length-drop at bytes))
    (same ∙ ap (λ x. text ++ x) (drop-drop n at bytes))

pub passed_size : (bytes : List ℕ) (at : ℕ) (body part text : List ℕ) (n size : ℕ) → HasPassed bytes at body part → IsSizeLine text size
    → n ≤ length (drop at bytes)
    → part ++ drop at bytes ≡ text ++ drop n (drop at bytes) → size ≤ BODY_BYTES - length body → (size ≡ 0 → ⊥)
    → HasPassedSize bytes (at + n) body size
passed_size bytes at body part text n size p s within same room some =
    let fits = p.fits in
    record { line = text; passed = passed_line bytes at body part text n p within same; is = s; some = omega arith; room = omega arith }

pub passed_last : (bytes : List ℕ) (at : ℕ) (body part text : List ℕ) (n size : ℕ) → HasPassed bytes at body part → IsSizeLine text size
    → n ≤ length (drop at bytes)
    → part ++ drop at bytes ≡ text ++ drop n (drop at bytes) → size ≡ 0 → HasPassedLines bytes (at + n) body []
passed_last bytes at body part text n size p s within same zero =
    let q = passed_line bytes at body part text n p within same in
    record {
      within = q.within;
      chunks = q.chunks;
      left = text ++ drop (at + n) bytes;
      passed = q.passed;
      content = q.content;
      fits = q.fits;
      line = s.line;
      trailer = drop (at + n) bytes;
      last = reads_line text size (drop (at + n) bytes) s;
      zero = sym s.size_is ∙ zero;
      lines = [];
      through = refl;
      unended = tt;
    }

-- ---- the content of a chunk

pub wrong_end : (bytes : List ℕ) (at : ℕ) (body : List ℕ) (size : ℕ) → HasPassedSize bytes at body size
    → (BeginsCrLf (drop size (drop at bytes)) → ⊥) → ChunksBad 0 bytes
wrong_end bytes at body size p wrong =
    let said : size ≡ chunk_size p.is.line = p.is.size_is in
    let some = p.some in
    let room = p.room in
    bad_behind_chunks bytes at body p.line p.passed
    (bad_end (length body) (p.line ++ drop at bytes) p.is.line (drop at bytes) (reads_line p.line size (drop at bytes) p.is) (omega arith)
    (omega arith)
    (λ b. wrong (subst (λ (n : ℕ). BeginsCrLf (drop n (drop at bytes))) (sym said) b)))

pub content_cut : (bytes : List ℕ) (at : ℕ) (body : List ℕ) (size : ℕ) → HasPassedSize bytes at body size
    → BeginsCrLf (drop size (drop at bytes))
    → length (drop at bytes) < size + 2 → ChunksCut 0 bytes
content_cut bytes at body size p begins short =
    let said : size ≡ chunk_size p.is.line = p.is.size_is in
    let some = p.some in
    let room = p.room in
    cut_behind_chunks bytes at body p.line p.passed
    (cut_in_content (length body) (p.line ++ drop at bytes) p.is.line (drop at bytes) (reads_line p.line size (drop at bytes) p.is)
    (omega arith) (omega arith) (omega arith)
    (subst (λ (n : ℕ). BeginsCrLf (drop n (drop at bytes))) said begins))

pub passed_chunk : (bytes : List ℕ) (at : ℕ) (body : List ℕ) (size : ℕ) → HasPassedSize bytes at body size
    → BeginsCrLf (drop size (drop at bytes))
    → size + 2 ≤ length (drop at bytes) → HasPassed bytes (at + (size + 2)) (body ++ take size (drop at bytes)) []
passed_chunk bytes at body size p begins there =
    let said : size ≡ chunk_size p.is.line = p.is.size_is in
    let some = p.some in
    let room = p.room in
    let t : List ℕ = drop at bytes in
    let found = whole_chunk (p.line ++ t) p.is.line t (reads_line p.line size t p.is) (omega arith) (omega arith)
    (subst (λ (n : ℕ). BeginsCrLf (drop n t)) said begins) in
    let place : chunk_size p.is.line + 2 ≡ size + 2 = omega arith in
    let begins_so : p.line ++ t ≡ print_chunk found.0 ++ drop (at + (size + 2)) bytes =
    found.4 ∙ ap (λ x. print_chunk found.0 ++ x) (ap (λ n. drop n t) place ∙ drop-drop (size + 2) at bytes) in
    let content : take size t ≡ found.0.content = ap (λ n. take n t) said ∙ sym found.3 in
    let as_long : length (body ++ take size t) ≡ length body + length (take size t) = length-append body (take size t) in
    let sized : length (take size t) ≡ size = length-take-le size t (omega arith) in
    record {
      within = omega (arith, p.passed.within, there, length-drop at bytes);
      chunks = p.passed.chunks ++ found.0 ∷ [];
      passed = chunks_push bytes p.passed.chunks (p.line ++ t) found.0 (drop (at + (size + 2)) bytes) p.passed.passed found.1 begins_so;
      content = ap (λ x. x ++ take size t) p.passed.content ∙ ap (λ x. content_of p.passed.chunks ++ x) content
          ∙ sym (content_of-push p.passed.chunks found.0);
      fits = omega arith;
    }

-- a whole chunk that is next is content that wasn't passed
pub more_chunks : (bytes : List ℕ) (at : ℕ) (body : List ℕ) (size : ℕ) → HasPassedSize bytes at body size
    → BeginsCrLf (drop size (drop at bytes))
    → size + 2 ≤ length (drop at bytes) → HasMoreChunks bytes (length body)
more_chunks bytes at body size p begins there =
    let some = p.some in
    let as_long : length (body ++ take size (drop at bytes)) ≡ length body + length (take size (drop at bytes)) =
    length-append body (take size (drop at bytes)) in
    let sized : length (take size (drop at bytes)) ≡ size = length-take-le size (drop at bytes) (omega arith) in
    (at + (size + 2), body ++ take size (drop at bytes), passed_chunk bytes at body size p begins there, omega arith)

-- ---- lines of a trailer

feedless-append : (a b : List ℕ) → HasNoLineFeed a → HasNoLineFeed b → HasNoLineFeed (a ++ b)
feedless-append [] b x y = y
feedless-append (c ∷ a) b x y = (x.0, feedless-append a b x.1 y)

-- all bytes are passed, and the line goes on
pub all_passed_lines : (bytes : List ℕ) (at : ℕ) (body part : List ℕ) → HasPassedLines bytes at body part → HasNoLineFeed (drop at bytes)
    → HasPassedLines bytes (length bytes) body (part ++ drop at bytes)
all_passed_lines bytes at body part p none = record {
  within = omega arith;
  chunks = p.chunks;
  left = p.left;
  passed = p.passed;
  content = p.content;
  fits = p.fits;
  line = p.line;
  trailer = p.trailer;
  last = p.last;
  zero = p.zero;
  lines = p.lines;
  through = subst (λ (x : List ℕ). Lines p.trailer p.lines x)
      (sym (append-nil (part ++ drop at bytes)) ∙ ap (λ x. (part ++ drop at bytes) ++ x)
      (sym (drop_all (length bytes) bytes (omega arith)))) p.through;
  unended = feedless-append part (drop at bytes) p.unended none;
}

pub cut_behind_lines : (bytes : List ℕ) (at : ℕ) (body part : List ℕ) → HasPassedLines bytes at body part → HasNoLineFeed (drop at bytes)
    → ChunksCut 0 bytes
cut_behind_lines bytes at body part p none =
    let same : length body ≡ length (content_of p.chunks) = ap length p.content in let fits = p.fits in
    through_cut p.chunks bytes p.left p.passed (omega arith)
    (cut_in_trailer (length (content_of p.chunks)) p.left p.line p.trailer p.last p.zero (omega arith)
    (λ rest w. no_trailer (part ++ drop at bytes) rest (feedless-append part (drop at bytes) p.unended none)
    (trailer_through p.trailer rest p.lines (part ++ drop at bytes) p.through w)))

-- a line feed stands behind so many bytes, and none before it
pub record EndsLine (bytes : List ℕ) (n : ℕ) : Type 0 where
  pub feedless : HasNoLineFeed (take n bytes)
  pub is : bytes ≡ take n bytes ++ 10 ∷ drop (n + 1) bytes
  pub within : n + 1 ≤ length bytes

line_text : (bytes : List ℕ) (at : ℕ) (part : List ℕ) (n : ℕ) → EndsLine (drop at bytes) n
    → part ++ drop at bytes ≡ (part ++ take n (drop at bytes)) ++ 10 ∷ drop (at + (n + 1)) bytes
line_text bytes at part n l = ap (λ x. part ++ x) l.is ∙ sym (append_assoc part (take n (drop at bytes))
    (10 ∷ drop (n + 1) (drop at bytes)))
    ∙ ap (λ x. (part ++ take n (drop at bytes)) ++ 10 ∷ x) (drop-drop (n + 1) at bytes)

pub passed_full_line : (bytes : List ℕ) (at : ℕ) (body part : List ℕ) (n : ℕ) → HasPassedLines bytes at body part
    → EndsLine (drop at bytes) n
    → (IsEmptyLine (part ++ take n (drop at bytes)) → ⊥) → HasPassedLines bytes (at + (n + 1)) body []
passed_full_line bytes at body part n p l full = record {
  within = omega (arith, p.within, l.within, length-drop at bytes);
  chunks = p.chunks;
  left = p.left;
  passed = p.passed;
  content = p.content;
  fits = p.fits;
  line = p.line;
  trailer = p.trailer;
  last = p.last;
  zero = p.zero;
  lines = p.lines ++ (part ++ take n (drop at bytes)) ∷ [];
  through = lines_push p.trailer p.lines (part ++ drop at bytes) (part ++ take n (drop at bytes)) (drop (at + (n + 1)) bytes) p.through
      (feedless-append part (take n (drop at bytes)) p.unended l.feedless) full (line_text bytes at part n l);
  unended = tt;
}

pub ended_by_line : (bytes : List ℕ) (at : ℕ) (body part : List ℕ) (n : ℕ) → HasPassedLines bytes at body part → EndsLine (drop at bytes) n
    → IsEmptyLine (part ++ take n (drop at bytes)) → ReadsChunks bytes body (drop (at + (n + 1)) bytes)
ended_by_line bytes at body part n p l empty = record {
  chunks = p.chunks;
  left = p.left;
  passed = p.passed;
  line = p.line;
  trailer = p.trailer;
  last = p.last;
  zero = p.zero;
  ends = record {
    lines = p.lines;
    left = part ++ drop at bytes;
    passed = p.through;
    last = part ++ take n (drop at bytes);
    is_empty = empty;
    ends = line_text bytes at part n l;
  };
  content = p.content;
}

-- ---- a line, by the place of its line feed

feedless : (bytes : List ℕ) → ((k : ℕ) → k < length bytes → get_or bytes k 0 ≡ 10 → ⊥) → HasNoLineFeed bytes
feedless [] none = tt
feedless (b ∷ bytes) none = (none 0 (omega arith), feedless bytes (λ k lt e. none (suc k) (omega arith) e))

passes_at : (bytes : List ℕ) (k : ℕ) → get_or bytes k 0 ≡ 10 → Passes (is_byte 10) bytes k
passes_at bytes k e = grind (arith, nat_tests)

pub feedless_where_nowhere : (bytes : List ℕ) → Nowhere (Passes (is_byte 10) bytes) 0 (length bytes) → HasNoLineFeed bytes
feedless_where_nowhere bytes none = feedless bytes (λ k lt e. none k (omega arith) lt (passes_at bytes k e))

pub line_at : (bytes : List ℕ) (n : ℕ) → NoneBefore (Passes (is_byte 10) bytes) 0 (length bytes) n → Passes (is_byte 10) bytes n
    → EndsLine bytes n
line_at bytes n first at =
    let high : n < length bytes = first.high in
    let is : get_or bytes n 0 ≡ 10 = grind (arith, nat_tests) in
    record {
      feedless = feedless (take n bytes) (λ k lt e.
          let below : k < n = omega (arith, length-take-le n bytes (omega arith)) in
          first.before k (omega arith) below (passes_at bytes k (sym (get_or-take n bytes k 0 below) ∙ e)));
      is = sym (take-append-drop n bytes) ∙ ap (λ x. take n bytes ++ x) (drop_more bytes n 0 high ∙ ap (λ x. x ∷ drop (n + 1) bytes) is);
      within = omega arith;
    }

-- ---- more bytes

passed_grows : (bytes more : List ℕ) (at : ℕ) (body part : List ℕ) → HasPassed bytes at body part → HasPassed (bytes ++ more) at body part
passed_grows bytes more at body part p = record {
  within = omega (arith, p.within, length-append bytes more);
  chunks = p.chunks;
  passed = subst (λ (x : List ℕ). Chunks (bytes ++ more) p.chunks x)
      (append_assoc part (drop at bytes) more ∙ ap (λ x. part ++ x) (sym (drop-append-le at bytes more p.within)))
      (chunks_grow bytes more p.chunks (part ++ drop at bytes) p.passed);
  content = p.content;
  fits = p.fits;
}

passed_lines_grow : (bytes more : List ℕ) (at : ℕ) (body part : List ℕ) → HasPassedLines bytes at body part
    → HasPassedLines (bytes ++ more) at body part
passed_lines_grow bytes more at body part p = record {
  within = omega (arith, p.within, length-append bytes more);
  chunks = p.chunks;
  left = p.left ++ more;
  passed = chunks_grow bytes more p.chunks p.left p.passed;
  content = p.content;
  fits = p.fits;
  line = p.line;
  trailer = p.trailer ++ more;
  last = ReadsChunkLine-append p.left p.line p.trailer more p.last;
  zero = p.zero;
  lines = p.lines;
  through = subst (λ (x : List ℕ). Lines (p.trailer ++ more) p.lines x)
      (append_assoc part (drop at bytes) more ∙ ap (λ x. part ++ x) (sym (drop-append-le at bytes more p.within)))
      (lines_grow p.trailer more p.lines (part ++ drop at bytes) p.through);
  unended = p.unended;
}

pub decoded_grows : (bytes more : List ℕ) (at : ℕ) (body : List ℕ) (there : Place) → IsAt bytes at body there
    → IsAt (bytes ++ more) at body there
decoded_grows bytes more at body (place.SizeLine l) p = (p.0, passed_grows bytes more at body p.0 p.1, p.2)
decoded_grows bytes more at body (place.Content size) p = record {
  line = p.line;
  passed = passed_grows bytes more at body p.line p.passed;
  is = p.is;
  some = p.some;
  room = p.room;
}
decoded_grows bytes more at body (place.Trailer l) p = (p.0, passed_lines_grow bytes more at body p.0 p.1, p.2)

-- no more than all bytes is passed
pub at_within : (bytes : List ℕ) (at : ℕ) (body : List ℕ) (there : Place) → IsAt bytes at body there → at ≤ length bytes
at_within bytes at body (place.SizeLine l) p = p.1.within
at_within bytes at body (place.Content size) p = p.passed.within
at_within bytes at body (place.Trailer l) p = p.1.within
