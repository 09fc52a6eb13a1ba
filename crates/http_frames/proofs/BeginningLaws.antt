-- Bytes begin with a whole request, with none, with a part of one, badly, or with too much, and with no two of these.
use Rattle.std.specs.Prelude.{Bool, true, IsTrue}
use Rattle.std.proofs.Common.{◌≡◌, ℕ, ◌+◌, ◌<◌, ◌≤◌, List, [], ◌∷◌, ◌++◌, length, take, drop, refl, sym, ap, ◌∙◌, subst, inl, inr, arith}
use Rattle.std.proofs.Common.{append_assoc, append-nil, length-append}
use Rattle.std.proofs.lemmas.Bool.{cases_lt}
use Rattle.std.proofs.lemmas.List.{take-append-drop, length-take-le}
use Rattle.std.proofs.lemmas.List.Elements.{All-cons}
use Rattle.std.proofs.lemmas.Str.{IsUtf8-from_ascii}
use Rattle.std.proofs.lemmas.Str.Ascii.{IsAscii-cons, IsAscii-nil}
use Rattle.httparse.specs.Grammar.{lf, AllPass, is_token_byte, is_uri_byte, RequestHead, print_request, NeverHasRequest, ChunkLine}
use Rattle.httparse.specs.Grammar.{print_chunk_line, ReadsChunkLine, chunk_size}
use Rattle.http_frames.specs.declared.TheConstants.{BODY_BYTES, CHUNKED_BYTES}
use Rattle.http_frames.specs.declared.framing.Frame.{Frame}
use Rattle.http_frames.specs.Chunks.{Chunk, print_chunk, Chunks, content_of, Lines, ReadsTrailer, ReadsChunks, ReadsChunked, HasBadChunk}
use Rattle.http_frames.specs.Chunks.{HasMuch, HasBigChunks, much, long}
use Rattle.http_frames.specs.Messages.{Message, HasBody, ReadsMessage, IsBig, long_head, many_fields, long_body, big_chunks, IsBad, no_head}
use Rattle.http_frames.specs.Messages.{broken, bad_chunk, BeginsBad, BeginsBig}
use Rattle.http_frames.specs.Beginnings.{Beginning, BeginsWith, BeginOneWay}
use Rattle.http_frames.specs.Beginnings as begins
use Rattle.http_frames.proofs.ListLaws.{front_of_front}
use Rattle.http_frames.proofs.ChunkLaws.{bad_passes, much_passes}
use Rattle.http_frames.proofs.StepLaws.{no_bad_at_last, no_much_at_last}
use Rattle.http_frames.proofs.GrowLaws.{chunks_more}
use Rattle.http_frames.proofs.MessageLaws.{front_bad, front_big, head_some}

-- ---- a whole chunked body

-- no front of it is bad
pub whole_not_bad : (cs : List Chunk) (bytes left : List ℕ) (line : ChunkLine) (trailer q r : List ℕ) → Chunks bytes cs left
    → ReadsChunkLine left line trailer
    → chunk_size line ≡ 0 → bytes ≡ q ++ r → HasBadChunk q → ⊥
whole_not_bad [] bytes left line trailer q r passed last zero e bad =
    no_bad_at_last bytes q r line trailer bad.chunks bad.left (subst (λ (x : List ℕ). ReadsChunkLine x line trailer) (sym passed) last) zero
    e bad.passed bad.bad
whole_not_bad (c ∷ cs) bytes left line trailer q r passed last zero e bad =
    let behind = bad_passes c passed.1.0 q r bad.chunks bad.left passed.0 (sym passed.1.1 ∙ e) bad.passed bad.bad in
    whole_not_bad cs passed.1.0 left line trailer behind.0 r passed.1.2 last zero behind.2 behind.3

-- no front of it has too much content, where all of it has not
pub whole_not_much : (taken : ℕ) (cs : List Chunk) (bytes left : List ℕ) (line : ChunkLine) (trailer q r : List ℕ) → Chunks bytes cs left
    → ReadsChunkLine left line trailer → chunk_size line ≡ 0 → taken + length (content_of cs) ≤ BODY_BYTES → bytes ≡ q ++ r
    → HasMuch taken q → ⊥
whole_not_much taken [] bytes left line trailer q r passed last zero fits e over =
    no_much_at_last taken bytes q r line trailer over.chunks over.left over.line over.more
    (subst (λ (x : List ℕ). ReadsChunkLine x line trailer) (sym passed) last)
    zero (omega arith) e over.passed over.reads over.over
whole_not_much taken (c ∷ cs) bytes left line trailer q r passed last zero fits e over =
    let sized = passed.0.sized in
    let both : length (c.content ++ content_of cs) ≡ length c.content + length (content_of cs) = length-append c.content (content_of cs) in
    let behind = much_passes taken c passed.1.0 q r over.chunks over.left over.line over.more passed.0 (omega arith) (sym passed.1.1 ∙ e)
    over.passed over.reads over.over in
    whole_not_much (taken + chunk_size c.line) cs passed.1.0 left line trailer behind.0 r passed.1.2 last zero
    (omega arith) behind.2 behind.3

lines_alone : (bytes : List ℕ) (ls : List (List ℕ)) (left x rest : List ℕ) → Lines bytes ls left → left ≡ x ++ rest
    → (u : List ℕ) × (bytes ≡ u ++ rest) × Lines u ls x
lines_alone bytes [] left x rest passed e = (x, passed ∙ e, refl)
lines_alone bytes (k ∷ ls) left x rest passed e =
    let behind = lines_alone passed.2.0 ls left x rest passed.2.2 e in (
      k ++ 10 ∷ behind.0,
      passed.2.1 ∙ ap (λ t. k ++ 10 ∷ t) behind.1 ∙ sym (append_assoc k (10 ∷ behind.0) rest),
      (passed.0, passed.1, (behind.0, refl, behind.2)),
    )

chunks_alone : (bytes : List ℕ) (cs : List Chunk) (left x rest : List ℕ) → Chunks bytes cs left → left ≡ x ++ rest
    → (u : List ℕ) × (bytes ≡ u ++ rest) × Chunks u cs x
chunks_alone bytes [] left x rest passed e = (x, passed ∙ e, refl)
chunks_alone bytes (c ∷ cs) left x rest passed e =
    let behind = chunks_alone passed.1.0 cs left x rest passed.1.2 e in (
      print_chunk c ++ behind.0,
      passed.1.1 ∙ ap (λ t. print_chunk c ++ t) behind.1 ∙ sym (append_assoc (print_chunk c) behind.0 rest),
      (passed.0, (behind.0, refl, behind.2)),
    )

trailer_alone : (bytes rest : List ℕ) → ReadsTrailer bytes rest → (u : List ℕ) × (bytes ≡ u ++ rest) × ReadsTrailer u []
trailer_alone bytes rest t =
    let parted = lines_alone bytes t.lines t.left (t.last ++ 10 ∷ []) rest t.passed (t.ends ∙ sym (append_assoc t.last (10 ∷ []) rest)) in (
      parted.0,
      parted.1,
      record { lines = t.lines; left = t.last ++ 10 ∷ []; passed = parted.2; last = t.last; is_empty = t.is_empty; ends = refl },
    )

-- without what follows it is whole too
body_alone : (bytes body rest : List ℕ) → ReadsChunks bytes body rest → (u : List ℕ) × (bytes ≡ u ++ rest) × ReadsChunks u body []
body_alone bytes body rest w =
    let trailer = trailer_alone w.trailer rest w.ends in
    let line : List ℕ = print_chunk_line w.line in
    let parted = chunks_alone bytes w.chunks w.left (line ++ trailer.0) rest w.passed
    (w.last.1 ∙ ap (λ t. line ++ t) trailer.1 ∙ sym (append_assoc line trailer.0 rest)) in (
      parted.0,
      parted.1,
      record {
        chunks = w.chunks;
        left = line ++ trailer.0;
        passed = parted.2;
        line = w.line;
        trailer = trailer.0;
        last = (w.last.0, refl);
        zero = w.zero;
        ends = trailer.2;
        content = w.content;
      },
    )

-- no front of it goes on past the first n bytes unended, where it ends within them
whole_not_long : (n : ℕ) (bytes body rest q r : List ℕ) → ReadsChunks bytes body rest → length bytes ≤ n + length rest → bytes ≡ q ++ r
    → n < length q
    → ((content behind : List ℕ) → ReadsChunks (take n q) content behind → ⊥) → ⊥
whole_not_long n bytes body rest q r w short e over none =
    let alone = body_alone bytes body rest w in
    let parted : alone.0 ++ rest ≡ take n q ++ (drop n q ++ r) =
    sym alone.1 ∙ e ∙ ap (λ x. x ++ r) (sym (take-append-drop n q)) ∙ append_assoc (take n q) (drop n q) r in
    let taken : length (take n q) ≡ n = length-take-le n q (omega arith) in
    let used : length (alone.0 ++ rest) ≡ length alone.0 + length rest = length-append alone.0 rest in
    let whole : length bytes ≡ length (alone.0 ++ rest) = ap length alone.1 in
    let front = front_of_front alone.0 (take n q) rest (drop n q ++ r) (omega arith) parted in
    none body front.0 (subst (λ (x : List ℕ). ReadsChunks x body front.0) (sym front.1) (chunks_more alone.0 body [] front.0 alone.2))

not_big_chunks : (bytes body rest q r : List ℕ) → ReadsChunked bytes body rest → bytes ≡ q ++ r → HasBigChunks q → ⊥
not_big_chunks bytes body rest q r w e (much m) =
    whole_not_much 0 w.reads.chunks bytes w.reads.left w.reads.line w.reads.trailer q r w.reads.passed w.reads.last w.reads.zero
    (let fits = w.fits in let same : length body ≡ length (content_of w.reads.chunks) = ap length w.reads.content in omega arith) e m
not_big_chunks bytes body rest q r w e (long over none) = whole_not_long CHUNKED_BYTES bytes body rest q r w.reads w.short e over none

-- ---- a whole request

body_as : (f g : Frame) (tail body rest : List ℕ) → f ≡ g → HasBody f tail body rest → HasBody g tail body rest
body_as f g tail body rest e has = subst (λ (x : Frame). HasBody x tail body rest) e has

message_not_bad : (bytes : List ℕ) (m : Message) (rest : List ℕ) → ReadsMessage bytes m rest → BeginsBad bytes → ⊥
message_not_bad bytes m rest w b = elim (front_bad bytes b.front b.more m.head w.tail w.reads b.is b.bad) [
  | inl is ↦ absurd (body_as _ _ w.tail m.body rest is w.body)
  | inr c ↦ let chunked : ReadsChunked w.tail m.body rest = body_as _ _ w.tail m.body rest c.0 w.body in
      whole_not_bad chunked.reads.chunks w.tail chunked.reads.left chunked.reads.line chunked.reads.trailer c.1.0 b.more
      chunked.reads.passed chunked.reads.last chunked.reads.zero c.1.1 c.1.2
]

-- no front of it passes a limit
pub message_front_not_big : (bytes : List ℕ) (m : Message) (rest q r : List ℕ) → ReadsMessage bytes m rest → bytes ≡ q ++ r → IsBig q → ⊥
message_front_not_big bytes m rest q r w e big = elim (front_big bytes q r m.head w.tail w.reads w.short e big) [
  | inl over ↦ let few = w.few in absurd (omega arith)
  | inr other ↦ elim other [
    | inl is ↦ absurd (body_as _ _ w.tail m.body rest is w.body)
    | inr c ↦ not_big_chunks w.tail m.body rest c.1.0 r (body_as _ _ w.tail m.body rest c.0 w.body) c.1.1 c.1.2
  ]
]

message_not_big : (bytes : List ℕ) (m : Message) (rest : List ℕ) → ReadsMessage bytes m rest → BeginsBig bytes → ⊥
message_not_big bytes m rest w b = message_front_not_big bytes m rest b.front b.more w b.is b.big

-- ---- no byte

no_front : (q r : List ℕ) → [] ≡ q ++ r → q ≡ []
no_front [] r e = refl
no_front (x ∷ q) r e = absurd (cc)

none_not_whole : (bytes : List ℕ) (m : Message) (rest : List ℕ) → bytes ≡ [] → ReadsMessage bytes m rest → ⊥
none_not_whole bytes m rest none w = head_some bytes m.head w.tail w.reads none

-- the shortest head
abbrev shortest : RequestHead
shortest = record { blank = []; method = 71 ∷ []; target = 47 ∷ []; minor = 1; line_end = lf; fields = []; last = lf }

one_pass : (test : ℕ → Bool) (b : ℕ) → test b ≡ true → AllPass test (b ∷ [])
one_pass test b is = All-cons (λ x. IsTrue (test x)) b [] is (λ k d within. absurd (omega arith))

-- some bytes are a head
heads_are_made : NeverHasRequest [] → ⊥
unfolding is_token_byte
heads_are_made never = never (print_request shortest) shortest [] (
  record {
    method = (omega arith, one_pass is_token_byte 71 refl);
    target = (omega arith, one_pass is_uri_byte 47 refl);
    target_text = IsUtf8-from_ascii (47 ∷ []) (IsAscii-cons 47 [] (omega arith) IsAscii-nil);
    minor = omega arith;
    fields = λ k d within. absurd (omega arith);
  },
  sym (append-nil (print_request shortest)),
)

front_not_bad : (q : List ℕ) → q ≡ [] → IsBad q → ⊥
front_not_bad q none (no_head never) = heads_are_made (subst NeverHasRequest none never)
front_not_bad q none (broken h t at is) = head_some q h t at none
front_not_bad q none (bad_chunk h t at is bad) = head_some q h t at none

front_not_big : (q : List ℕ) → q ≡ [] → IsBig q → ⊥
front_not_big q none (long_head over x) = absurd (omega (arith, ap length none))
front_not_big q none (many_fields h t at over) = head_some q h t at none
front_not_big q none (long_body h t at is) = head_some q h t at none
front_not_big q none (big_chunks h t at is big) = head_some q h t at none

none_not_bad : (bytes : List ℕ) → bytes ≡ [] → BeginsBad bytes → ⊥
none_not_bad bytes none b = front_not_bad b.front (no_front b.front b.more (sym none ∙ b.is)) b.bad

none_not_big : (bytes : List ℕ) → bytes ≡ [] → BeginsBig bytes → ⊥
none_not_big bytes none b = front_not_big b.front (no_front b.front b.more (sym none ∙ b.is)) b.big

-- ---- the shortest front that is bad or big

bad_not_big : (bytes : List ℕ) → BeginsBad bytes → BeginsBig bytes → ⊥
bad_not_big bytes x y = elim (cases_lt (length x.front) (length y.front)) [
  | inl shorter ↦ let within = front_of_front x.front y.front x.more y.more (omega arith) (sym x.is ∙ y.is) in
      y.first x.front within.0 within.1 (λ e. let same : length y.front ≡ length (x.front ++ []) =
      ap length within.1 ∙ ap (λ t. length (x.front ++ t)) e in
      absurd (omega (arith, length-append x.front []))) x.bad
  | inr longer ↦ let within = front_of_front y.front x.front y.more x.more longer (sym y.is ∙ x.is) in
      x.first y.front within.0 within.1 y.big
]

-- ---- one thing alone

pub one_way : BeginOneWay
one_way bytes begins.whole begins.whole x y = refl
one_way bytes begins.whole begins.none x y = absurd (none_not_whole bytes x.0 x.1 y x.2)
one_way bytes begins.whole begins.cut x y = absurd (y.not_whole x.0 x.1 x.2)
one_way bytes begins.whole begins.bad x y = absurd (message_not_bad bytes x.0 x.1 x.2 y)
one_way bytes begins.whole begins.big x y = absurd (message_not_big bytes x.0 x.1 x.2 y)
one_way bytes begins.none begins.whole x y = absurd (none_not_whole bytes y.0 y.1 x y.2)
one_way bytes begins.none begins.none x y = refl
one_way bytes begins.none begins.cut x y = absurd (y.some x)
one_way bytes begins.none begins.bad x y = absurd (none_not_bad bytes x y)
one_way bytes begins.none begins.big x y = absurd (none_not_big bytes x y)
one_way bytes begins.cut begins.whole x y = absurd (x.not_whole y.0 y.1 y.2)
one_way bytes begins.cut begins.none x y = absurd (x.some y)
one_way bytes begins.cut begins.cut x y = refl
one_way bytes begins.cut begins.bad x y = absurd (x.not_bad y.front y.more y.is y.bad)
one_way bytes begins.cut begins.big x y = absurd (x.not_big y.front y.more y.is y.big)
one_way bytes begins.bad begins.whole x y = absurd (message_not_bad bytes y.0 y.1 y.2 x)
one_way bytes begins.bad begins.none x y = absurd (none_not_bad bytes y x)
one_way bytes begins.bad begins.cut x y = absurd (y.not_bad x.front x.more x.is x.bad)
one_way bytes begins.bad begins.bad x y = refl
one_way bytes begins.bad begins.big x y = absurd (bad_not_big bytes x y)
one_way bytes begins.big begins.whole x y = absurd (message_not_big bytes y.0 y.1 y.2 x)
one_way bytes begins.big begins.none x y = absurd (none_not_big bytes y x)
one_way bytes begins.big begins.cut x y = absurd (y.not_big x.front x.more x.is x.big)
one_way bytes begins.big begins.bad x y = absurd (bad_not_big bytes y x)
one_way bytes begins.big begins.big x y = refl
