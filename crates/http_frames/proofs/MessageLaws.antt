-- Laws on requests and on bytes that begin with none.
use Rattle.std.proofs.Common.{◌≡◌, ℕ, ◌+◌, ◌<◌, ◌≤◌, List, [], ◌∷◌, ◌++◌, length, take, drop, refl, sym, ap, ◌∙◌, subst, inl, inr, ◌⊎◌}
use Rattle.std.proofs.Common.{arith, append_assoc, append-nil, length-append}
use Rattle.std.proofs.lemmas.List.{take-append-le, take-append-drop, length-take-le, take-take, length-take}
use Rattle.httparse.specs.Grammar.{RequestHead, IsRequestHead, print_request, ReadsRequest, HasNoRequest, NeverHasRequest, MayBecomeRequest}
use Rattle.httparse.specs.Grammar.{EndsInTarget}
use Rattle.httparse.proofs.GrammarLemmas.{request_unique, ReadsRequest-append}
use Rattle.http_frames.specs.declared.TheConstants.{HEAD_BYTES, HEAD_FIELDS, CHUNKED_BYTES}
use Rattle.http_frames.specs.declared.framing.Frame.{Frame}
use Rattle.http_frames.specs.declared.framing.Frame.TheVariants.{Sized, Chunked, TooLong, Broken}
use Rattle.http_frames.specs.Framing.{frame}
use Rattle.http_frames.specs.Chunks.{ReadsChunks, ReadsChunked, HasBadChunk, HasBigChunks, much, long}
use Rattle.http_frames.specs.Messages.{Message, HasBody, ReadsMessage, HasNoMessage, IsBig, long_head, many_fields, long_body, big_chunks}
use Rattle.http_frames.specs.Messages.{IsBad, no_head, broken, bad_chunk, BeginsBad, BeginsBig, IsCut, StopsInTarget, IsLongTarget}
use Rattle.http_frames.specs.Answers.{ChunksCut, ChunksBad, ChunksMuch}
use Rattle.http_frames.proofs.ListLaws.{front_of_front}

-- a head at a front, moved to the whole
moved : (q r whole : List ℕ) (k : RequestHead) (t : List ℕ) → whole ≡ q ++ r → ReadsRequest q k t → ReadsRequest whole k (t ++ r)
moved q r whole k t e x = subst (λ (b : List ℕ). ReadsRequest b k (t ++ r)) (sym e) (ReadsRequest-append q k t r x)

-- a head at a front is that of the whole
head_in_front : (q r whole : List ℕ) (k h : RequestHead) (t tail : List ℕ) → whole ≡ q ++ r → ReadsRequest q k t → ReadsRequest whole h tail
    → (k ≡ h) × (t ++ r ≡ tail)
head_in_front q r whole k h t tail e x y = request_unique whole k h (t ++ r) tail (moved q r whole k t e x) y

-- ---- a whole head

-- what a front can be where the whole begins with a head
pub front_bad : (whole q r : List ℕ) (h : RequestHead) (tail : List ℕ) → ReadsRequest whole h tail → whole ≡ q ++ r → IsBad q
    → (frame h ≡ Broken) ⊎ ((frame h ≡ Chunked) × ((t : List ℕ) × (tail ≡ t ++ r) × HasBadChunk t))
front_bad whole q r h tail reads e (no_head never) = absurd (never r h tail (subst (λ (b : List ℕ). ReadsRequest b h tail) e reads))
front_bad whole q r h tail reads e (broken k t at is) =
    let same = head_in_front q r whole k h t tail e at reads in inl (sym (ap frame same.0) ∙ is)
front_bad whole q r h tail reads e (bad_chunk k t at is bad) =
    let same = head_in_front q r whole k h t tail e at reads in inr (sym (ap frame same.0) ∙ is, (t, sym same.1, bad))

pub front_big : (whole q r : List ℕ) (h : RequestHead) (tail : List ℕ) → ReadsRequest whole h tail → length (print_request h) ≤ HEAD_BYTES
    → whole ≡ q ++ r → IsBig q
    → (HEAD_FIELDS < length h.fields) ⊎ ((frame h ≡ TooLong) ⊎ ((frame h ≡ Chunked) × ((t : List ℕ) × (tail ≡ t ++ r) × HasBigChunks t)))
front_big whole q r h tail reads short e (long_head over none) =
    absurd (head_within whole q r h tail HEAD_BYTES reads short (omega arith) e none)
  where
    head_within : (whole q r : List ℕ) (h : RequestHead) (tail : List ℕ) (n : ℕ) → ReadsRequest whole h tail → length (print_request h) ≤ n
        → n ≤ length q → whole ≡ q ++ r → HasNoRequest (take n q) → ⊥
    head_within whole q r h tail n reads short over e none =
        let taken_length : length (take n q) ≡ n = length-take-le n q over in
        let parted : take n q ++ (drop n q ++ r) ≡ print_request h ++ tail =
        sym (append_assoc (take n q) (drop n q) r) ∙ ap (λ x. x ++ r) (take-append-drop n q) ∙ sym e ∙ reads.1 in
        let front = front_of_front (print_request h) (take n q) tail (drop n q ++ r) (omega arith) (sym parted) in
        none h front.0 (reads.0, front.1)
front_big whole q r h tail reads short e (many_fields k t at over) =
    let same = head_in_front q r whole k h t tail e at reads in inl (subst (λ (x : RequestHead). HEAD_FIELDS < length x.fields) same.0 over)
front_big whole q r h tail reads short e (long_body k t at is) =
    let same = head_in_front q r whole k h t tail e at reads in inr (inl (sym (ap frame same.0) ∙ is))
front_big whole q r h tail reads short e (big_chunks k t at is big) =
    let same = head_in_front q r whole k h t tail e at reads in inr (inr (sym (ap frame same.0) ∙ is, (t, sym same.1, big)))

-- ---- more bytes

pub bad_grows : (bytes more : List ℕ) → BeginsBad bytes → BeginsBad (bytes ++ more)
bad_grows bytes more b = record {
  front = b.front;
  more = b.more ++ more;
  is = ap (λ x. x ++ more) b.is ∙ append_assoc b.front b.more more;
  bad = b.bad;
  first = b.first;
}

pub big_grows : (bytes more : List ℕ) → BeginsBig bytes → BeginsBig (bytes ++ more)
big_grows bytes more b = record {
  front = b.front;
  more = b.more ++ more;
  is = ap (λ x. x ++ more) b.is ∙ append_assoc b.front b.more more;
  big = b.big;
  first = b.first;
}

pub target_grows : (bytes more : List ℕ) → IsLongTarget bytes → IsLongTarget (bytes ++ more)
target_grows bytes more t =
    (omega (arith, t.0, length-append bytes more), subst EndsInTarget (sym (front HEAD_BYTES (omega (arith, t.0)))) t.1)
  where
    front : (n : ℕ) → n ≤ length bytes → take n (bytes ++ more) ≡ take n bytes
    front n le = take-append-le n bytes more le

-- ---- judging a head

-- no front of bytes in which no head stands is big for what its head says
pub front_big_without_head : (whole q r : List ℕ) → HasNoRequest whole → whole ≡ q ++ r → IsBig q → HEAD_BYTES < length q
front_big_without_head whole q r none e (long_head over x) = over
front_big_without_head whole q r none e (many_fields k t at over) = absurd (none k _ (moved q r whole k t e at))
front_big_without_head whole q r none e (long_body k t at is) = absurd (none k _ (moved q r whole k t e at))
front_big_without_head whole q r none e (big_chunks k t at is big) = absurd (none k _ (moved q r whole k t e at))

-- no front of bytes that may become a head is bad
front_not_bad_before_head : (whole q r more : List ℕ) (h : RequestHead) → HasNoRequest whole → ReadsRequest (whole ++ more) h []
    → whole ≡ q ++ r → IsBad q → ⊥
front_not_bad_before_head whole q r more h none may e (no_head never) =
    never (r ++ more) h [] (subst (λ (b : List ℕ). ReadsRequest b h []) (ap (λ x. x ++ more) e ∙ append_assoc q r more) may)
front_not_bad_before_head whole q r more h none may e (broken k t at is) = none k _ (moved q r whole k t e at)
front_not_bad_before_head whole q r more h none may e (bad_chunk k t at is bad) = none k _ (moved q r whole k t e at)

never_is_none : (whole : List ℕ) → NeverHasRequest whole → HasNoRequest whole
never_is_none whole never = subst HasNoRequest (append-nil whole) (never [])

-- the head breaks the grammar within the limit
pub head_never : (seen : List ℕ) → NeverHasRequest seen → length seen ≤ HEAD_BYTES → BeginsBad seen
head_never seen never short = record {
  front = seen;
  more = [];
  is = sym (append-nil seen);
  bad = no_head never;
  first = λ q r e big. let over = front_big_without_head seen q r (never_is_none seen never) e big in
      absurd (omega (arith, ap length e, length-append q r));
}

-- no message stands where no head does
pub no_message : (whole : List ℕ) → HasNoRequest whole → HasNoMessage whole
no_message whole none m rest w = none m.head w.tail w.reads

-- the head breaks off
pub head_cut : (whole : List ℕ) → (whole ≡ [] → ⊥) → HasNoRequest whole → MayBecomeRequest whole → length whole ≤ HEAD_BYTES
    → IsCut whole ⊎ StopsInTarget whole
head_cut whole some none (inl may) short = inl record {
  some = some;
  not_whole = no_message whole none;
  not_bad = λ q r e bad. front_not_bad_before_head whole q r may.0 may.1 none may.2 e bad;
  not_big = λ q r e big. let over = front_big_without_head whole q r none e big in
      absurd (omega (arith, ap length e, length-append q r));
}
head_cut whole some none (inr target) short = inr (short, target)

-- the head isn't whole within the limit, and more bytes are there
head_long_at : (n : ℕ) (whole : List ℕ) → n < length whole → (rest : List ℕ) × (whole ≡ take (n + 1) whole ++ rest)
    × (take n (take (n + 1) whole) ≡ take n whole) × (length (take (n + 1) whole) ≡ n + 1)
head_long_at n whole over = (
  drop (n + 1) whole,
  sym (take-append-drop (n + 1) whole),
  take-take n (n + 1) whole (omega arith),
  length-take-le (n + 1) whole (omega arith),
)

-- a shorter front of the first n + 1 bytes is one of the first n
pub shorter_front : (n : ℕ) (whole q r : List ℕ) → n < length whole → take (n + 1) whole ≡ q ++ r → (r ≡ [] → ⊥)
    → (s : List ℕ) × (take n whole ≡ q ++ s)
shorter_front n whole q r over e some =
    let long : length (take (n + 1) whole) ≡ n + 1 = length-take-le (n + 1) whole (omega arith) in
    let front_length : length (take n whole) ≡ n = length-take-le n whole (omega arith) in
    let r_some : 0 < length r = positive r some in
    let q_short : length q ≤ n = omega (arith, ap length e, length-append q r) in
    let parted : q ++ (r ++ drop (n + 1) whole) ≡ take n whole ++ drop n whole =
    sym (append_assoc q r (drop (n + 1) whole)) ∙ ap (λ x. x ++ drop (n + 1) whole) (sym e)
    ∙ take-append-drop (n + 1) whole ∙ sym (take-append-drop n whole) in
    let front = front_of_front q (take n whole) (r ++ drop (n + 1) whole) (drop n whole) (omega arith) parted in
    (front.0, front.1)
  where
    positive : (r : List ℕ) → (r ≡ [] → ⊥) → 0 < length r
    positive [] some = absurd (some refl)
    positive (x ∷ r) some = omega arith

pub head_long : (whole : List ℕ) → HEAD_BYTES < length whole → HasNoRequest (take HEAD_BYTES whole)
    → MayBecomeRequest (take HEAD_BYTES whole)
    → BeginsBig whole ⊎ IsLongTarget whole
head_long whole over none (inl may) =
    let parts = head_long_at HEAD_BYTES whole over in
    let one_more : HEAD_BYTES < length (take (HEAD_BYTES + 1) whole) = omega (arith, parts.3) in
    inl record {
      front = take (HEAD_BYTES + 1) whole;
      more = parts.0;
      is = parts.1;
      big = long_head one_more (subst HasNoRequest (sym parts.2) none);
      first = λ q r e some bad. let shorter = shorter_front HEAD_BYTES whole q r over e some in
          front_not_bad_before_head (take HEAD_BYTES whole) q shorter.0 may.0 may.1 none may.2 shorter.1 bad;
    }
head_long whole over none (inr target) = inr (over, target)

-- ---- judging a framing

abbrev alone : RequestHead → List ℕ → Type 0
alone h tail = ReadsRequest (print_request h) h []

-- a head without what follows
head_alone : (whole : List ℕ) (h : RequestHead) (tail : List ℕ) → ReadsRequest whole h tail → ReadsRequest (print_request h) h []
head_alone whole h tail reads = (reads.0, sym (append-nil (print_request h)))

no_rest : (t r : List ℕ) → [] ≡ t ++ r → r ≡ []
no_rest [] r e = sym e
no_rest (x ∷ t) r e = absurd (cc)

-- a shorter front of a head is not bad
shorter_not_bad : (h : RequestHead) (q r : List ℕ) → ReadsRequest (print_request h) h [] → print_request h ≡ q ++ r → (r ≡ [] → ⊥) → IsBad q
    → ⊥
shorter_not_bad h q r reads e some (no_head never) = never r h [] (subst (λ (b : List ℕ). ReadsRequest b h []) e reads)
shorter_not_bad h q r reads e some (broken k t at is) =
    let same = head_in_front q r _ k h t [] e at reads in some (no_rest t r (sym same.1))
shorter_not_bad h q r reads e some (bad_chunk k t at is bad) =
    let same = head_in_front q r _ k h t [] e at reads in some (no_rest t r (sym same.1))

pub many_fields_big : (whole : List ℕ) (h : RequestHead) (tail : List ℕ) → ReadsRequest whole h tail → HEAD_FIELDS < length h.fields
    → BeginsBig whole
many_fields_big whole h tail reads over =
    let at = head_alone whole h tail reads in
    record {
      front = print_request h;
      more = tail;
      is = reads.1;
      big = many_fields h [] at over;
      first = λ q r e some bad. shorter_not_bad h q r at e some bad;
    }

pub long_body_big : (whole : List ℕ) (h : RequestHead) (tail : List ℕ) → ReadsRequest whole h tail → frame h ≡ TooLong → BeginsBig whole
long_body_big whole h tail reads is =
    let at = head_alone whole h tail reads in
    record {
      front = print_request h;
      more = tail;
      is = reads.1;
      big = long_body h [] at is;
      first = λ q r e some bad. shorter_not_bad h q r at e some bad;
    }

pub broken_bad : (whole : List ℕ) (h : RequestHead) (tail : List ℕ) → ReadsRequest whole h tail → length (print_request h) ≤ HEAD_BYTES
    → length h.fields ≤ HEAD_FIELDS → frame h ≡ Broken → BeginsBad whole
broken_bad whole h tail reads short few is =
    let at = head_alone whole h tail reads in
    record {
      front = print_request h;
      more = tail;
      is = reads.1;
      bad = broken h [] at is;
      first = λ q r e big. elim (front_big (print_request h) q r h [] at short e big) [
        | inl over ↦ absurd (omega arith)
        | inr other ↦ elim other [
          | inl too ↦ absurd (apart (sym is ∙ too))
          | inr chunks ↦ absurd
              (apart_chunked (sym is ∙ chunks.0))
        ]
      ];
    }
  where
    apart : Broken ≡ TooLong → ⊥
    apart e = cc

    apart_chunked : Broken ≡ Chunked → ⊥
    apart_chunked e = cc

-- ---- judging a body

-- a whole request
pub whole_message : (whole : List ℕ) (h : RequestHead) (tail body rest : List ℕ) → ReadsRequest whole h tail
    → length (print_request h) ≤ HEAD_BYTES → length h.fields ≤ HEAD_FIELDS → HasBody (frame h) tail body rest
    → (m : Message) × ReadsMessage whole m rest × (m.head ≡ h) × (m.body ≡ body)
whole_message whole h tail body rest reads short few has =
    (record { head = h; body = body }, record { tail = tail; reads = reads; short = short; few = few; body = has }, refl, refl)

some_head : (h : RequestHead) → IsRequestHead h → 0 < length (print_request h)
unfolding print_request
some_head h is = simp length-append (omega (arith, is.method.0))

-- bytes with a head are some
pub head_some : (whole : List ℕ) (h : RequestHead) (tail : List ℕ) → ReadsRequest whole h tail → whole ≡ [] → ⊥
head_some whole h tail reads e = none_of_nothing (length whole) (ap length e)
    (omega (arith, ap length reads.1, length-append (print_request h) tail, some_head h reads.0))
  where
    none_of_nothing : (n : ℕ) → n ≡ 0 → 0 < n → ⊥
    none_of_nothing n e lt = absurd (omega arith)

sized_apart_broken : (n : ℕ) → Sized n ≡ Broken → ⊥
sized_apart_broken n e = cc

sized_apart_chunked : (n : ℕ) → Sized n ≡ Chunked → ⊥
sized_apart_chunked n e = cc

sized_apart_long : (n : ℕ) → Sized n ≡ TooLong → ⊥
sized_apart_long n e = cc

chunked_apart_broken : Chunked ≡ Broken → ⊥
chunked_apart_broken e = cc

chunked_apart_long : Chunked ≡ TooLong → ⊥
chunked_apart_long e = cc

-- no body of n bytes stands in fewer
no_sized : (n : ℕ) (f : Frame) (tail body rest : List ℕ) → f ≡ Sized n → length tail < n → HasBody f tail body rest → ⊥
no_sized n f tail body rest is short has = at (subst (λ (x : Frame). HasBody x tail body rest) is has)
  where
    at : HasBody (Sized n) tail body rest → ⊥
    at has = absurd (omega (arith, has.0, ap length has.1, length-append body rest))

pub sized_cut : (whole : List ℕ) (h : RequestHead) (tail : List ℕ) (n : ℕ) → ReadsRequest whole h tail
    → length (print_request h) ≤ HEAD_BYTES → length h.fields ≤ HEAD_FIELDS → frame h ≡ Sized n → length tail < n → IsCut whole
sized_cut whole h tail n reads short few is missing = record {
  some = head_some whole h tail reads;
  not_whole = λ m rest w. let same = request_unique whole m.head h w.tail tail w.reads reads in
      no_sized n (frame m.head) w.tail m.body rest (ap frame same.0 ∙ is) (omega (arith, ap length same.1)) w.body;
  not_bad = λ q r e bad. elim (front_bad whole q r h tail reads e bad)
      [ inl b ↦ sized_apart_broken n (sym is ∙ b) | inr c ↦ sized_apart_chunked n (sym is ∙ c.0) ];
  not_big = λ q r e big. elim (front_big whole q r h tail reads short e big) [
    | inl over ↦ absurd (omega arith)
    | inr other ↦ elim other [
      | inl too ↦ sized_apart_long n
          (sym is ∙ too)
      | inr c ↦ sized_apart_chunked n (sym is ∙ c.0)
    ]
  ];
}

-- ---- judging chunks

-- the chunks break off
pub chunked_cut : (whole : List ℕ) (h : RequestHead) (tail : List ℕ) → ReadsRequest whole h tail
    → length (print_request h) ≤ HEAD_BYTES → length h.fields ≤ HEAD_FIELDS → frame h ≡ Chunked
    → length tail ≤ CHUNKED_BYTES → ChunksCut 0 tail → IsCut whole
chunked_cut whole h tail reads short few is fits cut = record {
  some = head_some whole h tail reads;
  not_whole = λ m rest w. let same = request_unique whole m.head h w.tail tail w.reads reads in
      no_chunked (frame m.head) w.tail m.body rest (ap frame same.0 ∙ is) same.1 w.body;
  not_bad = λ q r e bad. elim (front_bad whole q r h tail reads e bad)
      [ inl b ↦ chunked_apart_broken (sym is ∙ b) | inr c ↦ cut.not_bad c.1.0 r c.1.1 c.1.2 ];
  not_big = λ q r e big. elim (front_big whole q r h tail reads short e big) [
    | inl over ↦ absurd (omega arith)
    | inr other ↦ elim other [
      | inl too ↦ chunked_apart_long
          (sym is ∙ too)
      | inr c ↦ not_big c.1.0 r c.1.1 c.1.2
    ]
  ];
}
  where
    no_chunked : (f : Frame) (t body rest : List ℕ) → f ≡ Chunked → t ≡ tail → HasBody f t body rest → ⊥
    no_chunked f t body rest is same has = at (subst (λ (x : Frame). HasBody x t body rest) is has)
      where
        at : ReadsChunked t body rest → ⊥
        at has = cut.not_whole body rest (subst (λ (x : List ℕ). ReadsChunks x body rest) same has.reads)

    not_big : (t r : List ℕ) → tail ≡ t ++ r → HasBigChunks t → ⊥
    not_big t r e (much m) = cut.not_much t r e m
    not_big t r e (long over none) = absurd (omega (arith, over, ap length e, length-append t r))

-- a chunk is bad
pub chunked_bad : (whole : List ℕ) (h : RequestHead) (tail : List ℕ) → ReadsRequest whole h tail
    → length (print_request h) ≤ HEAD_BYTES → length h.fields ≤ HEAD_FIELDS → frame h ≡ Chunked
    → (n : ℕ) → n ≤ CHUNKED_BYTES → ChunksBad 0 (take n tail) → BeginsBad whole
chunked_bad whole h tail reads short few is n fits bad =
    let at : ReadsRequest (print_request h ++ bad.front) h bad.front = (reads.0, refl) in
    record {
      front = print_request h ++ bad.front;
      more = bad.more ++ drop n tail;
      is = reads.1 ∙ ap (λ x. print_request h ++ x) (sym (take-append-drop n tail) ∙ ap (λ x. x ++ drop n tail) bad.is
          ∙ append_assoc bad.front bad.more (drop n tail)) ∙ sym (append_assoc (print_request h) bad.front (bad.more ++ drop n tail));
      bad = bad_chunk h bad.front at is bad.bad;
      first = λ q r e big. elim (front_big _ q r h bad.front at short e big) [
        | inl over ↦ absurd (omega arith)
        | inr other ↦ elim other [
          | inl too ↦ chunked_apart_long
              (sym is ∙ too)
          | inr c ↦ not_big c.1.0 r c.1.1 c.1.2
        ]
      ];
    }
  where
    not_big : (t r : List ℕ) → bad.front ≡ t ++ r → HasBigChunks t → ⊥
    not_big t r e (much m) = bad.first t r e m
    not_big t r e (long over none) = absurd (omega (
      arith,
      over,
      ap length e,
      length-append t r,
      ap length bad.is,
      length-append bad.front bad.more,
      length-take n tail,
    ))

-- the chunks hold too much
pub chunked_much : (whole : List ℕ) (h : RequestHead) (tail : List ℕ) → ReadsRequest whole h tail
    → length (print_request h) ≤ HEAD_BYTES → length h.fields ≤ HEAD_FIELDS → frame h ≡ Chunked
    → (n : ℕ) → ChunksMuch 0 (take n tail) → BeginsBig whole
chunked_much whole h tail reads short few is n over =
    let at : ReadsRequest (print_request h ++ over.front) h over.front = (reads.0, refl) in
    record {
      front = print_request h ++ over.front;
      more = over.more ++ drop n tail;
      is = reads.1 ∙ ap (λ x. print_request h ++ x) (sym (take-append-drop n tail) ∙ ap (λ x. x ++ drop n tail) over.is
          ∙ append_assoc over.front over.more (drop n tail)) ∙ sym (append_assoc (print_request h) over.front (over.more ++ drop n tail));
      big = big_chunks h over.front at is (much over.much);
      first = λ q r e some bad. elim (front_bad _ q r h over.front at e bad)
          [ inl b ↦ chunked_apart_broken (sym is ∙ b) | inr c ↦ over.first c.1.0 r c.1.1 some c.1.2 ];
    }

-- the framing goes on past its limit
pub chunked_long : (whole : List ℕ) (h : RequestHead) (tail : List ℕ) → ReadsRequest whole h tail
    → length (print_request h) ≤ HEAD_BYTES → length h.fields ≤ HEAD_FIELDS → frame h ≡ Chunked
    → CHUNKED_BYTES < length tail → ChunksCut 0 (take CHUNKED_BYTES tail) → BeginsBig whole
chunked_long whole h tail reads short few is over cut =
    let parts = head_long_at CHUNKED_BYTES tail over in
    let front : List ℕ = take (CHUNKED_BYTES + 1) tail in
    let at : ReadsRequest (print_request h ++ front) h front = (reads.0, refl) in
    record {
      front = print_request h ++ front;
      more = parts.0;
      is = reads.1 ∙ ap (λ x. print_request h ++ x) parts.1 ∙ sym (append_assoc (print_request h) front parts.0);
      big = big_chunks h front at is (long (omega (arith, parts.3))
          (λ body rest whole. cut.not_whole body rest (subst (λ (x : List ℕ). ReadsChunks x body rest) parts.2 whole)));
      first = λ q r e some bad. elim (front_bad _ q r h front at e bad) [
        | inl b ↦ chunked_apart_broken (sym is ∙ b)
        | inr c ↦ let shorter = shorter_front CHUNKED_BYTES tail c.1.0 r over c.1.1 some in cut.not_bad c.1.0 shorter.0 shorter.1 c.1.2
      ];
    }
