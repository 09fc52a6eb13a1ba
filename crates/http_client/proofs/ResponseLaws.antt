-- The bytes of a connection so far are one thing alone.
use Rattle.std.proofs.Common.{◌≡◌, ℕ, ◌+◌, ◌≤◌, Bool, true, false, List, [], ◌∷◌, length, take, drop, Option, Some, None, refl, sym, ap}
use Rattle.std.proofs.Common.{◌∙◌, subst, inl, inr, arith, append-nil}
use Rattle.std.proofs.lemmas.Bool.{cases_lt}
use Rattle.std.proofs.lemmas.List.{take_all, take-append-drop, length-take-le}
use Rattle.httparse.specs.Grammar.{ResponseHead, print_response, ReadsResponse, NeverHasResponse, status_code}
use Rattle.httparse.proofs.GrammarLemmas.{response_unique}
use Rattle.http_frames.specs.declared.TheConstants.{HEAD_BYTES, CHUNKED_BYTES}
use Rattle.http_frames.specs.declared.framing.Frame.{Frame}
use Rattle.http_frames.specs.declared.framing.Frame.TheVariants.{NoBody, Sized, Chunked, TooLong, Broken}
use Rattle.http_frames.specs.Chunks.{ReadsChunks, ReadsChunked}
use Rattle.http_frames.specs.Answers.{ChunksBad, ChunksMuch}
use Rattle.http_frames.specs.Beginnings.{InChunks}
use Rattle.http_frames.specs.Beginnings as begins
use Rattle.http_frames.proofs.ListLaws.{front_of_front}
use Rattle.http_frames.proofs.OneBodyLaws.{one_body}
use Rattle.site_traits.specs.Answer.{Answer}
use Rattle.http_client.specs.Responses.{AnswerState, whole, cut, bad, big, is_interim, response_frame, BeginsHead, Interims, IsHeadless}
use Rattle.http_client.specs.Responses.{HoldsBody, CutsBody, BreaksBody, PassesLimit, IsLocation, IsBehind, IsLast, AnswersAreOneWay}

-- ---- heads

-- a head within the limit stands in the bytes that a head may have
in_window : (bytes : List ℕ) (h : ResponseHead) (tail : List ℕ) → BeginsHead bytes h tail
    → (r : List ℕ) × ReadsResponse (take HEAD_BYTES bytes) h r
in_window bytes h tail b = elim (cases_lt HEAD_BYTES (length bytes)) [
  | inl longer ↦ let taken : length (take HEAD_BYTES bytes) ≡ HEAD_BYTES = length-take-le HEAD_BYTES bytes (omega arith) in
      let front = front_of_front (print_response h) (take HEAD_BYTES bytes) tail (drop HEAD_BYTES bytes) (omega (arith, b.short, taken))
      (sym b.reads.1 ∙ sym (take-append-drop HEAD_BYTES bytes)) in
      (front.0, (b.reads.0, front.1))
  | inr all ↦ (tail, subst (λ (x : List ℕ). ReadsResponse x h tail) (sym (take_all HEAD_BYTES bytes all)) b.reads)
]

never_here : (bytes : List ℕ) (h : ResponseHead) (tail : List ℕ) → NeverHasResponse bytes → ReadsResponse bytes h tail → ⊥
never_here bytes h tail never reads = never [] h tail (subst (λ (x : List ℕ). ReadsResponse x h tail) (sym (append-nil bytes)) reads)

pub head_or_headless : (bytes : List ℕ) (h : ResponseHead) (tail : List ℕ) (v : AnswerState) → BeginsHead bytes h tail → IsHeadless bytes v
    → ⊥
head_or_headless bytes h tail (whole a) b none = none
head_or_headless bytes h tail cut b none = none.1 h tail b.reads
head_or_headless bytes h tail bad b never = let w = in_window bytes h tail b in never_here (take HEAD_BYTES bytes) h w.0 never w.1
head_or_headless bytes h tail big b (inl long) = let w = in_window bytes h tail b in long.none h w.0 w.1
head_or_headless bytes h tail big b (inr many) =
    let w = in_window bytes h tail b in
    let same = response_unique (take HEAD_BYTES bytes) many.head h many.tail w.0 many.reads w.1 in
    let fields : length many.head.fields ≡ length h.fields = ap (λ x. length x.fields) same.0 in
    absurd (omega (arith, fields, many.many, b.few))

cut_or_bad : (bytes : List ℕ) → IsHeadless bytes cut → IsHeadless bytes bad → ⊥
cut_or_bad bytes x never =
    let same : take HEAD_BYTES bytes ≡ bytes = take_all HEAD_BYTES bytes x.0 in
    subst (λ (y : List ℕ). NeverHasResponse y) same never x.2.0 x.2.1 [] x.2.2

cut_or_big : (bytes : List ℕ) → IsHeadless bytes cut → IsHeadless bytes big → ⊥
cut_or_big bytes x (inl long) = absurd (omega (arith, x.0, long.over))
cut_or_big bytes x (inr many) =
    x.1 many.head many.tail (subst (λ (y : List ℕ). ReadsResponse y many.head many.tail) (take_all HEAD_BYTES bytes x.0) many.reads)

bad_or_big : (bytes : List ℕ) → IsHeadless bytes bad → IsHeadless bytes big → ⊥
bad_or_big bytes never (inl long) = never long.may.0 long.may.1 [] long.may.2
bad_or_big bytes never (inr many) = never_here (take HEAD_BYTES bytes) many.head many.tail never many.reads

headless_one_way : (bytes : List ℕ) (v w : AnswerState) → IsHeadless bytes v → IsHeadless bytes w → v ≡ w
headless_one_way bytes (whole a) w x y = absurd x
headless_one_way bytes cut (whole b) x y = absurd y
headless_one_way bytes cut cut x y = refl
headless_one_way bytes cut bad x y = absurd (cut_or_bad bytes x y)
headless_one_way bytes cut big x y = absurd (cut_or_big bytes x y)
headless_one_way bytes bad (whole b) x y = absurd y
headless_one_way bytes bad cut x y = absurd (cut_or_bad bytes y x)
headless_one_way bytes bad bad x y = refl
headless_one_way bytes bad big x y = absurd (bad_or_big bytes x y)
headless_one_way bytes big (whole b) x y = absurd y
headless_one_way bytes big cut x y = absurd (cut_or_big bytes y x)
headless_one_way bytes big bad x y = absurd (bad_or_big bytes y x)
headless_one_way bytes big big x y = refl

-- ---- bodies

-- what of bytes within the limit is known of all that may count
in_chunks : (bytes : List ℕ) → length bytes ≤ CHUNKED_BYTES → take CHUNKED_BYTES bytes ≡ bytes
in_chunks bytes short = take_all CHUNKED_BYTES bytes short

within_chunks : (bytes body : List ℕ) → ReadsChunked bytes body [] → length bytes ≤ CHUNKED_BYTES
within_chunks bytes body w = let short : length bytes ≤ CHUNKED_BYTES + 0 = w.short in omega arith

-- the parts of two whole bodies that are the same
same_content : (a b r q : List ℕ) → ◌≡◌ {A = InChunks} (begins.whole a r) (begins.whole b q) → (a ≡ b) × (r ≡ q)
same_content a b r q e = (cc (e), cc (e))

holds_one : (ended : Bool) (f : Frame) (bytes x y : List ℕ) → HoldsBody ended f bytes x → HoldsBody ended f bytes y → x ≡ y
holds_one ended NoBody bytes x y a b = a.2 ∙ sym b.2
holds_one ended (Sized n) bytes x y a b = a.1 ∙ sym b.1
holds_one ended Chunked bytes x y a b =
    let same = same_content x y [] [] (one_body bytes (begins.whole x []) (begins.whole y []) (a.reads, a.fits) (b.reads, b.fits)) in same.0
holds_one ended TooLong bytes x y a b = absurd a
holds_one ended Broken bytes x y a b = absurd a

holds_or_cuts : (ended : Bool) (f : Frame) (bytes x : List ℕ) → HoldsBody ended f bytes x → CutsBody ended f bytes → ⊥
holds_or_cuts ended NoBody bytes x a b = let e : true ≡ false = sym a.0 ∙ b.0 in cc
holds_or_cuts ended (Sized n) bytes x a b = absurd (omega (arith, a.0, b))
holds_or_cuts ended Chunked bytes x a b = b.1.not_whole x [] a.reads
holds_or_cuts ended TooLong bytes x a b = a
holds_or_cuts ended Broken bytes x a b = a

holds_or_breaks : (ended : Bool) (f : Frame) (bytes x : List ℕ) → HoldsBody ended f bytes x → BreaksBody f bytes → ⊥
holds_or_breaks ended NoBody bytes x a b = b
holds_or_breaks ended (Sized n) bytes x a b = absurd (omega (arith, a.0, b))
holds_or_breaks ended Chunked bytes x a (inl broken) =
    let e = one_body bytes (begins.whole x []) begins.broken (a.reads, a.fits)
    (subst (ChunksBad 0) (in_chunks bytes (within_chunks bytes x a)) broken) in cc
holds_or_breaks ended Chunked bytes x a (inr more) =
    let short = within_chunks bytes x a in
    let reads = subst (λ (y : List ℕ). ReadsChunks y more.body more.rest) (in_chunks bytes short) more.reads in
    let same = same_content x more.body [] more.rest (one_body bytes (begins.whole x []) (begins.whole more.body more.rest)
    (a.reads, a.fits) (reads, more.fits)) in
    absurd (omega (arith, short, more.more (sym same.1)))
holds_or_breaks ended TooLong bytes x a b = a
holds_or_breaks ended Broken bytes x a b = a

holds_or_passes : (ended : Bool) (f : Frame) (bytes x : List ℕ) → HoldsBody ended f bytes x → PassesLimit f bytes → ⊥
holds_or_passes ended NoBody bytes x a b = absurd (omega (arith, a.1, b))
holds_or_passes ended (Sized n) bytes x a b = b
holds_or_passes ended Chunked bytes x a (inl much) =
    let e = one_body bytes (begins.whole x []) begins.much (a.reads, a.fits)
    (subst (ChunksMuch 0) (in_chunks bytes (within_chunks bytes x a)) much) in cc
holds_or_passes ended Chunked bytes x a (inr long) = absurd (omega (arith, within_chunks bytes x a, long.0))
holds_or_passes ended TooLong bytes x a b = a
holds_or_passes ended Broken bytes x a b = a

cuts_or_breaks : (ended : Bool) (f : Frame) (bytes : List ℕ) → CutsBody ended f bytes → BreaksBody f bytes → ⊥
cuts_or_breaks ended NoBody bytes a b = b
cuts_or_breaks ended (Sized n) bytes a b = absurd (omega (arith, a, b))
cuts_or_breaks ended Chunked bytes a (inl broken) =
    let e = one_body bytes begins.part begins.broken a.1 (subst (ChunksBad 0) (in_chunks bytes a.0) broken) in cc
cuts_or_breaks ended Chunked bytes a (inr more) =
    a.1.not_whole more.body more.rest (subst (λ (y : List ℕ). ReadsChunks y more.body more.rest) (in_chunks bytes a.0) more.reads)
cuts_or_breaks ended TooLong bytes a b = a
cuts_or_breaks ended Broken bytes a b = a

cuts_or_passes : (ended : Bool) (f : Frame) (bytes : List ℕ) → CutsBody ended f bytes → PassesLimit f bytes → ⊥
cuts_or_passes ended NoBody bytes a b = absurd (omega (arith, a.1, b))
cuts_or_passes ended (Sized n) bytes a b = b
cuts_or_passes ended Chunked bytes a (inl much) =
    let e = one_body bytes begins.part begins.much a.1 (subst (ChunksMuch 0) (in_chunks bytes a.0) much) in cc
cuts_or_passes ended Chunked bytes a (inr long) = absurd (omega (arith, a.0, long.0))
cuts_or_passes ended TooLong bytes a b = a
cuts_or_passes ended Broken bytes a b = a

breaks_or_passes : (f : Frame) (bytes : List ℕ) → BreaksBody f bytes → PassesLimit f bytes → ⊥
breaks_or_passes NoBody bytes a b = a
breaks_or_passes (Sized n) bytes a b = b
breaks_or_passes Chunked bytes (inl broken) (inl much) = let e =
    one_body (take CHUNKED_BYTES bytes) begins.broken begins.much broken much in cc
breaks_or_passes Chunked bytes (inl broken) (inr long) = let e =
    one_body (take CHUNKED_BYTES bytes) begins.broken begins.part broken long.1 in cc
breaks_or_passes Chunked bytes (inr more) (inl much) =
    let e = one_body (take CHUNKED_BYTES bytes) (begins.whole more.body more.rest) begins.much (more.reads, more.fits) much in cc
breaks_or_passes Chunked bytes (inr more) (inr long) = long.1.not_whole more.body more.rest more.reads
breaks_or_passes TooLong bytes a b = a
breaks_or_passes Broken bytes a b = b

-- ---- the last answer

location_one : (value x y : Option (List ℕ)) → IsLocation value x → IsLocation value y → x ≡ y
location_one None x y a b = a ∙ sym b
location_one (Some value) x y (inl a) (inl b) = a.0 ∙ sym b.0
location_one (Some value) x y (inl a) (inr b) = absurd (b.1 a.1)
location_one (Some value) x y (inr a) (inl b) = absurd (a.1 b.1)
location_one (Some value) x y (inr a) (inr b) = a.0 ∙ sym b.0

abbrev made : ℕ → Option (List ℕ) → List ℕ → Answer
made status location body = record { status = status; location = location; body = body }

same_answer : (a b : Answer) → a.status ≡ b.status → a.location ≡ b.location → a.body ≡ b.body → a ≡ b
same_answer a b e f g =
    let x : made a.status a.location a.body ≡ made b.status a.location a.body = ap (λ s. made s a.location a.body) e in
    let y : made b.status a.location a.body ≡ made b.status b.location a.body = ap (λ l. made b.status l a.body) f in
    let z : made b.status b.location a.body ≡ made b.status b.location b.body = ap (λ t. made b.status b.location t) g in
    x ∙ y ∙ z

one_whole : (ended : Bool) (h : ResponseHead) (bytes : List ℕ) (a b : Answer) → IsBehind ended h bytes (whole a)
    → IsBehind ended h bytes (whole b) → whole a ≡ whole b
one_whole ended h bytes a b x y =
    ap whole (same_answer a b (x.0.status ∙ sym y.0.status) (location_one _ a.location b.location x.0.location y.0.location)
    (holds_one ended (response_frame h) bytes a.body b.body x.1 y.1))

behind_one_way : (ended : Bool) (h : ResponseHead) (bytes : List ℕ) (v w : AnswerState) → IsBehind ended h bytes v
    → IsBehind ended h bytes w → v ≡ w
behind_one_way ended h bytes (whole a) (whole b) x y = one_whole ended h bytes a b x y
behind_one_way ended h bytes (whole a) cut x y = absurd (holds_or_cuts ended (response_frame h) bytes a.body x.1 y)
behind_one_way ended h bytes (whole a) bad x y = absurd (holds_or_breaks ended (response_frame h) bytes a.body x.1 y)
behind_one_way ended h bytes (whole a) big x y = absurd (holds_or_passes ended (response_frame h) bytes a.body x.1 y)
behind_one_way ended h bytes cut (whole b) x y = absurd (holds_or_cuts ended (response_frame h) bytes b.body y.1 x)
behind_one_way ended h bytes cut cut x y = refl
behind_one_way ended h bytes cut bad x y = absurd (cuts_or_breaks ended (response_frame h) bytes x y)
behind_one_way ended h bytes cut big x y = absurd (cuts_or_passes ended (response_frame h) bytes x y)
behind_one_way ended h bytes bad (whole b) x y = absurd (holds_or_breaks ended (response_frame h) bytes b.body y.1 x)
behind_one_way ended h bytes bad cut x y = absurd (cuts_or_breaks ended (response_frame h) bytes y x)
behind_one_way ended h bytes bad bad x y = refl
behind_one_way ended h bytes bad big x y = absurd (breaks_or_passes (response_frame h) bytes x y)
behind_one_way ended h bytes big (whole b) x y = absurd (holds_or_passes ended (response_frame h) bytes b.body y.1 x)
behind_one_way ended h bytes big cut x y = absurd (cuts_or_passes ended (response_frame h) bytes y x)
behind_one_way ended h bytes big bad x y = absurd (breaks_or_passes (response_frame h) bytes y x)
behind_one_way ended h bytes big big x y = refl

last_one_way : (ended : Bool) (bytes : List ℕ) (v w : AnswerState) → IsLast ended bytes v → IsLast ended bytes w → v ≡ w
last_one_way ended bytes v w (inl x) (inl y) = headless_one_way bytes v w x y
last_one_way ended bytes v w (inl x) (inr y) = absurd (head_or_headless bytes y.head y.tail v y.begins x)
last_one_way ended bytes v w (inr x) (inl y) = absurd (head_or_headless bytes x.head x.tail w x.begins y)
last_one_way ended bytes v w (inr x) (inr y) =
    let same = response_unique bytes y.head x.head y.tail x.tail y.begins.reads x.begins.reads in
    let there = subst (λ (h : ResponseHead). IsBehind ended h y.tail w) same.0 y.behind in
    behind_one_way ended x.head x.tail v w x.behind (subst (λ (t : List ℕ). IsBehind ended x.head t w) same.1 there)

-- ---- interim answers

interim_or_last : (ended : Bool) (bytes : List ℕ) (h : ResponseHead) (mid : List ℕ) (v : AnswerState) → is_interim (status_code h) ≡ true
    → BeginsHead bytes h mid
    → IsLast ended bytes v → ⊥
interim_or_last ended bytes h mid v interim b (inl none) = head_or_headless bytes h mid v b none
interim_or_last ended bytes h mid v interim b (inr last) =
    let same = response_unique bytes h last.head mid last.tail b.reads last.begins.reads in
    let e : true ≡ false = sym interim ∙ ap (λ x. is_interim (status_code x)) same.0 ∙ last.last in cc

one_last : (ended : Bool) (bytes : List ℕ) (hs ks : List ResponseHead) (left there : List ℕ) (v w : AnswerState) → Interims bytes hs left
    → Interims bytes ks there
    → IsLast ended left v → IsLast ended there w → v ≡ w
one_last ended bytes [] [] left there v w a b x y =
    last_one_way ended bytes v w (subst (λ (z : List ℕ). IsLast ended z v) (sym a) x) (subst (λ (z : List ℕ). IsLast ended z w) (sym b) y)
one_last ended bytes [] (k ∷ ks) left there v w a b x y =
    absurd (interim_or_last ended bytes k b.1.0 v b.0 b.1.1 (subst (λ (z : List ℕ). IsLast ended z v) (sym a) x))
one_last ended bytes (h ∷ hs) [] left there v w a b x y =
    absurd (interim_or_last ended bytes h a.1.0 w a.0 a.1.1 (subst (λ (z : List ℕ). IsLast ended z w) (sym b) y))
one_last ended bytes (h ∷ hs) (k ∷ ks) left there v w a b x y =
    let same = response_unique bytes k h b.1.0 a.1.0 b.1.1.reads a.1.1.reads in
    one_last ended a.1.0 hs ks left there v w a.1.2 (subst (λ (z : List ℕ). Interims z ks there) same.1 b.1.2) x y

pub one_way : AnswersAreOneWay
one_way ended bytes v w x y = one_last ended bytes x.interims y.interims x.left y.left v w x.passed y.passed x.last y.last
