-- What a reader has read stays so when more bytes follow, and what it says of them.
use Rattle.std.proofs.Common.{◌≡◌, ◌≢◌, ℕ, ◌+◌, ◌*◌, ◌<◌, ◌≤◌, Bool, true, false, List, [], ◌∷◌, ◌++◌, length, take, drop, min, map, Option}
use Rattle.std.proofs.Common.{Some, None, refl, sym, ap, ◌∙◌, subst, inl, inr, arith, append-nil, length-append, Result, Ok, Err}
use Rattle.std.specs.Prelude.{IfSome, option_map, codes, if◌then◌else◌}
use Rattle.std.specs.List.{flat_map}
use Rattle.std.proofs.lemmas.Bool.{cases_lt}
use Rattle.std.proofs.lemmas.List.{take_all, take_min, take-append-drop, take-append-le, drop-append-le, drop-drop, drop_all, length-drop}
use Rattle.std.proofs.lemmas.List.{length-take}
use Rattle.httparse.specs.declared.Status.{Status}
use Rattle.httparse.specs.declared.Error.{Error}
use Rattle.httparse.specs.declared.Error.TheVariants as error
use Rattle.httparse.specs.declared.spans.Span.{Span}
use Rattle.httparse.specs.declared.spans.HeaderSpan.{HeaderSpan}
use Rattle.httparse.specs.declared.spans.ResponseSpans.{ResponseSpans}
use Rattle.httparse.specs.Grammar.{ResponseHead, print_response, print_field, ReadsResponse, NeverHasResponse, status_code}
use Rattle.httparse.specs.Spans.{span_bytes, IsWithin, header_bytes, IsResponseWithin, IsResponseOf, ResponseExceeds}
use Rattle.httparse.proofs.GrammarLemmas.{ReadsResponse-append, response_unique}
use Rattle.http_frames.specs.declared.TheConstants.{HEAD_BYTES, HEAD_FIELDS, BODY_BYTES, CHUNKED_BYTES, FIELD_ROOM}
use Rattle.http_frames.specs.declared.framing.Frame.{Frame}
use Rattle.http_frames.specs.declared.framing.Frame.TheVariants.{Sized, Chunked, TooLong, Broken}
use Rattle.http_frames.specs.declared.head.Body.{Body}
use Rattle.http_frames.specs.declared.chunks.Decoder.{Decoder}
use Rattle.http_frames.specs.declared.chunks.Decoded.TheVariants as decoded
use Rattle.http_frames.specs.Framing.{first_value, values_of, frame_of_fields}
use Rattle.http_frames.specs.Heads.{frame_as}
use Rattle.http_frames.specs.Chunks.{ReadsChunks}
use Rattle.http_frames.specs.Steps.{HasDecoded, DecodedIs}
use Rattle.http_frames.proofs.ListLaws.{take_grows}
use Rattle.http_frames.proofs.FieldLaws.{sized_fits}
use Rattle.http_frames.proofs.HeadLaws.{media_grows, count_of_fields, fields_bytes, error_cases}
use Rattle.http_frames.proofs.DecodeLaws.{decoded_grows}
use Rattle.site_traits.specs.Answer.{Answer}
use Rattle.http_client.specs.declared.heads.AnswerParts.{AnswerParts}
use Rattle.http_client.specs.declared.lines.LineReader.{LineReader}
use Rattle.http_client.specs.declared.responses.ResponseReader.{ResponseReader}
use Rattle.http_client.specs.declared.responses.ResponseFault.{ResponseFault}
use Rattle.http_client.specs.declared.responses.ResponseFault.TheVariants as fault
use Rattle.http_client.specs.Responses.{AnswerState, whole, cut, bad, big, is_interim, is_bodiless, response_fields, frame_behind}
use Rattle.http_client.specs.Responses.{response_frame, BeginsHead, Interims, HasManyFields, IsLast, AreAnswer, HoldsBody, CutsBody}
use Rattle.http_client.specs.Responses.{HasMoreBehind, BreaksBody, PassesLimit, IsLocation, IsOf, IsBehind}
use Rattle.http_client.specs.Reading.{HasAnswerHead, AreWholeLines, HasReadLines, HasInterimHead, HasResponseSpans, chunk_window}
use Rattle.http_client.specs.Reading.{HasReadLast, HasRead, HasReadFront, HeadCame, IsHeard, said_by, SaysWhatIs}
use Rattle.http_client.proofs.ResponseLaws.{one_way}

-- the parts of a head
abbrev pub parts_of : ResponseSpans → Option Span → Body → AnswerParts
parts_of r location body = record { len = r.len; status = r.code; location = location; body = body }

-- ---- more bytes

begins_grows : (bytes more : List ℕ) (h : ResponseHead) (tail : List ℕ) → BeginsHead bytes h tail
    → BeginsHead (bytes ++ more) h (tail ++ more)
begins_grows bytes more h tail b = record { reads = ReadsResponse-append bytes h tail more b.reads; short = b.short; few = b.few }

-- the same, with what follows as what is behind so many bytes
begins_at : (bytes more : List ℕ) (h : ResponseHead) (len : ℕ) → len ≤ length bytes → BeginsHead bytes h (drop len bytes)
    → BeginsHead (bytes ++ more) h (drop len (bytes ++ more))
begins_at bytes more h len within b =
    subst (λ (x : List ℕ). BeginsHead (bytes ++ more) h x) (sym (drop-append-le len bytes more within))
    (begins_grows bytes more h (drop len bytes) b)

interims_grow : (bytes more : List ℕ) (hs : List ResponseHead) (left : List ℕ) → Interims bytes hs left
    → Interims (bytes ++ more) hs (left ++ more)
interims_grow bytes more [] left e = ap (λ x. x ++ more) e
interims_grow bytes more (h ∷ hs) left x = (
  x.0,
  (
    x.1.0 ++ more,
    begins_grows bytes more h x.1.0 x.1.1,
    interims_grow x.1.0 more hs left x.1.2,
  ),
)

pub interims_push : (bytes : List ℕ) (hs : List ResponseHead) (left : List ℕ) (h : ResponseHead) (mid : List ℕ) → Interims bytes hs left
    → is_interim (status_code h) ≡ true → BeginsHead left h mid → Interims bytes (hs ++ h ∷ []) mid
interims_push bytes [] left h mid e interim b = (interim, (mid, subst (λ (x : List ℕ). BeginsHead x h mid) (sym e) b, refl))
interims_push bytes (k ∷ hs) left h mid x interim b = (x.0, (x.1.0, x.1.1, interims_push x.1.0 hs left h mid x.1.2 interim b))

pub head_grows : (bytes more : List ℕ) (p : AnswerParts) → HasAnswerHead bytes p → HasAnswerHead (bytes ++ more) p
head_grows bytes more p h =
    let place = media_grows bytes more p.location h.location_within in
    record {
      head = h.head;
      begins = begins_at bytes more h.head p.len h.within h.begins;
      within = omega (arith, h.within, length-append bytes more);
      last = h.last;
      status = h.status;
      body = h.body;
      location_within = place.0;
      location = place.1 ∙ h.location;
    }

window_grows : (left more : List ℕ) (p : AnswerParts) (d : Decoder) → p.len ≤ length left → HasDecoded (chunk_window left p) d
    → HasDecoded (chunk_window (left ++ more) p) d
window_grows left more p d within has =
    let longer = take_grows CHUNKED_BYTES (drop p.len left) more in
    let e : chunk_window (left ++ more) p ≡ chunk_window left p ++ longer.0 =
    ap (λ x. take CHUNKED_BYTES x) (drop-append-le p.len left more within) ∙ longer.1 in
    subst (λ (x : List ℕ). HasDecoded x d) (sym e) (decoded_grows (chunk_window left p) longer.0 d.at d.body.items d.place has)

last_grows : (left more : List ℕ) (o : Option AnswerParts) (d : Decoder) → HasReadLast left o d → HasReadLast (left ++ more) o d
last_grows left more None d any = any
last_grows left more (Some p) d x = (head_grows left more p x.0, window_grows left more p d x.0.within x.1)

lines_grow : (left more : List ℕ) (l : LineReader) → HasReadLines left l → HasReadLines (left ++ more) l
lines_grow left more l known = (
  omega (arith, known.0, length-append left more),
  elim known.1 [
    | inl none ↦ inl none
    | inr lines ↦ inr (subst (λ (x : List ℕ). AreWholeLines x) (sym (take-append-le l.passed left more known.0)) lines)
  ],
)

read_grows : (bytes more : List ℕ) (r : ResponseReader) → HasRead bytes r → HasRead (bytes ++ more) r
read_grows bytes more r x =
    let e : drop r.passed (bytes ++ more) ≡ drop r.passed bytes ++ more = drop-append-le r.passed bytes more x.within in
    record {
      within = omega (arith, x.within, length-append bytes more);
      interims = x.interims;
      passed = subst (λ (y : List ℕ). Interims (bytes ++ more) x.interims y) (sym e)
          (interims_grow bytes more x.interims (drop r.passed bytes) x.passed);
      last = subst (λ (y : List ℕ). HasReadLast y r.head r.decoder) (sym e) (last_grows (drop r.passed bytes) more r.head r.decoder x.last);
      lines = subst (λ (y : List ℕ). HasReadLines y r.lines) (sym e) (lines_grow (drop r.passed bytes) more r.lines x.lines);
    }

-- a front that was read is all bytes that were read
pub read_on : (bytes : List ℕ) (r : ResponseReader) → HasReadFront bytes r → HasRead bytes r
read_on bytes r x = subst (λ (y : List ℕ). HasRead y r) (sym x.is) (read_grows x.front x.more r x.read)

-- ---- what is said

-- what the last answer is, the bytes are
pub are_last : (ended : Bool) (bytes : List ℕ) (r : ResponseReader) (v : AnswerState) → HasRead bytes r
    → IsLast ended (drop r.passed bytes) v → AreAnswer ended bytes v
are_last ended bytes r v x last = record { interims = x.interims; left = drop r.passed bytes; passed = x.passed; last = last }

pub says : (ended : Bool) (bytes : List ℕ) (said : Option AnswerState) → IfSome said (AreAnswer ended bytes) → SaysWhatIs ended bytes said
says ended bytes None x = record { is = x; exact = λ v is. tt }
says ended bytes (Some w) x = record { is = x; exact = λ v is. one_way ended bytes w v x is }

-- ---- heads

pub window_min : (n : ℕ) (tail : List ℕ) → take (min (length tail) n) tail ≡ take n tail
window_min n tail = ap (λ k. take k tail) (min_swap (length tail) n) ∙ take_min n tail
  where
    min_swap : (a b : ℕ) → min a b ≡ min b a
    min_swap a b = omega arith

windowed : (window bytes : List ℕ) → window ≡ take HEAD_BYTES bytes → window ++ drop HEAD_BYTES bytes ≡ bytes
windowed window bytes e = ap (λ x. x ++ drop HEAD_BYTES bytes) e ∙ take-append-drop HEAD_BYTES bytes

begins_there : (window bytes : List ℕ) (h : ResponseHead) (len : ℕ) → window ≡ take HEAD_BYTES bytes → len ≤ length window
    → BeginsHead window h (drop len window) → BeginsHead bytes h (drop len bytes)
begins_there window bytes h len e within b =
    subst (λ (x : List ℕ). BeginsHead x h (drop len x)) (windowed window bytes e) (begins_at window (drop HEAD_BYTES bytes) h len within b)

within_there : (window bytes : List ℕ) (len : ℕ) → window ≡ take HEAD_BYTES bytes → len ≤ length window → len ≤ length bytes
within_there window bytes len e within =
    omega (arith, within, length-append window (drop HEAD_BYTES bytes), ap length (windowed window bytes e))

pub interim_there : (window bytes : List ℕ) (fields : List HeaderSpan) (r : ResponseSpans) → HasResponseSpans window fields r
    → window ≡ take HEAD_BYTES bytes
    → is_interim r.code ≡ true → HasInterimHead bytes r.len
interim_there window bytes fields r s e interim = record {
  head = s.head;
  begins = begins_there window bytes s.head r.len e s.within s.begins;
  within = within_there window bytes r.len e s.within;
  some = s.some;
  interim = sym (ap is_interim s.status) ∙ interim;
}

frame_there : (window : List ℕ) (fields : List HeaderSpan) (r : ResponseSpans) (s : HasResponseSpans window fields r)
    → frame_behind r.code (map (header_bytes window) fields) ≡ response_frame s.head
frame_there window fields r s = ap (frame_behind r.code) s.fields_are ∙ ap (λ x. frame_behind x (response_fields s.head)) s.status

last_there : (window bytes : List ℕ) (fields : List HeaderSpan) (r : ResponseSpans) (ended : Bool) (v : AnswerState)
    (s : HasResponseSpans window fields r)
    → window ≡ take HEAD_BYTES bytes → is_interim r.code ≡ false → IsBehind ended s.head (drop r.len bytes) v → IsLast ended bytes v
last_there window bytes fields r ended v s e final behind = inr (record {
  head = s.head;
  tail = drop r.len bytes;
  begins = begins_there window bytes s.head r.len e s.within s.begins;
  last = sym (ap is_interim s.status) ∙ final;
  behind = behind;
})

pub too_long_there : (window bytes : List ℕ) (fields : List HeaderSpan) (r : ResponseSpans) (ended : Bool)
    → HasResponseSpans window fields r
    → window ≡ take HEAD_BYTES bytes → is_interim r.code ≡ false → frame_behind r.code (map (header_bytes window) fields) ≡ TooLong
    → IsLast ended bytes big
too_long_there window bytes fields r ended s e final is =
    last_there window bytes fields r ended big s e final
    (subst (λ (f : Frame). PassesLimit f (drop r.len bytes)) (sym is ∙ frame_there window fields r s) tt)

pub broken_there : (window bytes : List ℕ) (fields : List HeaderSpan) (r : ResponseSpans) (ended : Bool) → HasResponseSpans window fields r
    → window ≡ take HEAD_BYTES bytes → is_interim r.code ≡ false → frame_behind r.code (map (header_bytes window) fields) ≡ Broken
    → IsLast ended bytes bad
broken_there window bytes fields r ended s e final is =
    last_there window bytes fields r ended bad s e final
    (subst (λ (f : Frame). BreaksBody f (drop r.len bytes)) (sym is ∙ frame_there window fields r s) tt)

-- the parts of a head that is within the limits and of a sound framing
pub parts_there : (window bytes : List ℕ) (fields : List HeaderSpan) (r : ResponseSpans) (location : Option Span) (body : Body)
    → HasResponseSpans window fields r → window ≡ take HEAD_BYTES bytes → is_interim r.code ≡ false
    → frame_as body ≡ frame_behind r.code (map (header_bytes window) fields) → IfSome location (IsWithin (length window))
    → option_map (span_bytes window) location ≡ first_value (values_of (codes "location") (map (header_bytes window) fields))
    → HasAnswerHead bytes (parts_of r location body)
parts_there window bytes fields r location body s e final framed within located =
    let here : HasAnswerHead window (parts_of r location body) = record {
      head = s.head;
      begins = s.begins;
      within = s.within;
      last = sym (ap is_interim s.status) ∙ final;
      status = s.status;
      body = framed ∙ frame_there window fields r s;
      location_within = within;
      location = located ∙ ap (λ x. first_value (values_of (codes "location") x)) s.fields_are;
    } in
    subst (λ (x : List ℕ). HasAnswerHead x (parts_of r location body)) (windowed window bytes e)
    (head_grows window (drop HEAD_BYTES bytes) (parts_of r location body) here)

-- a head has some bytes
response_some : (h : ResponseHead) → 1 ≤ length (print_response h)
unfolding print_response
response_some h = simp length-append (omega arith)

section_in_response : (h : ResponseHead) → length (flat_map print_field h.fields) ≤ length (print_response h)
unfolding print_response
section_in_response h = simp length-append (omega arith)

pub spans_there : (window : List ℕ) (room : List HeaderSpan) (r : ResponseSpans) → length window ≤ HEAD_BYTES → r.headers ≤ HEAD_FIELDS
    → IsResponseWithin window room r → IsResponseOf window room r → HasResponseSpans window (take r.headers room) r
spans_there window room r short few within found =
    let count : length found.0.fields ≡ r.headers = count_of_fields window room r.headers found.0.fields within.section.count_fits
    found.1.fields in
    let len : r.len ≡ length (print_response found.0) = found.1.len in
    record {
      head = found.0;
      begins = record {
        reads = found.1.reads;
        short = omega (arith, len, short, within.section.len_fits);
        few =
            omega (arith, count, few);
      };
      within = within.section.len_fits;
      some = omega (arith, len, response_some found.0);
      status = found.1.code;
      fields_within = λ k d there. let x = within.section.headers_fit k d there in
          ((x.0.0, omega (arith, x.0.1, within.section.len_fits)), (x.1.0, omega (arith, x.1.1, within.section.len_fits)));
      fields_are = found.1.fields;
    }

pub many_there : (bytes window : List ℕ) (room : List HeaderSpan) (r : ResponseSpans) → window ≡ take HEAD_BYTES bytes
    → HEAD_FIELDS < r.headers
    → IsResponseWithin window room r → IsResponseOf window room r → HasManyFields bytes
many_there bytes window room r e many within found =
    let count : length found.0.fields ≡ r.headers = count_of_fields window room r.headers found.0.fields within.section.count_fits
    found.1.fields in
    record {
      head = found.0;
      tail = drop r.len window;
      reads = subst (λ (x : List ℕ). ReadsResponse x found.0 (drop r.len window)) e found.1.reads;
      many = omega (arith, count, many);
    }

-- so many fields as there are places don't fit into a head
no_room : (window : List ℕ) (room : ℕ) → FIELD_ROOM ≤ room → length window ≤ HEAD_BYTES → ResponseExceeds room window → ⊥
no_room window room many short exceeds =
    let h : ResponseHead = exceeds.3 in
    let front : List ℕ = exceeds.0 in
    let fields : 3 * length h.fields ≤ length (flat_map print_field h.fields) = fields_bytes h.fields exceeds.4.0.fields in
    let inside : length (flat_map print_field h.fields) ≤ length (print_response h) = section_in_response h in
    let printed : length (front ++ 10 ∷ []) ≡ length (print_response h ++ []) = ap length exceeds.4.1 in
    let all : length window ≡ length (front ++ exceeds.1) = ap length exceeds.2 in
    let over : room < length h.fields = exceeds.5 in
    absurd (omega (arith, length-append front (10 ∷ []), length-append (print_response h) [], length-append front exceeds.1))

-- bytes that the parser refuses never begin with a head
pub refused_is_never : (window : List ℕ) (room : ℕ) (e : Error) → FIELD_ROOM ≤ room → length window ≤ HEAD_BYTES
    → (e ≢ error.TooManyHeaders → NeverHasResponse window)
    → (◌≡◌ {A = Result (Status ResponseSpans) Error} (Err e) (Err error.TooManyHeaders) → ResponseExceeds room window)
    → NeverHasResponse window
refused_is_never window room e many short invalid too_many = elim (error_cases e) [
  | inl is ↦ absurd (no_room window room many short (too_many (ap (λ x. Err x) is)))
  | inr other ↦ invalid other
]

-- ---- the reader

-- another interim answer is passed
pub passed_interim : (bytes : List ℕ) (r : ResponseReader) (len : ℕ) → HasRead bytes r → HasInterimHead (drop r.passed bytes) len
    → (r.passed + len ≤ length bytes) × ((hs : List ResponseHead) × Interims bytes hs (drop (r.passed + len) bytes))
passed_interim bytes r len x i = (
  omega (arith, x.within, i.within, length-drop r.passed bytes),
  (
    x.interims ++ i.head ∷ [],
    subst (λ (y : List ℕ). Interims bytes (x.interims ++ i.head ∷ []) y) (drop-drop len r.passed bytes)
        (interims_push bytes x.interims (drop r.passed bytes) i.head (drop len (drop r.passed bytes)) x.passed i.interim i.begins),
  ),
)

-- a decoder that has passed nothing has passed nothing of any bytes
pub nothing_passed : (left : List ℕ) (o : Option AnswerParts) (d : Decoder) → o ≡ None → HasReadLast left o d → (any : List ℕ)
    → HasDecoded any d
nothing_passed left o d none x = subst (λ (y : Option AnswerParts). HasReadLast left y d) none x

pub head_there : (left : List ℕ) (o : Option AnswerParts) (p : AnswerParts) (d : Decoder) → o ≡ Some p → HasReadLast left o d
    → HasAnswerHead left p × HasDecoded (chunk_window left p) d
head_there left o p d some x = subst (λ (y : Option AnswerParts). HasReadLast left y d) some x

-- ---- what is heard

pub is_of : (bytes : List ℕ) (p : AnswerParts) (h : ResponseHead) (a : Answer) → HasAnswerHead bytes p
    → BeginsHead bytes h (drop p.len bytes)
    → a.status ≡ p.status → IsLocation (option_map (span_bytes bytes) p.location) a.location → IsOf h a
is_of bytes p h a x b status location =
    let same = response_unique bytes x.head h (drop p.len bytes) (drop p.len bytes) x.begins.reads b.reads in
    record {
      status = status ∙ x.status ∙ ap status_code same.0;
      location = subst (λ (y : Option (List ℕ)). IsLocation y a.location)
          (x.location ∙ ap (λ k. first_value (values_of (codes "location") (response_fields k))) same.0) location;
    }

-- ---- bodies

behind_head : (ended : Bool) (left : List ℕ) (p : AnswerParts) (v : AnswerState) (x : HasAnswerHead left p)
    → IsBehind ended x.head (drop p.len left) v
    → IsLast ended left v
behind_head ended left p v x behind = inr (record {
  head = x.head;
  tail = drop p.len left;
  begins = x.begins;
  last = x.last;
  behind =
      behind;
})

heard_last : (ended : Bool) (left : List ℕ) (p : AnswerParts) (body : List ℕ) (heard : Answer) (result : Result Bool ResponseFault)
    → HasAnswerHead left p
    → HoldsBody ended (frame_as p.body) (drop p.len left) body → IsHeard left p body heard result
    → IfSome (said_by heard result) (IsLast ended left)
heard_last ended left p body heard (Ok true) x holds is =
    let had = is x.head x.begins in
    behind_head ended left p (whole heard) x (
      had.0,
      subst (λ (f : Frame). HoldsBody ended f (drop p.len left) heard.body) x.body
          (subst (λ (y : List ℕ). HoldsBody ended (frame_as p.body) (drop p.len left) y) (sym had.1) holds),
    )
heard_last ended left p body heard (Ok false) x holds is = absurd is
heard_last ended left p body heard (Err fault.Malformed) x holds is = absurd is
heard_last ended left p body heard (Err fault.TooLarge) x holds is = absurd is
heard_last ended left p body heard (Err fault.Memory) x holds is = tt

are_said : (ended : Bool) (bytes : List ℕ) (r : ResponseReader) (said : Option AnswerState) → HasRead bytes r
    → IfSome said (IsLast ended (drop r.passed bytes))
    → IfSome said (AreAnswer ended bytes)
are_said ended bytes r None x last = tt
are_said ended bytes r (Some v) x last = are_last ended bytes r v x last

-- a whole body is heard
pub says_heard : (ended : Bool) (bytes : List ℕ) (r : ResponseReader) (p : AnswerParts) (body : List ℕ) (heard : Answer)
    (result : Result Bool ResponseFault)
    → HasRead bytes r → HasAnswerHead (drop r.passed bytes) p → HoldsBody ended (frame_as p.body) (drop p.len (drop r.passed bytes)) body
    → IsHeard (drop r.passed bytes) p body heard result → IfSome (said_by heard result) (AreAnswer ended bytes)
says_heard ended bytes r p body heard result x head holds is =
    are_said ended bytes r (said_by heard result) x (heard_last ended (drop r.passed bytes) p body heard result head holds is)

pub says_cut : (ended : Bool) (bytes : List ℕ) (r : ResponseReader) (p : AnswerParts) → HasRead bytes r
    → HasAnswerHead (drop r.passed bytes) p
    → CutsBody ended (frame_as p.body) (drop p.len (drop r.passed bytes)) → AreAnswer ended bytes cut
says_cut ended bytes r p x head cuts =
    are_last ended bytes r cut x (behind_head ended (drop r.passed bytes) p cut head
    (subst (λ (f : Frame). CutsBody ended f (drop p.len (drop r.passed bytes))) head.body cuts))

pub says_bad : (ended : Bool) (bytes : List ℕ) (r : ResponseReader) (p : AnswerParts) → HasRead bytes r
    → HasAnswerHead (drop r.passed bytes) p
    → BreaksBody (frame_as p.body) (drop p.len (drop r.passed bytes)) → AreAnswer ended bytes bad
says_bad ended bytes r p x head breaks =
    are_last ended bytes r bad x (behind_head ended (drop r.passed bytes) p bad head
    (subst (λ (f : Frame). BreaksBody f (drop p.len (drop r.passed bytes))) head.body breaks))

pub says_big : (ended : Bool) (bytes : List ℕ) (r : ResponseReader) (p : AnswerParts) → HasRead bytes r
    → HasAnswerHead (drop r.passed bytes) p
    → PassesLimit (frame_as p.body) (drop p.len (drop r.passed bytes)) → AreAnswer ended bytes big
says_big ended bytes r p x head passes =
    are_last ended bytes r big x (behind_head ended (drop r.passed bytes) p big head
    (subst (λ (f : Frame). PassesLimit f (drop p.len (drop r.passed bytes))) head.body passes))

-- ---- chunks

all_taken : (n : ℕ) (tail : List ℕ) → length tail ≤ length (take n tail) → (length tail ≤ n) × (take n tail ≡ tail)
all_taken n tail long =
    let within : length tail ≤ n = omega (arith, length-take n tail, long) in
    (within, take_all n tail within)

-- chunks that end where the bytes do are a whole body
pub chunks_held : (ended : Bool) (tail body : List ℕ) (n : ℕ) → DecodedIs (take CHUNKED_BYTES tail) body (decoded.Whole n) → n ≡ length tail
    → HoldsBody ended Chunked tail body
chunks_held ended tail body n d at =
    let all = all_taken CHUNKED_BYTES tail (omega (arith, d.1, at)) in
    let none : drop n (take CHUNKED_BYTES tail) ≡ [] = drop_all n (take CHUNKED_BYTES tail) (omega (arith, at, ap length all.1)) in
    record {
      reads = subst (λ (x : List ℕ). ReadsChunks x body []) all.1 (subst
          (λ (x : List ℕ). ReadsChunks (take CHUNKED_BYTES tail) body x) none d.0);
      fits = d.2;
      short = omega (arith, all.0);
    }

-- and where they end before it, bytes stand behind it
pub chunks_behind : (tail body : List ℕ) (n : ℕ) → DecodedIs (take CHUNKED_BYTES tail) body (decoded.Whole n) → (n ≡ length tail → ⊥)
    → HasMoreBehind tail
chunks_behind tail body n d other =
    let u : List ℕ = take CHUNKED_BYTES tail in
    record {
      body = body;
      rest = drop n u;
      reads = d.0;
      fits = d.2;
      more = λ none. let left : length (drop n u) ≡ 0 = ap length none in
          let at : n ≡ length u = omega (arith, left, length-drop n u, d.1) in
          elim (cases_lt CHUNKED_BYTES (length tail)) [
            | inl longer ↦ longer
            | inr short ↦ absurd (other (at ∙ ap length (take_all CHUNKED_BYTES tail short)))
          ];
    }

-- ---- the rest

sized_behind : (bodiless : Bool) (fields : List (List ℕ × List ℕ)) (n : ℕ)
    → (if bodiless then Sized 0 else frame_of_fields fields) ≡ Sized n → n ≤ BODY_BYTES
sized_behind true fields n e = let z : 0 ≡ n = cc (e) in omega arith
sized_behind false fields n e = sized_fits fields n e

-- an announced length is within the limit
pub length_fits : (left : List ℕ) (p : AnswerParts) (n : ℕ) → HasAnswerHead left p → frame_as p.body ≡ Sized n → n ≤ BODY_BYTES
length_fits left p n x is = sized_behind (is_bodiless (status_code x.head)) (response_fields x.head) n (sym x.body ∙ is)

pub keeps : (left : List ℕ) (o : Option AnswerParts) (p : AnswerParts) (d : Decoder) → o ≡ Some p → HasAnswerHead left p
    → HasDecoded (chunk_window left p) d
    → HasReadLast left o d
keeps left o p d some head decoded = subst (λ (y : Option AnswerParts). HasReadLast left y d) (sym some) (head, decoded)

pub says_came : (ended : Bool) (bytes : List ℕ) (r : ResponseReader) (heard : Answer) (f : ResponseFault) → HeadCame bytes r (Err f)
    → IfSome (said_by heard (Err f)) (AreAnswer ended bytes)
says_came ended bytes r heard fault.Malformed x = x ended
says_came ended bytes r heard fault.TooLarge x = x ended
says_came ended bytes r heard fault.Memory x = tt

pub from_nothing : (bytes : List ℕ) (r : ResponseReader) → HasRead bytes r → HasReadFront bytes r
from_nothing bytes r x = record { front = bytes; more = []; is = sym (append-nil bytes); read = x }
