-- Laws on heads and their places.
use Rattle.std.proofs.Common.{◌≡◌, ◌≢◌, ℕ, ◌+◌, ◌*◌, ◌-◌, ◌<◌, ◌≤◌, List, [], ◌∷◌, ◌++◌, length, take, drop, refl, sym, ap, ◌∙◌, subst, inl}
use Rattle.std.proofs.Common.{inr, ◌⊎◌, arith, length-append, Option, Some, None, Result, Err}
use Rattle.std.specs.Prelude.{All, option_map, IfSome}
use Rattle.std.specs.List.{flat_map}
use Rattle.std.proofs.lemmas.List.{take-append-le, drop-append-le, take-append-drop, length-take-le, length-drop, length-map}
use Rattle.std.proofs.lemmas.List.Elements.{All-head, All-tail}
use Rattle.httparse.specs.declared.Status.{Status}
use Rattle.httparse.specs.declared.Error.{Error}
use Rattle.httparse.specs.declared.Error.TheVariants as error
use Rattle.httparse.specs.declared.spans.Span.{Span}
use Rattle.httparse.specs.declared.spans.HeaderSpan.{HeaderSpan}
use Rattle.httparse.specs.declared.spans.RequestSpans.{RequestSpans}
use Rattle.httparse.specs.Grammar.{Field, IsField, LineEnd, crlf, lf, print_end, print_field, RequestHead, print_request, ReadsRequest}
use Rattle.httparse.specs.Grammar.{NeverHasRequest}
use Rattle.httparse.specs.Spans.{span_bytes, IsWithin, AreFieldsAt, header_bytes, name_and_value, RequestExceeds}
use Rattle.httparse.proofs.GrammarLemmas.{ReadsRequest-append}
use Rattle.http_frames.specs.declared.TheConstants.{HEAD_BYTES, FIELD_ROOM}
use Rattle.http_frames.specs.declared.head.HeadParts.{HeadParts}
use Rattle.http_frames.specs.declared.head.Head.{Head}
use Rattle.http_frames.specs.declared.head.Head.TheVariants as answer
use Rattle.http_frames.specs.Heads.{HasHead, HeadIs}
use Rattle.http_frames.specs.Messages.{BeginsBad}
use Rattle.http_frames.proofs.MessageLaws.{head_never, bad_grows, big_grows, target_grows}

-- a place covers the same bytes when more follow
pub span_grows : (bytes more : List ℕ) (s : Span) → IsWithin (length bytes) s → span_bytes (bytes ++ more) s ≡ span_bytes bytes s
span_grows bytes more s within =
    let enough : s.end - s.start ≤ length (drop s.start bytes) = omega (arith, length-drop s.start bytes, within.1) in
    ap (take (s.end - s.start)) (drop-append-le s.start bytes more (omega (arith, within.0, within.1)))
    ∙ take-append-le (s.end - s.start) (drop s.start bytes) more enough

within_grows : (bytes more : List ℕ) (s : Span) → IsWithin (length bytes) s → IsWithin (length (bytes ++ more)) s
within_grows bytes more s within = (within.0, omega (arith, within.1, length-append bytes more))

pub media_grows : (bytes more : List ℕ) (media : Option Span) → IfSome media (IsWithin (length bytes))
    → IfSome media (IsWithin (length (bytes ++ more))) × (option_map (span_bytes (bytes ++ more)) media
    ≡ option_map (span_bytes bytes) media)
media_grows bytes more None within = (within, refl)
media_grows bytes more (Some s) within = (within_grows bytes more s within, ap (λ x. Some x) (span_grows bytes more s within))

-- a head is there when more bytes follow
pub head_grows : (bytes more : List ℕ) (p : HeadParts) → HasHead bytes p → HasHead (bytes ++ more) p
head_grows bytes more p h =
    let media = media_grows bytes more p.media h.media_within in
    record {
      head = h.head;
      reads = subst (λ (x : List ℕ). ReadsRequest (bytes ++ more) h.head x) (sym (drop-append-le p.len bytes more h.within))
          (ReadsRequest-append bytes h.head (drop p.len bytes) more h.reads);
      len = h.len;
      within = omega (arith, h.within, length-append bytes more);
      short = h.short;
      few = h.few;
      body = h.body;
      method_within = within_grows bytes more p.method h.method_within;
      method = span_grows bytes more p.method h.method_within ∙ h.method;
      target_within = within_grows bytes more p.target h.target_within;
      target = span_grows bytes more p.target h.target_within ∙ h.target;
      media_within = media.0;
      media = media.1 ∙ h.media;
      closes = h.closes;
    }

-- but for `More` an answer holds when more bytes follow
pub head_is_grows : (bytes more : List ℕ) (a : Head) → (a ≡ answer.More → ⊥) → HeadIs bytes a → HeadIs (bytes ++ more) a
head_is_grows bytes more (answer.Whole p) other h = head_grows bytes more p h
head_is_grows bytes more answer.More other h = absurd (other refl)
head_is_grows bytes more answer.Malformed other h = bad_grows bytes more h
head_is_grows bytes more answer.TooLarge other (inl big) = inl (big_grows bytes more big)
head_is_grows bytes more answer.TooLarge other (inr target) = inr (target_grows bytes more target)

pub head_is_after_take : (n : ℕ) (bytes : List ℕ) (a : Head) → (a ≡ answer.More → ⊥) → HeadIs (take n bytes) a → HeadIs bytes a
head_is_after_take n bytes a other h =
    subst (λ (x : List ℕ). HeadIs x a) (take-append-drop n bytes) (head_is_grows (take n bytes) (drop n bytes) a other h)

-- there are as many fields as places
pub count_of_fields : (bytes : List ℕ) (room : List HeaderSpan) (n : ℕ) (fields : List Field) → n ≤ length room
    → AreFieldsAt bytes room n fields
    → length fields ≡ n
count_of_fields bytes room n fields fits at =
    sym (length-map fields name_and_value) ∙ sym (ap length at) ∙ length-map (take n room) (header_bytes bytes) ∙ length-take-le n room fits

end_bytes : (e : LineEnd) → 1 ≤ length (print_end e)
end_bytes crlf = omega arith
end_bytes lf = omega arith

field_bytes : (f : Field) → IsField f → 3 ≤ length (print_field f)
field_bytes f is =
    let end : 1 ≤ length (print_end f.end) = end_bytes f.end in
    let some : 0 < length f.name = is.name.0 in
    simp length-append (omega arith)

-- a field takes three bytes at least
pub fields_bytes : (fs : List Field) → All IsField fs → 3 * length fs ≤ length (flat_map print_field fs)
fields_bytes [] all = omega arith
fields_bytes (f ∷ fs) all =
    let here : 3 ≤ length (print_field f) = field_bytes f (All-head IsField f fs all) in
    let rest : 3 * length fs ≤ length (flat_map print_field fs) = fields_bytes fs (All-tail IsField f fs all) in
    let both : length (print_field f ++ flat_map print_field fs) ≡ length (print_field f) + length (flat_map print_field fs) =
    length-append (print_field f) (flat_map print_field fs) in
    omega arith

section_in_head : (h : RequestHead) → length (flat_map print_field h.fields) ≤ length (print_request h)
unfolding print_request
section_in_head h = simp length-append (omega arith)

-- so many fields as there are places don't fit into a head
no_room : (bytes : List ℕ) (room : ℕ) → FIELD_ROOM ≤ room → length bytes ≤ HEAD_BYTES → RequestExceeds room bytes → ⊥
no_room bytes room many short exceeds =
    let h : RequestHead = exceeds.3 in
    let front : List ℕ = exceeds.0 in
    let fields : 3 * length h.fields ≤ length (flat_map print_field h.fields) = fields_bytes h.fields exceeds.4.0.fields in
    let inside : length (flat_map print_field h.fields) ≤ length (print_request h) = section_in_head h in
    let printed : length (front ++ 10 ∷ []) ≡ length (print_request h ++ []) = ap length exceeds.4.1 in
    let whole : length bytes ≡ length (front ++ exceeds.1) = ap length exceeds.2 in
    let over : room < length h.fields = exceeds.5 in
    absurd (omega (arith, length-append front (10 ∷ []), length-append (print_request h) [], length-append front exceeds.1))

pub error_cases : (e : Error) → (e ≡ error.TooManyHeaders) ⊎ (e ≢ error.TooManyHeaders)
error_cases error.HeaderName = inr (λ x. cc)
error_cases error.HeaderValue = inr (λ x. cc)
error_cases error.NewLine = inr (λ x. cc)
error_cases error.Status = inr (λ x. cc)
error_cases error.Token = inr (λ x. cc)
error_cases error.TooManyHeaders = inl refl
error_cases error.Version = inr (λ x. cc)

-- bytes that the parser refuses are bad
pub refused_is_bad : (bytes : List ℕ) (room : ℕ) (e : Error) → FIELD_ROOM ≤ room → length bytes ≤ HEAD_BYTES
    → (e ≢ error.TooManyHeaders → NeverHasRequest bytes) → (◌≡◌ {A = Result (Status RequestSpans) Error} (Err e) (Err error.TooManyHeaders)
    → RequestExceeds room bytes) → BeginsBad bytes
refused_is_bad bytes room e many short invalid too_many = elim (error_cases e) [
  | inl is ↦ absurd (no_room bytes room many short (too_many (ap (λ x. Err x) is)))
  | inr other ↦ head_never bytes (invalid other) short
]
