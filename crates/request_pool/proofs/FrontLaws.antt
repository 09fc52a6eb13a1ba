-- Laws on what a client's bytes begin with.
use Rattle.std.proofs.Common.{◌≡◌, ℕ, ◌+◌, ◌-◌, ◌<◌, ◌≤◌, List, [], ◌++◌, length, take, drop, refl, sym, ap, ◌∙◌, subst, inl, inr, ◌⊎◌}
use Rattle.std.specs.Prelude.{IfSome, option_map}
use Rattle.httparse.specs.Spans.{IsWithin, span_bytes}
use Rattle.httparse.specs.declared.spans.Span.{Span}
use Rattle.std.proofs.Common.{arith, length-append, append_assoc, append-nil, Option, Some, None, Bool, true, false}
use Rattle.std.proofs.lemmas.List.{drop-append-le, take-append-le, take-append-drop, length-take-le, length-drop}
use Rattle.std.proofs.lemmas.Slice.{drop-append-drop}
use Rattle.http_frames.specs.declared.TheConstants.{HEAD_BYTES, CHUNKED_BYTES, BODY_BYTES}
use Rattle.http_frames.specs.declared.framing.Frame.{Frame}
use Rattle.http_frames.specs.declared.framing.Frame.TheVariants as frames
use Rattle.http_frames.specs.declared.head.Body.TheVariants as body
use Rattle.http_frames.specs.declared.head.HeadParts.{HeadParts}
use Rattle.http_frames.specs.declared.head.HeadReader.{HeadReader}
use Rattle.http_frames.specs.declared.chunks.Decoder.{Decoder}
use Rattle.http_frames.specs.declared.chunks.Decoded.TheVariants as decoded
use Rattle.http_frames.specs.Heads.{HasHead, HeadIs, HasReadLines, AreWholeLines, frame_as}
use Rattle.http_frames.specs.Steps.{HasDecoded, DecodedIs}
use Rattle.http_frames.specs.Messages.{HasBody, ReadsMessage, BeginsBad, BeginsBig, IsLongTarget}
use Rattle.http_frames.specs.Answers.{ChunksBad, ChunksMuch, ChunksCut}
use Rattle.http_frames.proofs.ListLaws.{take_grows}
use Rattle.http_frames.proofs.HeadLaws.{head_grows, span_grows, media_grows}
use Rattle.http_frames.proofs.DecodeLaws.{decoded_grows}
use Rattle.http_frames.proofs.MessageLaws.{chunked_bad, chunked_much, chunked_long, bad_grows, big_grows, target_grows}
use Rattle.http_frames.proofs.GrowLaws.{message_more, body_more}
use Rattle.http_wire.specs.Wire.{window}
use Rattle.http_wire.specs.Intake.{NeedsMore}
use Rattle.http_wire.proofs.TakeLaws.{held_request, sized_body, chunked_held, head_needs_more}
use Rattle.httparse.specs.Grammar.{print_request}
use Rattle.http_frames.specs.declared.head.Head.TheVariants as answer
use Rattle.request_pool.specs.declared.fronts.Place.{Place}
use Rattle.request_pool.specs.declared.fronts.FrontReader.{FrontReader}
use Rattle.request_pool.specs.declared.fronts.Front.{Front}
use Rattle.request_pool.specs.declared.fronts.Front.TheVariants as front
use Rattle.request_pool.specs.Fronts.{IsWholeAt, FrontIs, HasReadBody, HasReadFront}
use Rattle.request_pool.specs.Clients.{ClientState, IsOpened, KnowsFront, is_open, opened}
use Rattle.request_pool.specs.Gateway.{SaysNoClose, open_parts}

-- lines that are known stay known where more comes
pub lines_grow : (bytes more : List ℕ) (r : HeadReader) → HasReadLines bytes r → HasReadLines (bytes ++ more) r
lines_grow bytes more r known = (
  omega (arith, known.0, length-append bytes more),
  elim known.1 [
    | inl none ↦ inl none
    | inr lines ↦ inr (subst (λ (x : List ℕ). AreWholeLines x) (sym (take-append-le r.passed bytes more known.0)) lines)
  ],
)

-- so is what was decoded of a chunked body
pub window_grows : (bytes more : List ℕ) (p : HeadParts) (d : Decoder) → HasHead bytes p → HasDecoded (window bytes p) d
    → HasDecoded (window (bytes ++ more) p) d
window_grows bytes more p d h known =
    let tail : drop p.len (bytes ++ more) ≡ drop p.len bytes ++ more = drop-append-le p.len bytes more h.within in
    let grown = take_grows CHUNKED_BYTES (drop p.len bytes) more in
    subst (λ (x : List ℕ). HasDecoded x d) (sym (ap (take CHUNKED_BYTES) tail ∙ grown.1))
    (decoded_grows (window bytes p) grown.0 d.at d.body.items d.place known)

pub body_grows : (bytes more : List ℕ) (d : Decoder) (head : Option HeadParts) → HasReadBody bytes d head
    → HasReadBody (bytes ++ more) d head
body_grows bytes more d None known = known
body_grows bytes more d (Some p) known = (head_grows bytes more p known.0, window_grows bytes more p d known.0 known.1)

-- what was read of bytes stays so where more comes
pub read_grows : (bytes more : List ℕ) (r : FrontReader) → HasReadFront bytes r → HasReadFront (bytes ++ more) r
read_grows bytes more r known = record {
  lines = lines_grow bytes more r.lines known.lines;
  body = body_grows bytes more r.decoder r.head known.body;
}

-- a head and this body behind it are a whole request
pub whole_of : (bytes : List ℕ) (p : HeadParts) (content : List ℕ) (end : ℕ) → HasHead bytes p
    → HasBody (frame_as p.body) (drop p.len bytes) content (drop end bytes) → end ≤ length bytes → p.len ≤ end
    → IsWholeAt bytes (record { len = end; head = p })
whole_of bytes p content end h has within behind = record {
  head = h;
  message = record { head = h.head; body = content };
  reads = held_request bytes p content end h has;
  body = has;
  within = within;
  behind = behind;
  method = h.method;
  target = h.target;
  closes = h.closes;
}

-- a head with no body is a whole request
pub whole_empty : (bytes : List ℕ) (p : HeadParts) → HasHead bytes p → p.body ≡ body.Empty → IsWholeAt bytes (record { len = p.len; head = p })
whole_empty bytes p h is = whole_of bytes p [] p.len h
    (subst (λ (f : Frame). HasBody f (drop p.len bytes) [] (drop p.len bytes)) (sym (ap frame_as is)) (refl, refl)) h.within (omega arith)

-- a head and so many bytes behind it as it announces are a whole request
pub whole_sized : (bytes : List ℕ) (p : HeadParts) (n : ℕ) → HasHead bytes p → p.body ≡ body.Sized n → p.len + n ≤ length bytes
    → IsWholeAt bytes (record { len = p.len + n; head = p })
whole_sized bytes p n h is within = whole_of bytes p (take (p.len + n - p.len) (drop p.len bytes)) (p.len + n) h
    (subst (λ (f : Frame). HasBody f (drop p.len bytes) (take (p.len + n - p.len) (drop p.len bytes)) (drop (p.len + n) bytes))
    (sym (ap frame_as is)) (sized_body bytes p.len n within)) within (omega arith)

-- a head and a whole chunked body are a whole request
pub whole_chunked : (bytes : List ℕ) (p : HeadParts) (n : ℕ) (content : List ℕ) → HasHead bytes p → p.body ≡ body.Chunked
    → DecodedIs (window bytes p) content (decoded.Whole n) → IsWholeAt bytes (record { len = p.len + n; head = p })
whole_chunked bytes p n content h is v =
    let has = chunked_held bytes p n content h is v in
    whole_of bytes p content (p.len + n) h has.0 has.1 (omega arith)

short_head : (bytes : List ℕ) (p : HeadParts) (h : HasHead bytes p) → length (print_request h.head) ≤ HEAD_BYTES
short_head bytes p h = omega (arith, h.len, h.short)

pub chunked_breaks : (bytes : List ℕ) (p : HeadParts) → HasHead bytes p → p.body ≡ body.Chunked → ChunksBad 0 (window bytes p)
    → BeginsBad bytes
chunked_breaks bytes p h is bad = chunked_bad bytes h.head (drop p.len bytes) h.reads (short_head bytes p h) h.few
    (sym h.body ∙ ap frame_as is) CHUNKED_BYTES (omega arith) bad

pub chunked_overflows : (bytes : List ℕ) (p : HeadParts) → HasHead bytes p → p.body ≡ body.Chunked → ChunksMuch 0 (window bytes p)
    → BeginsBig bytes ⊎ IsLongTarget bytes
chunked_overflows bytes p h is much = inl (chunked_much bytes h.head (drop p.len bytes) h.reads (short_head bytes p h) h.few
    (sym h.body ∙ ap frame_as is) CHUNKED_BYTES much)

pub chunked_goes_on : (bytes : List ℕ) (p : HeadParts) → HasHead bytes p → p.body ≡ body.Chunked
    → CHUNKED_BYTES < length (drop p.len bytes) → ChunksCut 0 (window bytes p) → BeginsBig bytes ⊎ IsLongTarget bytes
chunked_goes_on bytes p h is over cut = inl (chunked_long bytes h.head (drop p.len bytes) h.reads (short_head bytes p h) h.few
    (sym h.body ∙ ap frame_as is) over cut)

-- a reader whose head is this has decoded so far
pub found_body : (bytes : List ℕ) (r : FrontReader) (p : HeadParts) → r.head ≡ Some p → HasReadFront bytes r
    → HasHead bytes p × HasDecoded (window bytes p) r.decoder
found_body bytes r p is known = subst (λ (h : Option HeadParts). HasReadBody bytes r.decoder h) is known.body

-- a reader that found no head yet has a decoder that passed nothing
pub unfound_body : (bytes : List ℕ) (r : FrontReader) → (r.head ≡ None) → HasReadFront bytes r → (any : List ℕ) → HasDecoded any r.decoder
unfound_body bytes r is known = subst (λ (h : Option HeadParts). HasReadBody bytes r.decoder h) is known.body

pub head_needs : (bytes : List ℕ) → HeadIs bytes answer.More → NeedsMore bytes
head_needs bytes more = head_needs_more bytes more

-- a whole request stays one where more comes
pub whole_grows : (bytes more : List ℕ) (p : Place) → IsWholeAt bytes p → IsWholeAt (bytes ++ more) p
whole_grows bytes more p w = record {
  head = head_grows bytes more p.head w.head;
  message = w.message;
  reads = subst (λ (x : List ℕ). ReadsMessage (bytes ++ more) w.message x) (sym (drop-append-le p.len bytes more w.within))
      (message_more bytes w.message (drop p.len bytes) more w.reads);
  body = subst (λ (x : List ℕ). HasBody (frame_as p.head.body) (drop p.head.len (bytes ++ more)) w.message.body x)
      (sym (drop-append-le p.len bytes more w.within))
      (subst (λ (x : List ℕ). HasBody (frame_as p.head.body) x w.message.body (drop p.len bytes ++ more))
      (sym (drop-append-le p.head.len bytes more w.head.within))
      (body_more (frame_as p.head.body) (drop p.head.len bytes) w.message.body (drop p.len bytes) more w.body));
  within = omega (arith, w.within, length-append bytes more);
  behind = w.behind;
  method = span_grows bytes more p.head.method w.head.method_within ∙ w.method;
  target = span_grows bytes more p.head.target w.head.target_within ∙ w.target;
  closes = w.closes;
}

-- what bytes begin with that isn't open stays so where more comes
pub known_grows : (bytes more : List ℕ) (f : Option Front) → is_open f ≡ false → KnowsFront bytes f → KnowsFront (bytes ++ more) f
known_grows bytes more None closed known = tt
known_grows bytes more (Some front.Part) closed known = cc
known_grows bytes more (Some (front.Whole p)) closed known = whole_grows bytes more p known
known_grows bytes more (Some front.Malformed) closed known = bad_grows bytes more known
known_grows bytes more (Some front.TooLarge) closed known = elim known [
  | inl big ↦ inl (big_grows bytes more big)
  | inr target ↦ inr (target_grows bytes more target)
]

-- what was read of bytes that have grown, of these bytes themselves
pub read_now : (bytes : List ℕ) (r : FrontReader) → ((more : List ℕ) → HasReadFront (bytes ++ more) r) → HasReadFront bytes r
read_now bytes r known = subst (λ (x : List ℕ). HasReadFront x r) (append-nil bytes) (known [])

-- where the head of a whole request is written over so that it asks for no end, the request is whole as before
pub opened_whole : (bytes head : List ℕ) (p : Place) (w : IsWholeAt bytes p) → SaysNoClose (take p.head.len bytes) p.head head
    → IsWholeAt (head ++ drop (length head) bytes) (opened p)
opened_whole bytes head p w over =
    let long : length head ≡ p.head.len = over.as_long ∙ length-take-le p.head.len bytes w.head.within in
    let new : List ℕ = head ++ drop (length head) bytes in
    let has = head_grows head (drop (length head) bytes) (open_parts p.head) over.head in
    let behind : drop p.head.len new ≡ drop p.head.len bytes =
    drop-append-drop (length head) bytes head p.head.len (omega (arith, long)) refl in
    let last : drop p.len new ≡ drop p.len bytes =
    drop-append-drop (length head) bytes head p.len (omega (arith, long, w.behind)) refl in
    whole_of new (open_parts p.head) w.message.body p.len has
    (subst (λ (x : List ℕ). HasBody (frame_as p.head.body) (drop p.head.len new) w.message.body x) (sym last)
    (subst (λ (x : List ℕ). HasBody (frame_as p.head.body) x w.message.body (drop p.len bytes)) (sym behind) w.body))
    (omega (arith, w.within, length-append head (drop (length head) bytes), length-drop (length head) bytes, long, w.head.within))
    w.behind

-- what a client's bytes are known to begin with, where that is a whole request
pub whole_known : (p : Place) (s : ClientState) → s.front ≡ Some (front.Whole p) → KnowsFront s.held s.front → IsWholeAt s.held p
whole_known p s is known = subst (λ (f : Option Front). KnowsFront s.held f) is known

-- the client whose first request's head is written over
abbrev pub with_head : List ℕ → Place → ClientState → ClientState
with_head head p s = record s { held = head ++ drop (length head) s.held; front = Some (front.Whole (opened p)) }

-- a part of a front of bytes is that part of all of them
span_of_front : (bytes front : List ℕ) (n : ℕ) (part : Span) → length front ≡ length (take n bytes) → IsWithin (length front) part
    → span_bytes (take n bytes) part ≡ span_bytes bytes part
span_of_front bytes front n part same within =
    sym (span_grows (take n bytes) (drop n bytes) part (subst (λ (k : ℕ). IsWithin k part) same within))
    ∙ ap (λ x. span_bytes x part) (take-append-drop n bytes)

media_of_front : (bytes front : List ℕ) (n : ℕ) (media : Option Span) → length front ≡ length (take n bytes)
    → IfSome media (IsWithin (length front)) → option_map (span_bytes (take n bytes)) media ≡ option_map (span_bytes bytes) media
media_of_front bytes front n media same within =
    sym (media_grows (take n bytes) (drop n bytes) media (subst (λ (k : ℕ). IfSome media (IsWithin k)) same within)).1
    ∙ ap (λ x. option_map (span_bytes x) media) (take-append-drop n bytes)

-- it is as before, but that this request doesn't ask for the end of the connection
pub is_opened : (p : Place) (s : ClientState) (head : List ℕ) → IsWholeAt s.held p → SaysNoClose (take p.head.len s.held) p.head head
    → IsOpened p s (with_head head p s)
is_opened p s head w over =
    let long : length head ≡ p.head.len = over.as_long ∙ length-take-le p.head.len s.held w.head.within in
    let rest = drop (length head) s.held in record {
      as_long = omega (arith, w.head.within, long, length-append head rest, length-drop (length head) s.held);
      behind = drop-append-drop (length head) s.held head p.head.len (omega (arith, long)) refl;
      begins = refl;
      whole = opened_whole s.held head p w over;
      method = span_grows head rest p.head.method over.head.method_within ∙ over.method
          ∙ span_of_front s.held head p.head.len p.head.method over.as_long over.head.method_within;
      target = span_grows head rest p.head.target over.head.target_within ∙ over.target
          ∙ span_of_front s.held head p.head.len p.head.target over.as_long over.head.target_within;
      media = (media_grows head rest p.head.media over.head.media_within).1 ∙ over.media
          ∙ media_of_front s.held head p.head.len p.head.media over.as_long over.head.media_within;
      role = refl;
      out = refl;
      requests = refl;
      closing = refl;
    }

-- so is a client that has these fields
pub opened_as : (p : Place) (v s new : ClientState) (head : List ℕ) → v ≡ s → s.front ≡ Some (front.Whole p) → KnowsFront v.held v.front
    → SaysNoClose (take p.head.len s.held) p.head head → new.held ≡ head ++ drop (length head) v.held
    → new.front ≡ Some (front.Whole (opened p)) → new.role ≡ v.role → new.out ≡ v.out → new.requests ≡ v.requests → new.closing ≡ v.closing
    → IsOpened p s new
opened_as p v s new head vs is known over held begins role out requests closing =
    let w : IsWholeAt s.held p = whole_known p s is (subst (λ (x : ClientState). KnowsFront x.held x.front) vs known) in
    let o = is_opened p s head w over in
    let same : new.held ≡ head ++ drop (length head) s.held =
    held ∙ ap (λ (x : ClientState). head ++ drop (length head) x.held) vs in record {
      as_long = ap length same ∙ o.as_long;
      behind = ap (drop p.head.len) same ∙ o.behind;
      begins = begins;
      whole = subst (λ (x : List ℕ). IsWholeAt x (opened p)) (sym same) o.whole;
      method = ap (λ x. span_bytes x p.head.method) same ∙ o.method;
      target = ap (λ x. span_bytes x p.head.target) same ∙ o.target;
      media = ap (λ x. option_map (span_bytes x) p.head.media) same ∙ o.media;
      role = role ∙ ap (λ (x : ClientState). x.role) vs;
      out = out ∙ ap (λ (x : ClientState). x.out) vs;
      requests = requests ∙ ap (λ (x : ClientState). x.requests) vs;
      closing = closing ∙ ap (λ (x : ClientState). x.closing) vs;
    }

-- parts that are the same one by one are the same
pub parts_same : (a b : HeadParts) → a.len ≡ b.len → a.method ≡ b.method → a.target ≡ b.target → a.media ≡ b.media → a.body ≡ b.body
    → a.closes ≡ b.closes → a ≡ b
parts_same a b len method target media body closes =
    ap (λ x. record a { len = x }) len
    ∙ ap (λ x. record a { len = b.len; method = x }) method
    ∙ ap (λ x. record a { len = b.len; method = b.method; target = x }) target
    ∙ ap (λ x. record a { len = b.len; method = b.method; target = b.target; media = x }) media
    ∙ ap (λ x. record b { body = x; closes = a.closes }) body
    ∙ ap (λ x. record b { closes = x }) closes
