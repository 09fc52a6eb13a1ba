-- Laws on taking a request out of the bytes of a connection.
use Rattle.std.proofs.Common.{◌≡◌, ℕ, ◌+◌, ◌-◌, ◌<◌, ◌≤◌, List, [], ◌∷◌, ◌++◌, length, take, drop, min, refl, sym, ap, ◌∙◌, subst, inl, ◌⊎◌}
use Rattle.std.proofs.Common.{arith, append_assoc, append-nil, length-append}
use Rattle.std.proofs.lemmas.List.{drop-drop, length-take, take-append-drop, take_all, length-take-le, length-drop, drop-append-le}
use Rattle.std.proofs.lemmas.List.{nil_from_length, take_min, take-append-le}
use Rattle.httparse.specs.Grammar.{print_request}
use Rattle.http_frames.specs.declared.TheConstants.{HEAD_BYTES, CHUNKED_BYTES, BODY_BYTES}
use Rattle.http_frames.specs.declared.framing.Frame.{Frame}
use Rattle.http_frames.specs.declared.framing.Frame.TheVariants as frames
use Rattle.http_frames.specs.declared.chunks.Decoder.{Decoder}
use Rattle.http_frames.specs.declared.head.Body.TheVariants as body
use Rattle.http_frames.specs.declared.head.HeadParts.{HeadParts}
use Rattle.http_frames.specs.declared.head.HeadReader.{HeadReader}
use Rattle.http_frames.specs.declared.head.Head.TheVariants as answer
use Rattle.http_frames.specs.Framing.{fields_of}
use Rattle.http_frames.specs.Heads.{HasHead, HeadIs, HasReadLines, AreWholeLines, frame_as}
use Rattle.http_frames.specs.Chunks.{ReadsChunks, ReadsChunked}
use Rattle.http_frames.specs.Answers.{ChunksCut, ChunksBad, ChunksMuch}
use Rattle.http_frames.specs.Steps.{HasDecoded, HasMoreChunks}
use Rattle.http_frames.specs.Messages.{HasBody, ReadsMessage, HasNoMessage, BeginsBad, BeginsBig, IsCut, StopsInTarget, IsLongTarget}
use Rattle.http_frames.proofs.ListLaws.{take_grows}
use Rattle.http_frames.proofs.FieldLaws.{sized_fits}
use Rattle.http_frames.proofs.HeadLaws.{head_grows, head_is_grows}
use Rattle.http_frames.proofs.DecodeLaws.{decoded_grows}
use Rattle.http_frames.proofs.GrowLaws.{message_more, chunked_within}
use Rattle.http_frames.proofs.MessageLaws.{bad_grows, big_grows, head_cut, sized_cut, chunked_cut, chunked_bad, chunked_much, chunked_long}
use Rattle.std.proofs.Common.{Bool, inr}
use Rattle.std.specs.Prelude.{◌||◌}
use Rattle.site_traits.specs.Counts.{Rose}
use Rattle.site_traits.specs.Door.{DoorState, DoorCounts, NoNextFault}
use Rattle.http_frames.specs.declared.chunks.Decoded.TheVariants as decoded
use Rattle.http_frames.specs.Steps.{DecodedIs}
use Rattle.http_wire.specs.declared.request.Request.{Request}
use Rattle.http_wire.specs.declared.request.WireFault.{WireFault}
use Rattle.http_wire.specs.declared.request.WireFault.TheVariants as fault
use Rattle.http_wire.specs.Intake.{IntakeState, TakesIn, OnlyReads, NeedsMore}
use Rattle.http_wire.specs.Wire.{bytes_of, window, FaultIs, HasParts, TakesRequest, OnlyTakesIn, WantsMemory}
use Rattle.http_wire.specs.Wire.WantsMemory.{to_read_on, for_chunks, for_request}

-- where no byte is left, the bytes are those that are held
pub all_held : (b : IntakeState) → b.door.conn.left ≡ [] → bytes_of b ≡ b.held
all_held b e = ap (λ x. b.held ++ x) e ∙ append-nil b.held

-- reading loses no byte
pub bytes_stay : (tells : Type 0) (a b : IntakeState) → TakesIn tells a b → tells → bytes_of b ≡ bytes_of a
bytes_stay tells a b t told =
    ap (λ x. x ++ b.door.conn.left) t.held ∙ append_assoc a.held t.more b.door.conn.left
    ∙ ap (λ x. a.held ++ x) (sym (t.door told).left)

-- a head that is held stays
pub head_stays : (tells : Type 0) (a b : IntakeState) (p : HeadParts) → TakesIn tells a b → HasHead a.held p → HasHead b.held p
head_stays tells a b p t h = subst (λ (x : List ℕ). HasHead x p) (sym t.held) (head_grows a.held t.more p h)

-- lines that are known stay
pub lines_stay : (tells : Type 0) (a b : IntakeState) (r : HeadReader) → TakesIn tells a b → HasReadLines a.held r → HasReadLines b.held r
lines_stay tells a b r t known = (
  omega (arith, known.0, ap length t.held, length-append a.held t.more),
  elim known.1 [
    | inl none ↦ inl none
    | inr lines ↦ inr (subst (λ (x : List ℕ). AreWholeLines x) (sym
        (ap (take r.passed) t.held ∙ take-append-le r.passed a.held t.more known.0)) lines)
  ],
)

-- ---- the head breaks off

pub no_byte : (b : IntakeState) → length b.held ≡ 0 → b.door.conn.left ≡ [] → bytes_of b ≡ []
no_byte b none e = all_held b e ∙ nil_from_length b.held none

-- what isn't a head yet needs more
pub head_needs_more : (held : List ℕ) → HeadIs held answer.More → NeedsMore held
head_needs_more [] more = inl refl
head_needs_more (b ∷ held) more = inr (head_cut (b ∷ held) (λ e. cc) more.0 more.1 more.2)

pub head_breaks_off : (b : IntakeState) → HeadIs b.held answer.More → (b.held ≡ [] → ⊥) → b.door.conn.left ≡ []
    → IsCut (bytes_of b) ⊎ StopsInTarget (bytes_of b)
head_breaks_off b more some e =
    subst (λ (x : List ℕ). IsCut x ⊎ StopsInTarget x) (sym (all_held b e)) (head_cut b.held some more.0 more.1 more.2)

pub malformed_grows : (b : IntakeState) → HeadIs b.held answer.Malformed → BeginsBad (bytes_of b)
malformed_grows b h = head_is_grows b.held b.door.conn.left answer.Malformed (λ e. cc) h

pub too_large_grows : (b : IntakeState) → HeadIs b.held answer.TooLarge → BeginsBig (bytes_of b) ⊎ IsLongTarget (bytes_of b)
too_large_grows b h = head_is_grows b.held b.door.conn.left answer.TooLarge (λ e. cc) h

-- ---- a body of a length

pub length_fits : (held : List ℕ) (p : HeadParts) (n : ℕ) → HasHead held p → p.body ≡ body.Sized n → p.len + n ≤ HEAD_BYTES + BODY_BYTES
length_fits held p n h is =
    let fits : n ≤ BODY_BYTES = sized_fits (fields_of h.head) n (sym h.body ∙ ap frame_as is) in
    omega (arith, h.short)

sized_is_cut : (held : List ℕ) (p : HeadParts) (n : ℕ) → HasHead held p → p.body ≡ body.Sized n → length held < p.len + n → IsCut held
sized_is_cut held p n h is missing =
    sized_cut held h.head (drop p.len held) n h.reads (omega (arith, h.len, h.short)) h.few (sym h.body ∙ ap frame_as is)
    (omega (arith, h.within, length-drop p.len held))

-- a body of which less is held than was announced needs more
pub sized_needs_more : (held : List ℕ) (p : HeadParts) (n : ℕ) → HasHead held p → p.body ≡ body.Sized n → length held < p.len + n
    → NeedsMore held
sized_needs_more held p n h is missing = inr (inl (sized_is_cut held p n h is missing))

pub sized_breaks_off : (b : IntakeState) (p : HeadParts) (n : ℕ) → HasHead b.held p → p.body ≡ body.Sized n → length b.held < p.len + n
    → b.door.conn.left ≡ [] → IsCut (bytes_of b) ⊎ StopsInTarget (bytes_of b)
sized_breaks_off b p n h is missing e = inl (subst (λ (x : List ℕ). IsCut x) (sym (all_held b e)) (sized_is_cut b.held p n h is missing))

pub sized_has_none : (held : List ℕ) (p : HeadParts) (n : ℕ) → HasHead held p → p.body ≡ body.Sized n → length held < p.len + n
    → HasNoMessage held
sized_has_none held p n h is missing = (sized_is_cut held p n h is missing).not_whole

pub sized_body : (held : List ℕ) (len n : ℕ) → len + n ≤ length held
    → HasBody (frames.Sized n) (drop len held) (take (len + n - len) (drop len held)) (drop (len + n) held)
sized_body held len n within =
    let width : len + n - len ≡ n = omega arith in
    let there : n ≤ length (drop len held) = omega (arith, length-drop len held) in (
      ap (λ k. length (take k (drop len held))) width ∙ length-take-le n (drop len held) there,
      sym (take-append-drop n (drop len held)) ∙ ap (λ k. take k (drop len held) ++ drop n (drop len held)) (sym width)
          ∙ ap (λ x. take (len + n - len) (drop len held) ++ x) (drop-drop n len held),
    )

pub sized_held : (held : List ℕ) (p : HeadParts) (n end : ℕ) (content : List ℕ) → p.body ≡ body.Sized n → end ≡ p.len + n
    → end ≤ length held
    → content ≡ take (end - p.len) (drop p.len held)
    → HasBody (frame_as p.body) (drop p.len held) content (drop end held) × (end ≤ length held)
sized_held held p n end content is place within items = (
  subst (λ (f : Frame). HasBody f (drop p.len held) content (drop end held)) (sym (ap frame_as is))
      (subst (λ (x : List ℕ). HasBody (frames.Sized n) (drop p.len held) x (drop end held)) (sym items)
      (subst (λ (k : ℕ). HasBody (frames.Sized n) (drop p.len held) (take (k - p.len) (drop p.len held)) (drop k held)) (sym place)
      (sized_body held p.len n (omega arith)))),
  within,
)

-- ---- a chunked body

pub window_min : (n : ℕ) (tail : List ℕ) → take (min (length tail) n) tail ≡ take n tail
window_min n tail = ap (λ k. take k tail) (min_swap (length tail) n) ∙ take_min n tail
  where
    min_swap : (a b : ℕ) → min a b ≡ min b a
    min_swap a b = omega arith

short_head : (held : List ℕ) (p : HeadParts) (h : HasHead held p) → length (print_request h.head) ≤ HEAD_BYTES
short_head held p h = omega (arith, h.len, h.short)

pub chunked_breaks : (b : IntakeState) (p : HeadParts) → HasHead b.held p → p.body ≡ body.Chunked → ChunksBad 0 (window b.held p)
    → BeginsBad (bytes_of b)
chunked_breaks b p h is bad = bad_grows b.held b.door.conn.left
    (chunked_bad b.held h.head (drop p.len b.held) h.reads (short_head b.held p h) h.few (sym h.body ∙ ap frame_as is) CHUNKED_BYTES
    (omega arith) bad)

pub chunked_overflows : (b : IntakeState) (p : HeadParts) → HasHead b.held p → p.body ≡ body.Chunked → ChunksMuch 0 (window b.held p)
    → BeginsBig (bytes_of b) ⊎ IsLongTarget (bytes_of b)
chunked_overflows b p h is much = inl (big_grows b.held b.door.conn.left
    (chunked_much b.held h.head (drop p.len b.held) h.reads (short_head b.held p h) h.few (sym h.body ∙ ap frame_as is) CHUNKED_BYTES much))

pub chunked_goes_on : (b : IntakeState) (p : HeadParts) → HasHead b.held p → p.body ≡ body.Chunked
    → CHUNKED_BYTES < length (drop p.len b.held)
    → ChunksCut 0 (window b.held p) → BeginsBig (bytes_of b) ⊎ IsLongTarget (bytes_of b)
chunked_goes_on b p h is over cut = inl (big_grows b.held b.door.conn.left
    (chunked_long b.held h.head (drop p.len b.held) h.reads (short_head b.held p h) h.few (sym h.body ∙ ap frame_as is) over cut))

chunked_is_cut : (n : ℕ) → n ≤ CHUNKED_BYTES → (held : List ℕ) (p : HeadParts) → HasHead held p → p.body ≡ body.Chunked
    → length (drop p.len held) ≤ n
    → ChunksCut 0 (take n (drop p.len held)) → IsCut held
chunked_is_cut n limit held p h is fits cut =
    chunked_cut held h.head (drop p.len held) h.reads (short_head held p h) h.few (sym h.body ∙ ap frame_as is) (omega arith)
    (subst (λ (x : List ℕ). ChunksCut 0 x) (take_all n (drop p.len held) fits) cut)

-- a chunked body that breaks off within its limit needs more
pub chunked_needs_more : (held : List ℕ) (p : HeadParts) → HasHead held p → p.body ≡ body.Chunked → length (drop p.len held) ≤ CHUNKED_BYTES
    → ChunksCut 0 (window held p) → NeedsMore held
chunked_needs_more held p h is fits cut = inr (inl (chunked_is_cut CHUNKED_BYTES (omega arith) held p h is fits cut))

pub chunked_breaks_off : (b : IntakeState) (held : List ℕ) (p : HeadParts) → HasHead held p → p.body ≡ body.Chunked
    → length (drop p.len held) ≤ CHUNKED_BYTES → ChunksCut 0 (window held p) → b.held ≡ held → b.door.conn.left ≡ []
    → IsCut (bytes_of b) ⊎ StopsInTarget (bytes_of b)
chunked_breaks_off b held p h is fits cut same e =
    inl (subst (λ (x : List ℕ). IsCut x) (sym (all_held b e ∙ same)) (chunked_is_cut CHUNKED_BYTES (omega arith) held p h is fits cut))

pub chunked_has_none : (held : List ℕ) (p : HeadParts) → HasHead held p → p.body ≡ body.Chunked → length (drop p.len held) ≤ CHUNKED_BYTES
    → ChunksCut 0 (window held p) → HasNoMessage held
chunked_has_none held p h is fits cut = (chunked_is_cut CHUNKED_BYTES (omega arith) held p h is fits cut).not_whole

pub chunked_whole : (held : List ℕ) (p : HeadParts) (at : ℕ) (content : List ℕ) → HasHead held p
    → ReadsChunks (window held p) content (drop at (window held p)) → at ≤ length (window held p) → length content ≤ BODY_BYTES
    → HasBody frames.Chunked (drop p.len held) content (drop (p.len + at) held) × (p.len + at ≤ length held)
chunked_whole held p at content h reads within short = (
  subst (λ (x : List ℕ). ReadsChunked (drop p.len held) content x) (drop-drop at p.len held)
      (chunked_within CHUNKED_BYTES at (drop p.len held) content (omega arith) reads within short),
  inside CHUNKED_BYTES within,
)
  where
    inside : (n : ℕ) → at ≤ length (take n (drop p.len held)) → p.len + at ≤ length held
    inside n within = omega (arith, within, h.within, length-take n (drop p.len held), length-drop p.len held)

pub window_grows : (tells : Type 0) (a b : IntakeState) (p : HeadParts) (d : Decoder) → TakesIn tells a b → HasHead a.held p
    → HasDecoded (window a.held p) d → HasDecoded (window b.held p) d
window_grows tells a b p d t h decoded =
    let tail : drop p.len b.held ≡ drop p.len a.held ++ t.more = ap (drop p.len) t.held ∙ drop-append-le p.len a.held t.more h.within in
    let grown = take_grows CHUNKED_BYTES (drop p.len a.held) t.more in
    subst (λ (x : List ℕ). HasDecoded x d) (sym (ap (take CHUNKED_BYTES) tail ∙ grown.1))
    (decoded_grows (window a.held p) grown.0 d.at d.body.items d.place decoded)

-- ---- a whole request

pub held_request : (held : List ℕ) (p : HeadParts) (content : List ℕ) (end : ℕ) (h : HasHead held p)
    → HasBody (frame_as p.body) (drop p.len held) content (drop end held)
    → ReadsMessage held (record { head = h.head; body = content }) (drop end held)
held_request held p content end h has = record {
  tail = drop p.len held;
  reads = h.reads;
  short = short_head held p h;
  few = h.few;
  body = subst (λ (f : Frame). HasBody f (drop p.len held) content (drop end held)) h.body has;
}

pub request_held : (b : IntakeState) (p : HeadParts) (content : List ℕ) (end : ℕ) (h : HasHead b.held p)
    → HasBody (frame_as p.body) (drop p.len b.held) content (drop end b.held)
    → ReadsMessage (bytes_of b) (record { head = h.head; body = content }) (drop end b.held ++ b.door.conn.left)
request_held b p content end h has =
    message_more b.held (record { head = h.head; body = content }) (drop end b.held) b.door.conn.left
    (held_request b.held p content end h has)

-- what a fault says of the bytes and of the counts, where none was counted before it
pub fault_since : (tells : Type 0) (a m b : IntakeState) (f : WireFault) → m.counts ≡ a.counts → FaultIs tells m b f → FaultIs tells a b f
fault_since tells a m b fault.Malformed same is = is
fault_since tells a m b fault.TooLarge same is = is
fault_since tells a m b fault.Unfinished same is = is
fault_since tells a m b fault.Read same is = (subst (λ (c : DoorCounts). Rose c.faults b.counts.faults) same is.0, is.1)
fault_since tells a m b fault.Memory same is = is

-- ---- want of memory

-- to read on
pub wants_to_read : (a b : IntakeState) → b ≡ a → NeedsMore a.held → WantsMemory b.held
wants_to_read a b same needs = subst (λ (i : IntakeState). WantsMemory i.held) (sym same) (to_read_on needs)

-- for a whole request
pub wants_request : (held : List ℕ) (p : HeadParts) (content : List ℕ) (end : ℕ) → HasHead held p
    → HasBody (frame_as p.body) (drop p.len held) content (drop end held) → WantsMemory held
wants_request held p content end h has = for_request (record { head = h.head; body = content }) (drop end held)
    (held_request held p content end h has)

-- for whole chunks
pub wants_chunks : (held : List ℕ) (p : HeadParts) (taken : ℕ) → HasHead held p → p.body ≡ body.Chunked
    → HasMoreChunks (window held p) taken → WantsMemory held
wants_chunks held p taken h is more = for_chunks p h is (more.0, more.1, more.2, omega (arith, more.3))

pub chunked_held : (held : List ℕ) (p : HeadParts) (n : ℕ) (content : List ℕ) → HasHead held p → p.body ≡ body.Chunked
    → DecodedIs (window held p) content (decoded.Whole n)
    → HasBody (frame_as p.body) (drop p.len held) content (drop (p.len + n) held) × (p.len + n ≤ length held)
chunked_held held p n content h is v =
    let whole = chunked_whole held p n content h v.0 v.1 v.2 in
    (subst (λ (f : Frame). HasBody f (drop p.len held) content (drop (p.len + n) held)) (sym (ap frame_as is)) whole.0, whole.1)

pub chunked_end_fits : (held : List ℕ) (p : HeadParts) (n : ℕ) → HasHead held p → n ≤ length (window held p)
    → p.len + n ≤ HEAD_BYTES + CHUNKED_BYTES
chunked_end_fits held p n h within = at CHUNKED_BYTES within
  where
    at : (k : ℕ) → n ≤ length (take k (drop p.len held)) → p.len + n ≤ HEAD_BYTES + k
    at k within = omega (arith, within, h.short, length-take k (drop p.len held))

-- what was read was read
pub only_takes : (tells : Type 0) (a b : IntakeState) → TakesIn tells a b → OnlyTakesIn tells a b
only_takes tells a b t = record { door = λ told. (t.more, t.door told); counts = t.counts; writes = t.writes }

pub only_takes_and_passes : (tells : Type 0) (a b d : IntakeState) → TakesIn tells a b → d.door ≡ b.door → d.counts ≡ b.counts
    → d.writes ≡ b.writes → OnlyTakesIn tells a d
only_takes_and_passes tells a b d t door counts writes = record {
  door = λ told. (t.more, subst (λ (x : DoorState). OnlyReads t.more a.door x) (sym door) (t.door told));
  counts = subst (λ (x : DoorCounts). NoNextFault a.counts x) (sym counts) t.counts;
  writes = writes ∙ t.writes;
}

pub takes_request : (tells : Type 0) (at_last : Bool) (a b d : IntakeState) (p : HeadParts) (content : List ℕ) (end : ℕ) (r : Request)
    → TakesIn tells a b → HasHead b.held p → HasBody (frame_as p.body) (drop p.len b.held) content (drop end b.held)
    → d.held ≡ drop end b.held → d.door ≡ b.door → HasParts b.held p content at_last r → TakesRequest tells at_last a d r
takes_request tells at_last a b d p content end r t h has held door parts = record {
  message = record { head = h.head; body = content };
  reads = λ told.
      let rest : drop end b.held ++ b.door.conn.left ≡ bytes_of d =
      ap (λ x. x ++ b.door.conn.left) (sym held) ∙ ap (λ (x : DoorState). d.held ++ x.conn.left) (sym door) in
      subst (λ (x : List ℕ). ReadsMessage (bytes_of a) (record { head = h.head; body = content }) x) rest
      (subst (λ (x : List ℕ). ReadsMessage x (record { head = h.head; body = content }) (drop end b.held ++ b.door.conn.left))
      (bytes_stay tells a b t told) (request_held b p content end h has));
  method = parts.method ∙ h.method;
  target = parts.target ∙ h.target;
  media = parts.media ∙ h.media;
  body = parts.body;
  last = parts.last ∙ ap (λ x. x || at_last) h.closes;
}
