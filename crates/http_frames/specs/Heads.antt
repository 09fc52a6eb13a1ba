-- What a reader of heads answers.
use Rattle.std.specs.Prelude.{◌≡◌, ℕ, ◌≤◌, ◌⊎◌, List, [], ◌∷◌, ◌++◌, length, take, drop, IfSome, option_map, All, map}
use Rattle.httparse.specs.Ascii.{line_feed}
use Rattle.httparse.specs.Grammar.{lf, RequestHead, print_request, ReadsRequest, HasNoRequest, MayBecomeRequest}
use Rattle.httparse.specs.declared.spans.HeaderSpan.{HeaderSpan}
use Rattle.httparse.specs.declared.spans.RequestSpans.{RequestSpans}
use Rattle.httparse.specs.Spans.{span_bytes, IsWithin, IsHeaderWithin, header_bytes}
use Rattle.http_frames.specs.declared.TheConstants.{HEAD_BYTES, HEAD_FIELDS}
use Rattle.http_frames.specs.declared.framing.Frame.{Frame}
use Rattle.http_frames.specs.declared.framing.Frame.TheVariants as frames
use Rattle.http_frames.specs.declared.head.Body.{Body}
use Rattle.http_frames.specs.declared.head.Body.TheVariants as body
use Rattle.http_frames.specs.declared.head.HeadParts.{HeadParts}
use Rattle.http_frames.specs.declared.head.Head.{Head}
use Rattle.http_frames.specs.declared.head.Head.TheVariants as answer
use Rattle.http_frames.specs.declared.head.HeadReader.{HeadReader}
use Rattle.http_frames.specs.Framing.{frame, fields_of, media, closes}
use Rattle.http_frames.specs.Messages.{BeginsBad, BeginsBig, IsLongTarget}

-- the framing of a request with such a body
abbrev pub frame_as : Body → Frame
frame_as body.Empty = frames.NoBody
frame_as (body.Sized n) = frames.Sized n
frame_as body.Chunked = frames.Chunked

-- the parser found a head at the front of the bytes, not too long and with not too many fields, and these are its
-- places
pub record HasSpans (bytes : List ℕ) (fields : List HeaderSpan) (r : RequestSpans) : Type 0 where
  pub head : RequestHead
  pub reads : ReadsRequest bytes head (drop r.len bytes)
  pub len : r.len ≡ length (print_request head)
  pub within : r.len ≤ length bytes
  pub short : r.len ≤ HEAD_BYTES
  pub few : length head.fields ≤ HEAD_FIELDS
  pub method_within : IsWithin (length bytes) r.method
  pub method : span_bytes bytes r.method ≡ head.method
  pub target_within : IsWithin (length bytes) r.path
  pub target : span_bytes bytes r.path ≡ head.target
  pub minor : r.version ≡ head.minor
  pub fields_within : All (IsHeaderWithin (length bytes)) fields
  pub fields_are : map (header_bytes bytes) fields ≡ fields_of head

-- the bytes begin with a head within the limits and of a sound framing, and these are its parts
pub record HasHead (bytes : List ℕ) (p : HeadParts) : Type 0 where
  pub head : RequestHead
  pub reads : ReadsRequest bytes head (drop p.len bytes)
  pub len : p.len ≡ length (print_request head)
  pub within : p.len ≤ length bytes
  pub short : p.len ≤ HEAD_BYTES
  pub few : length head.fields ≤ HEAD_FIELDS
  pub body : frame_as p.body ≡ frame head
  pub method_within : IsWithin (length bytes) p.method
  pub method : span_bytes bytes p.method ≡ head.method
  pub target_within : IsWithin (length bytes) p.target
  pub target : span_bytes bytes p.target ≡ head.target
  pub media_within : IfSome p.media (IsWithin (length bytes))
  pub media : option_map (span_bytes bytes) p.media ≡ media (fields_of head)
  pub closes : p.closes ≡ closes head

-- what the bytes begin with, by the answer
abbrev pub HeadIs : List ℕ → Head → Type 0
HeadIs bytes (answer.Whole p) = HasHead bytes p
HeadIs bytes answer.More = HasNoRequest bytes × MayBecomeRequest bytes × (length bytes ≤ HEAD_BYTES)
HeadIs bytes answer.Malformed = BeginsBad bytes
HeadIs bytes answer.TooLarge = BeginsBig bytes ⊎ IsLongTarget bytes

-- the bytes are a request line, with empty lines in front of it, and whole fields: with an empty line behind them they
-- are a head
pub record AreWholeLines (bytes : List ℕ) : Type 0 where
  pub head : RequestHead
  pub reads : ReadsRequest (bytes ++ line_feed ∷ []) head []
  pub last : head.last ≡ lf

-- the reader knows of no line, or of so many bytes at the front that they are whole lines
abbrev pub HasReadLines : List ℕ → HeadReader → Type 0
HasReadLines bytes r = (r.passed ≤ length bytes) × ((r.passed ≡ 0) ⊎ AreWholeLines (take r.passed bytes))
