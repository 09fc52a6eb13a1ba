-- What a gateway writes over in a request's head (RFC 9110 7.6.1, Connection).
use Rattle.std.specs.Prelude.{◌≡◌, ℕ, List, length, false, option_map}
use Rattle.httparse.specs.Spans.{span_bytes}
use Rattle.http_frames.specs.Heads.{HasHead}
use Rattle.http_frames.specs.declared.head.HeadParts.{HeadParts}

-- the parts of a head that doesn't ask for the end of the connection
abbrev pub open_parts : HeadParts → HeadParts
open_parts p = record p { closes = false }

-- as many bytes, a head with the same parts but that it doesn't ask for the end of the connection: its method, target
-- and media type are what they were, and so is what it announces of a body
pub record SaysNoClose (old : List ℕ) (p : HeadParts) (new : List ℕ) : Type 0 where
  pub as_long : length new ≡ length old
  pub head : HasHead new (open_parts p)
  pub method : span_bytes new p.method ≡ span_bytes old p.method
  pub target : span_bytes new p.target ≡ span_bytes old p.target
  pub media : option_map (span_bytes new) p.media ≡ option_map (span_bytes old) p.media
