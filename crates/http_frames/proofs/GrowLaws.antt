-- A whole request stays one when more bytes follow.
use Rattle.std.proofs.Common.{◌≡◌, ℕ, ◌≤◌, List, ◌∷◌, ◌++◌, length, take, drop, sym, ap, ◌∙◌, subst, arith, append_assoc, length-append}
use Rattle.std.proofs.lemmas.List.{take-append-drop, length-drop, drop-append-le, length-take}
use Rattle.httparse.proofs.ChunkLemmas.{ReadsChunkLine-append}
use Rattle.httparse.proofs.GrammarLemmas.{ReadsRequest-append}
use Rattle.http_frames.specs.declared.TheConstants.{BODY_BYTES, CHUNKED_BYTES}
use Rattle.http_frames.specs.declared.framing.Frame.{Frame}
use Rattle.http_frames.specs.declared.framing.Frame.TheVariants.{NoBody, Sized, Chunked, TooLong, Broken}
use Rattle.http_frames.specs.Chunks.{ReadsTrailer, ReadsChunks, ReadsChunked}
use Rattle.http_frames.specs.Messages.{Message, HasBody, ReadsMessage}
use Rattle.http_frames.proofs.DecodeLaws.{chunks_grow, lines_grow}

pub trailer_more : (bytes rest more : List ℕ) → ReadsTrailer bytes rest → ReadsTrailer (bytes ++ more) (rest ++ more)
trailer_more bytes rest more t = record {
  lines = t.lines;
  left = t.left ++ more;
  passed = lines_grow bytes more t.lines t.left t.passed;
  last = t.last;
  is_empty = t.is_empty;
  ends = ap (λ x. x ++ more) t.ends ∙ append_assoc t.last (10 ∷ rest) more;
}

pub chunks_more : (bytes body rest more : List ℕ) → ReadsChunks bytes body rest → ReadsChunks (bytes ++ more) body (rest ++ more)
chunks_more bytes body rest more c = record {
  chunks = c.chunks;
  left = c.left ++ more;
  passed = chunks_grow bytes more c.chunks c.left c.passed;
  line = c.line;
  trailer = c.trailer ++ more;
  last = ReadsChunkLine-append c.left c.line c.trailer more c.last;
  zero = c.zero;
  ends = trailer_more c.trailer rest more c.ends;
  content = c.content;
}

pub body_more : (f : Frame) (bytes body rest more : List ℕ) → HasBody f bytes body rest → HasBody f (bytes ++ more) body (rest ++ more)
body_more NoBody bytes body rest more h = (h.0, ap (λ x. x ++ more) h.1)
body_more (Sized n) bytes body rest more h = (h.0, ap (λ x. x ++ more) h.1 ∙ append_assoc body rest more)
body_more Chunked bytes body rest more h = record {
  reads = chunks_more bytes body rest more h.reads;
  fits = h.fits;
  short = omega (arith, h.short, length-append bytes more, length-append rest more);
}
body_more TooLong bytes body rest more h = h
body_more Broken bytes body rest more h = h

pub message_more : (bytes : List ℕ) (m : Message) (rest more : List ℕ) → ReadsMessage bytes m rest
    → ReadsMessage (bytes ++ more) m (rest ++ more)
message_more bytes m rest more w = record {
  tail = w.tail ++ more;
  reads = ReadsRequest-append bytes m.head w.tail more w.reads;
  short = w.short;
  few = w.few;
  body = body_more _ w.tail m.body rest more w.body;
}

-- a chunked body that is whole within the limit of its framing
pub chunked_within : (n at : ℕ) (tail body : List ℕ) → n ≤ CHUNKED_BYTES → ReadsChunks (take n tail) body (drop at (take n tail))
    → at ≤ length (take n tail)
    → length body ≤ BODY_BYTES → ReadsChunked tail body (drop at tail)
chunked_within n at tail body fits reads within short =
    let whole : take n tail ++ drop n tail ≡ tail = take-append-drop n tail in
    let rest : drop at (take n tail) ++ drop n tail ≡ drop at tail =
    sym (drop-append-le at (take n tail) (drop n tail) within) ∙ ap (drop at) whole in
    record {
      reads = subst (λ (x : List ℕ). ReadsChunks tail body x) rest
          (subst (λ (x : List ℕ). ReadsChunks x body (drop at (take n tail) ++ drop n tail)) whole
          (chunks_more (take n tail) body (drop at (take n tail)) (drop n tail) reads));
      fits = short;
      short = omega (arith, length-drop at tail, length-take n tail, within, fits);
    }
