use Rattle.std.proofs.Common.{OnErr, List, ℕ, length, take, sym, ap, ◌∙◌, subst}
use Rattle.http_frames.specs.declared.TheConstants.{CHUNKED_BYTES}
use Rattle.http_frames.specs.Steps.{HasDecoded, HasMoreChunks}
use Rattle.http_wire.proofs.take.decode_held.Goals as goal

pub returns-clause-memory : goal.returns-clause-memory
returns-clause-memory c =
    subst (λ (x : List ℕ). OnErr c.decode.result (HasMoreChunks x (length c.decode.new.self.body.items)))
    (c.front.ensures ∙ ap (λ x. take CHUNKED_BYTES x) c.rest-tail.ensures) c.decode.ensures.memory

pub decode-requires : goal.decode-requires
decode-requires c =
    subst (λ (x : List ℕ). HasDecoded x c.args.decoder.now) (sym (c.front.ensures ∙ ap (λ x. take CHUNKED_BYTES x) c.rest-tail.ensures))
    c.requires.decoded
