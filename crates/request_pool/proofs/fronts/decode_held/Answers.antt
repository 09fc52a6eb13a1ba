use Rattle.std.proofs.Common.{List, ℕ, take, sym, ap, ◌∙◌, subst}
use Rattle.http_frames.specs.declared.TheConstants.{CHUNKED_BYTES}
use Rattle.http_frames.specs.Steps.{HasDecoded}
use Rattle.request_pool.proofs.fronts.decode_held.Goals as goal

pub decode-requires : goal.decode-requires
decode-requires c =
    subst (λ (x : List ℕ). HasDecoded x c.args.decoder.now) (sym (c.front_of.ensures ∙ ap (λ x. take CHUNKED_BYTES x) c.rest.ensures))
    c.requires.decoded
