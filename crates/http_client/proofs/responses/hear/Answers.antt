use Rattle.std.proofs.Common.{List, ℕ, Option, sym, ◌∙◌, subst}
use Rattle.std.specs.Prelude.{option_map}
use Rattle.httparse.specs.Spans.{span_bytes}
use Rattle.http_client.specs.Responses.{IsLocation}
use Rattle.http_client.proofs.ReadingLaws.{is_of}
use Rattle.http_client.proofs.responses.hear.Goals as goal

pub returns-in-Ok : goal.returns-in-Ok
returns-in-Ok c = λ h b.
    let location = subst (λ (x : Option (List ℕ)). IsLocation (option_map (span_bytes c.args.bytes.now) c.args.parts.location) x)
    (sym (c.hear.ensures.location ∙ c.as_ref.ensures.value)) c.in-Ok.ensures in
    (is_of c.args.bytes.now c.args.parts h c.hear.new.self c.requires.head b c.hear.ensures.status location, c.hear.ensures.body)
