-- What is written is the text of the request, and is read as it.
use Rattle.std.proofs.Common.{◌≡◌, ◌∙◌, ap, rules}
use Rattle.serde_json.specs.Read.{read}
use Rattle.serde_json.specs.Written.{compact_text}
use Rattle.grant_desk.specs.Requests.{request}
use Rattle.grant_desk.proofs.ReadLaws.{request_read}
use Rattle.grant_desk.proofs.requests.grant_body.Goals as goal

pub returns-clause-reads : goal.returns-clause-reads
returns-clause-reads c =
    let d = request c.args.vnfd.now c.args.holding.now c.args.who.now c.args.ask.now c.args.changes.now in
    let text : c.into_bytes.result ≡ compact_text d = search rules in (
      c.into_bytes.ensures.utf8,
      ap read text
          ∙ request_read c.args.vnfd.now c.args.holding.now c.args.who.now c.args.ask.now c.args.changes.now,
    )
