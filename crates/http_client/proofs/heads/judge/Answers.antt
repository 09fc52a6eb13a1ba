use Rattle.std.proofs.Common.{◌≡◌, map, sym, ap, ◌∙◌}
use Rattle.httparse.specs.Spans.{header_bytes}
use Rattle.http_frames.specs.Heads.{frame_as}
use Rattle.http_client.specs.Responses.{frame_behind}
use Rattle.http_client.proofs.ReadingLaws.{interim_there, too_long_there, broken_there, parts_there}
use Rattle.http_client.proofs.heads.judge.Goals.{in-NoBody, in-Sized, in-Chunked}
use Rattle.http_client.proofs.heads.judge.Goals as goal

pub returns-then-is_interim : goal.returns-then-is_interim
returns-then-is_interim c = λ bytes e. interim_there c.args.window.now bytes c.args.fields.now c.args.head c.requires e
    (sym c.is_interim.ensures ∙ c.if-is_interim.true)

pub returns-in-TooLong : goal.returns-in-TooLong
returns-in-TooLong c = λ bytes e ended.
    too_long_there c.args.window.now bytes c.args.fields.now c.args.head ended c.requires e
    (sym c.is_interim.ensures ∙ c.if-is_interim.false)
    (sym c.frame_of.ensures ∙ c.in-TooLong.is)

pub returns-in-Broken : goal.returns-in-Broken
returns-in-Broken c = λ bytes e ended.
    broken_there c.args.window.now bytes c.args.fields.now c.args.head ended c.requires e (sym c.is_interim.ensures ∙ c.if-is_interim.false)
    (sym c.frame_of.ensures ∙ c.in-Broken.is)

pub returns : goal.returns
returns c = λ bytes e.
    let framed : frame_as c.match-frame_of.body ≡ frame_behind c.args.head.code (map (header_bytes c.args.window.now) c.args.fields.now) =
    elim c.match-frame_of.branch [
      | in-NoBody w ↦ ap frame_as w.body-is ∙ sym w.in-NoBody.is ∙ c.frame_of.ensures
      | in-Sized w ↦ ap frame_as w.body-is ∙ sym w.in-Sized.is ∙ c.frame_of.ensures
      | in-Chunked w ↦ ap frame_as w.body-is ∙ sym w.in-Chunked.is ∙ c.frame_of.ensures
    ] in
    parts_there c.args.window.now bytes c.args.fields.now c.args.head c.first_named.result c.match-frame_of.body c.requires e
    (sym c.is_interim.ensures ∙ c.if-is_interim.false) framed c.first_named.ensures.within c.first_named.ensures.value
