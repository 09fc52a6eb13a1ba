use Rattle.std.proofs.Common.{◌≡◌, ◌∙◌, ℕ, length, subst, arith}
use Rattle.http_frames.specs.Heads.{HasHead}
use Rattle.http_frames.specs.declared.head.HeadParts.{HeadParts}
use Rattle.request_pool.proofs.gateway.is_same_but_open.Goals as goal

pub returns : goal.returns
returns c = λ told. record {
  as_long = omega arith;
  head = subst (λ (p : HeadParts). HasHead c.args.over.now p) (c.is_open_form.ensures c.if-not-is_open_form.false) c.in-Whole.ensures;
  method = c.is_same_part.ensures c.if-not-is_same_part.false;
  target = c.is_same_part-2.ensures c.if-not-is_same_part-2.false;
  media = c.is_same_media.ensures told;
}
