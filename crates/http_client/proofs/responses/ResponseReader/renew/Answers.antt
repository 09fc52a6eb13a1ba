use Rattle.std.proofs.Common.{[], refl, arith}
use Rattle.http_client.proofs.responses.ResponseReader.renew.Goals as goal

pub returns : goal.returns
returns c = λ bytes. record {
  within = omega arith;
  interims = [];
  passed = refl;
  last = λ any. c.new.ensures any;
  lines =
      c.renew.ensures _;
}
