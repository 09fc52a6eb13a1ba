use Rattle.std.proofs.Common.{[], refl, arith}
use Rattle.http_client.proofs.responses.ResponseReader.new.Goals as goal

pub returns : goal.returns
returns c = λ bytes. record {
  within = omega arith;
  interims = [];
  passed = refl;
  last = λ any. c.new-2.ensures any;
  lines =
      c.new-3.ensures _;
}
