use Rattle.std.proofs.Common.{◌≡◌, ◌-◌, length, None}
use Rattle.http_client.specs.Reading.{HasRead}
use Rattle.http_client.proofs.responses.ResponseReader.find_head.Given as goal

abbrev pub invariant-heads : goal.invariant-heads
invariant-heads l = HasRead l.bytes l.self × (l.self.head ≡ None)

abbrev pub decreases-heads : goal.decreases-heads
decreases-heads l = length l.bytes - l.self.passed
