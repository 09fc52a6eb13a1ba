use Rattle.http_frames.proofs.TargetLaws.{stops_two_ways, goes_on_two_ways}
use Rattle.http_frames.proofs.laws.targets_are_judged_at_their_end.Goals as goal

pub returns-clause-short : goal.returns-clause-short
returns-clause-short c = stops_two_ways

pub returns-clause-long : goal.returns-clause-long
returns-clause-long c = goes_on_two_ways
