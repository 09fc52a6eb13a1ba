use Rattle.http_client.proofs.ReadingLaws.{says, says_came}
use Rattle.http_client.proofs.responses.ResponseReader.read.Goals as goal

pub returns-in-Ok-Some-clause-says : goal.returns-in-Ok-Some-clause-says
returns-in-Ok-Some-clause-says c = says _ _ _ c.read_body.ensures.is

pub returns-in-Ok-None-clause-says : goal.returns-in-Ok-None-clause-says
returns-in-Ok-None-clause-says c = let came = rw c.in-Ok-None.field-0-is at c.in-Ok-None.ensures.came in says _ _ _ (came c.args.ended)

pub returns-in-Err-clause-says : goal.returns-in-Err-clause-says
returns-in-Err-clause-says c = says _ _ _ (says_came c.args.ended c.args.bytes.now c.find_head.new.self c.args.heard.now c.in-Err.fault
    c.in-Err.ensures.came)
