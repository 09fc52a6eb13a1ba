use Rattle.std.proofs.Common.{List, ℕ, ◌++◌, Option, Some, None, subst, sym}
use Rattle.http_frames.specs.declared.head.HeadParts.{HeadParts}
use Rattle.request_pool.specs.Fronts.{HasReadBody, HasReadFront}
use Rattle.request_pool.proofs.FrontLaws.{read_grows, found_body, unfound_body, head_needs}
use Rattle.request_pool.proofs.fronts.FrontReader.read.Goals as goal

pub returns-in-Some-clause-kept : goal.returns-in-Some-clause-kept
returns-in-Some-clause-kept c = λ more.
    read_grows c.args.bytes.now more _ (record {
      lines = c.requires.known.lines;
      body = subst (λ (h : Option HeadParts). HasReadBody c.args.bytes.now c.read_body.new.decoder h) (sym c.in-Some.is)
          ((found_body c.args.bytes.now c.args.self.now c.in-Some.head c.in-Some.is c.requires.known).0, c.read_body.ensures.kept);
    })

pub read_body-requires-in-Whole-clause-decoded : goal.read_body-requires-in-Whole-clause-decoded
read_body-requires-in-Whole-clause-decoded c = unfound_body c.args.bytes.now c.args.self.now c.in_default.is c.requires.known _

pub returns-in-Whole-clause-kept : goal.returns-in-Whole-clause-kept
returns-in-Whole-clause-kept c = λ more.
    read_grows c.args.bytes.now more _ (record { lines = c.in-Whole.ensures.kept; body = (c.in-Whole.ensures.head, c.read_body-in-Whole.ensures.kept) })

pub returns-in-More-clause-front : goal.returns-in-More-clause-front
returns-in-More-clause-front c = head_needs c.args.bytes.now c.in-More.ensures.head
