use Rattle.std.proofs.Common.{◌+◌, List, ℕ, Option, drop, sym, subst}
use Rattle.http_client.specs.declared.heads.AnswerParts.{AnswerParts}
use Rattle.http_client.specs.Responses.{IsLast, bad, big}
use Rattle.http_client.specs.Reading.{HasAnswerHead, HasInterimHead, HasReadLast, HasReadLines}
use Rattle.http_client.proofs.ReadingLaws.{read_on, are_last, nothing_passed, passed_interim}
use Rattle.http_client.proofs.responses.ResponseReader.find_head.Goals as goal

pub returns-in-Some-clause-kept : goal.returns-in-Some-clause-kept
returns-in-Some-clause-kept c = read_on c.args.bytes.now c.args.self.now c.requires

pub heads-init : goal.heads-init
heads-init c = (read_on c.args.bytes.now c.args.self.now c.requires, c.in_default.is)

pub returns-in-Whole-clause-kept : goal.returns-in-Whole-clause-kept
returns-in-Whole-clause-kept c =
    let x = c.heads.invariant.0 in
    let head = subst (λ (y : List ℕ). HasAnswerHead y c.in-Whole.parts) c.rest-left.ensures c.in-Whole.ensures.head in
    record {
      within = x.within;
      interims = x.interims;
      passed = x.passed;
      lines = subst (λ (y : List ℕ). HasReadLines y c.read.new.self) c.rest-left.ensures c.read.ensures.kept;
      last = (head, nothing_passed _ c.heads.self.head c.heads.self.decoder c.heads.invariant.1 x.last _);
    }

pub heads-preserved : goal.heads-preserved
heads-preserved c =
    let x = c.heads.invariant.0 in
    let head = subst (λ (y : List ℕ). HasInterimHead y c.in-Interim.len) c.rest-left.ensures c.in-Interim.ensures.head in
    let passed = passed_interim c.args.bytes.now c.heads.self c.in-Interim.len x head in (
      record {
        within = passed.0;
        interims = passed.1.0;
        passed = passed.1.1;
        lines = c.renew.ensures _;
        last = subst (λ (y : Option AnswerParts). HasReadLast (drop (c.heads.self.passed + c.in-Interim.len) c.args.bytes.now) y
            c.heads.self.decoder) (sym c.heads.invariant.1)
            (nothing_passed _ c.heads.self.head c.heads.self.decoder c.heads.invariant.1 x.last);
      },
      c.heads.invariant.1,
    )

pub returns-in-Malformed-clause-came : goal.returns-in-Malformed-clause-came
returns-in-Malformed-clause-came c = λ ended.
    are_last ended c.args.bytes.now c.heads.self bad c.heads.invariant.0
    (subst (λ (y : List ℕ). IsLast ended y bad) c.rest-left.ensures (c.in-Malformed.ensures.head ended))

pub returns-in-TooLarge-clause-came : goal.returns-in-TooLarge-clause-came
returns-in-TooLarge-clause-came c = λ ended.
    are_last ended c.args.bytes.now c.heads.self big c.heads.invariant.0
    (subst (λ (y : List ℕ). IsLast ended y big) c.rest-left.ensures (c.in-TooLarge.ensures.head ended))
