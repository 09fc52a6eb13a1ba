-- What was drawn and asked for is that of the stage.
use Rattle.std.proofs.Common.{subst, sym}
use Rattle.std.specs.Prelude.{OnOk}
use Rattle.lcm_trial.specs.Playing.{IsAt}
use Rattle.lcm_trial.specs.Stages.{Stage}
use Rattle.lcm_trial.specs.declared.trial.Trial.{Trial}
use Rattle.lcm_trial.proofs.AskLemmas.{asks_none, asks_some, redrawn}
use Rattle.lcm_trial.proofs.trial.Trial.ask.Goals as goal

pub make_request-requires : goal.make_request-requires
make_request-requires c =
    let ready = c.requires.at in
    record {
      at = (
        record ready.0 { drawn = c.draw_step-draw.result.drawn },
        redrawn ready.0 c.args.self.now c.draw_step-draw.result.drawn ready.1,
      );
    }

pub returns-in-Some-clause-at : goal.returns-in-Some-clause-at
returns-in-Some-clause-at c = λ s at.
    let P : Stage → Type 0 = λ u. OnOk c.make_request.result (IsAt u c.make_request.new.self) in
    subst P
    (sym (asks_some s c.args.self.now.drawn c.draw_step-draw.result c.in_ok-request.field-0 c.in-Some.request at.drawn
    (c.draw_step-draw.ensures s.history at.ready.keeps) (c.in_ok-request.ensures s.history at.ready.keeps) c.in-Some.is))
    (c.make_request.ensures.at (record s { drawn = c.draw_step-draw.result.drawn })
    (redrawn s c.args.self.now c.draw_step-draw.result.drawn at))

pub returns-in-None-clause-at : goal.returns-in-None-clause-at
returns-in-None-clause-at c = λ s at.
    let t : Trial = record (c.args.self.now) { drawn = c.draw_step-draw.result.drawn } in
    let P : Stage → Type 0 = λ u. IsAt u t in
    subst P
    (sym (asks_none s c.args.self.now.drawn c.draw_step-draw.result c.in_ok-request.field-0 at.drawn
    (c.draw_step-draw.ensures s.history at.ready.keeps) (c.in_ok-request.ensures s.history at.ready.keeps) c.in-None.is))
    (redrawn s c.args.self.now c.draw_step-draw.result.drawn at)
