-- The five parts of an attempt, and none behind them.
use Rattle.std.proofs.Common.{◌≡◌, ◌∙◌, ap, sym, ℕ, List, [], ◌∷◌, Option, Some}
use Rattle.std.specs.Prelude.{decimal}
use Rattle.lcm_events.specs.declared.attempts.Tag.{Tag}
use Rattle.lcm_events.specs.declared.attempts.Way.{Way}
use Rattle.vim_wire.specs.Lines.{way_word}
use Rattle.vim_wire.specs.Parts.{joined}
use Rattle.vim_wire.proofs.PartLaws.{joined-parts_of}
use Rattle.vim_wire.proofs.LineLaws.{tag_parts, nothing_left, all_taken, some_or_none}
use Rattle.vim_wire.proofs.reading.tag.Goals as goal

pub returns-in_err-manager-clause-again : goal.returns-in_err-manager-clause-again
returns-in_err-manager-clause-again c = λ m t fits e.
    let got = c.read.ensures.again (m, (t.occ, (t.change, (t.attempt, t.way)))) []
    (fits.manager_fits, (fits.occ, (fits.change, (fits.attempt, tt)))) (c.of-parts.ensures ∙ tag_parts m t c.args.field.now fits e) in
    absurd (some_or_none c.read.result (m, (t.occ, (t.change, (t.attempt, t.way)))) (c.in_err-manager.was {u = tt}) got.0)

pub returns-then-is_some-clause-again : goal.returns-then-is_some-clause-again
returns-then-is_some-clause-again c = λ m t fits e.
    let got = c.read.ensures.again (m, (t.occ, (t.change, (t.attempt, t.way)))) []
    (fits.manager_fits, (fits.occ, (fits.change, (fits.attempt, tt)))) (c.of-parts.ensures ∙ tag_parts m t c.args.field.now fits e) in
    absurd (nothing_left c.next.result c.read.new.parts c.next.new.self c.next.ensures (sym c.is_some.ensures ∙ c.if-is_some.true) got.1)

pub returns-clause-found : goal.returns-clause-found
returns-clause-found c =
    let none = all_taken c.next.result c.read.new.parts c.next.new.self c.next.ensures (sym c.is_some.ensures ∙ c.if-is_some.false) in
    let got = c.in_ok-manager.ensures.found in
    let m = c.in_ok-manager in (
      record { manager_fits = got.0.0; occ = got.0.1.0; change = got.0.1.1.0; attempt = got.0.1.1.1.0 },
      sym (joined-parts_of 46 c.args.field.now) ∙ ap (joined 46) (sym c.of-parts.ensures ∙ got.1
          ∙ ap (λ (t : List (List ℕ)). decimal m.manager ∷ decimal m.occ ∷ decimal m.change ∷ decimal m.attempt ∷ way_word m.way ∷ t) none),
    )

pub returns-clause-again : goal.returns-clause-again
returns-clause-again c = λ m t fits e.
    let got = c.read.ensures.again (m, (t.occ, (t.change, (t.attempt, t.way)))) []
    (fits.manager_fits, (fits.occ, (fits.change, (fits.attempt, tt)))) (c.of-parts.ensures ∙ tag_parts m t c.args.field.now fits e) in
    let k = c.in_ok-manager in
    let read : (k.manager, (k.occ, (k.change, (k.attempt, k.way)))) ≡ (m, (t.occ, (t.change, (t.attempt, t.way)))) =
    same c.read.result _ _ (c.in_ok-manager.was {u = tt}) got.0 in
    let tag : ℕ × (ℕ × (ℕ × (ℕ × Way))) → ℕ × Tag = λ p. (
      p.0,
      record {
        occ = p.1.0;
        change = p.1.1.0;
        attempt = p.1.1.1.0;
        way =
            p.1.1.1.1;
      },
    ) in
    ap (λ p. Some (tag p)) read where
      same : {A : Type 0} (r : Option A) (x y : A) → r ≡ Some x → r ≡ Some y → x ≡ y
      same r x y e f = cc
