use Rattle.std.proofs.Common.{ap, sym, ◌∙◌}
use Rattle.journal_migration.specs.Packing.{Packing}
use Rattle.journal_migration.proofs.PackLemmas.{holds_more, holds_seen, none_of}
use Rattle.journal_migration.proofs.packing.Packing.close.Goals as goal

pub returns-clause-file : goal.returns-clause-file
returns-clause-file c = λ m bs hand is holds.
    let none = sym (ap (λ (p : Packing). p.unfit) c.self.view_is) ∙ none_of c.self.inside.unfit (sym c.if-is_some.ensures) in
    holds_seen m _ _ c.append.new.self c.self-2.view_is
    (holds_more m bs hand c.args.self.now c.append.new.self is none c.in_ok-append.ensures.appended holds)
