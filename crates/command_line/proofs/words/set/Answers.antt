-- The words are a command, so they set something.
use Rattle.std.proofs.Common.{Some, ap, map, sym, ◌∙◌}
use Rattle.command_line.specs.Words.{parted, settings_for}
use Rattle.command_line.proofs.ShapeLemmas.{sets}
use Rattle.command_line.proofs.words.set.Goals as goal

pub returns-in_default : goal.returns-in_default
returns-in_default c = (settings_for c.args.command c.requires.0, sets c.args.words.now c.args.command c.requires.0 c.requires.1)

pub returns-in_default-matches_of : goal.returns-in_default-matches_of
returns-in_default-matches_of c = (settings_for c.args.command c.requires.0, sets c.args.words.now c.args.command c.requires.0 c.requires.1)

pub returns-in-Ok-settings_by : goal.returns-in-Ok-settings_by
returns-in-Ok-settings_by c =
    let words_are = c.in-Ok.ensures in
    let are = ap parted (ap (map (λ word. word.now)) c.deref.ensures.value ∙ words_are) ∙ c.requires.1 in
    sets c.args.words.now c.args.command c.requires.0 c.requires.1
    ∙ ap Some (sym (c.in-Ok-settings_by.ensures c.requires.0 (c.in-Ok-matches_of.ensures c.args.command c.requires.0 are)))

pub returns : goal.returns
returns c = (settings_for c.args.command c.requires.0, sets c.args.words.now c.args.command c.requires.0 c.requires.1)
