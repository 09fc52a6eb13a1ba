-- `clap` was told of the options, and finds their values.
use Rattle.std.proofs.Common.{◌≡◌, ap, ap₂, map, ◌∙◌}
use Rattle.std.proofs.lemmas.Result.{IfOk-weaker}
use Rattle.clap.specs.Words.{app_of, found_of, is_simple, matches_of, with_rule}
use Rattle.command_line.proofs.MatchLemmas.{has_values, reader, reader_is_simple}
use Rattle.command_line.proofs.matches.matches_of.Goals as goal

pub returns : goal.returns
returns c =
    let one = c.in_ok-arg.ensures.shape c.option.ensures.local ∙ ap₂ with_rule c.new.ensures.app c.option.ensures.rule in
    let two = c.in_ok-arg-2.ensures.shape c.option-2.ensures.local ∙ ap₂ with_rule one c.option-2.ensures.rule in
    let three = c.in_ok-arg-3.ensures.shape c.option-3.ensures.local ∙ ap₂ with_rule two c.option-3.ensures.rule in
    let four = c.in_ok-arg-4.ensures.shape c.option-4.ensures.local ∙ ap₂ with_rule three c.option-4.ensures.rule in
    let five = c.in_ok-arg-5.ensures.shape c.option-5.ensures.local ∙ ap₂ with_rule four c.option-5.ensures.rule in
    let six = c.in_ok-arg-6.ensures.shape c.option-6.ensures.local ∙ ap₂ with_rule five c.option-6.ensures.rule in
    let seven = c.in_ok-arg-7.ensures.shape c.option-7.ensures.local ∙ ap₂ with_rule six c.option-7.ensures.rule in
    let eight = c.in_ok-arg-8.ensures.shape c.option-8.ensures.local ∙ ap₂ with_rule seven c.option-8.ensures.rule in
    let nine = c.in_ok-arg-9.ensures.shape c.option-9.ensures.local ∙ ap₂ with_rule eight c.option-9.ensures.rule in
    let ten = c.in_ok-arg-10.ensures.shape c.option-10.ensures.local ∙ ap₂ with_rule nine c.option-10.ensures.rule in
    let all : app_of c.in_ok-all.all ≡ reader = c.in_ok-all.ensures.shape c.option-11.ensures.local
    ∙ ap₂ with_rule ten c.option-11.ensures.rule in
    IfOk-weaker c.try_get_matches_from.result _ _
    (λ m has command pairs are. has_values (found_of m) (map (λ word. word.now) c.args.words.now) command pairs
    ((has (ap is_simple all ∙ reader_is_simple)).0 ∙ ap (λ a. matches_of a (map (λ word. word.now) c.args.words.now)) all) are)
    c.try_get_matches_from.ensures.matches
