-- The subscription, who asked for it, and its callback.
use Rattle.std.proofs.Common.{◌++◌, ◌∙◌, codes}
use Rattle.history_lines.proofs.TextLemmas.{same_part, two}
use Rattle.history_lines.specs.Words.{role_word, subscription_words}
use Rattle.history_lines.proofs.lines.push_subscribed.Goals as goal

pub returns : goal.returns
returns c =
    let which = subscription_words c.args.manager c.args.subscription in
    let role = role_word c.args.role in
    let callback = c.args.callback.now in
    let old = c.args.text.now.items in
    let second = c.push_subscription.new.text.items in
    let third = c.push-2.new.text.items in
    let fourth = c.push-3.new.text.items in
    let fifth = c.push-4.new.text.items in
    two old fifth c.push-5.new.text.items (codes "SUBSCRIBED" ++ which ++ codes " by " ++ role ++ codes " callbackUri ")
    callback
    (two old fourth fifth (codes "SUBSCRIBED" ++ which ++ codes " by " ++ role) (codes " callbackUri ")
    (two old third fourth (codes "SUBSCRIBED" ++ which ++ codes " by ") role
    (two old second third (codes "SUBSCRIBED" ++ which) (codes " by ")
    (two old c.push.new.text.items second (codes "SUBSCRIBED") which c.in_ok-push.ensures
    c.in_ok-push_subscription.ensures)
    c.in_ok-push-2.ensures)
    (same_part _ _ _ role c.in_ok-push-3.ensures (c.as_bytes.ensures.value ∙ c.role_word.ensures)))
    c.in_ok-push-4.ensures)
    (same_part _ _ _ callback c.in_ok-push-5.ensures c.as_bytes-2.ensures.value)
