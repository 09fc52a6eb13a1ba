-- How many subscriptions of a role are live.
use Rattle.std.proofs.Common.{◌≡◌, ◌∙◌, List, length, filter, refl, ap, sym}
use Rattle.lcm_events.specs.declared.events.Event.{Event}
use Rattle.lcm_events.specs.declared.states.Role.{Role}
use Rattle.lcm_model.specs.Lives.{is_live_of, live_subscriptions, subscriptions}
use Rattle.instance_table.specs.Rows.{is_continued, subscription_row, subscription_rows}
use Rattle.instance_table.specs.Table.{is_role_of}
use Rattle.instance_table.proofs.LiveLaws.{fewer, long}

-- as many rows are a role's as its subscriptions are live
pub roles_counted : (H : List Event) (role : Role) → length (filter (is_role_of role) (subscription_rows H))
    ≡ length (live_subscriptions H role)
unfolding is_continued is_live_of
roles_counted H role =
    ap length (sym (fewer (subscription_row H) (is_role_of role) (is_continued H) (is_live_of H role) (subscriptions H) (λ x. refl)))
    ∙ long (subscription_row H) (live_subscriptions H role)
