use Rattle.std.proofs.Common.{◌∙◌, ap, sym, subst}
use Rattle.lcm_events.specs.declared.events.EventKind.{EventKind}
use Rattle.instance_table.specs.Steps.{changed}
use Rattle.instance_table.specs.Table.{HasRoom}
use Rattle.instance_table.proofs.table.InstanceTable.follow.Goals as goal

pub returns-in-Onboarded-clause-rows : goal.returns-in-Onboarded-clause-rows
returns-in-Onboarded-clause-rows c = λ rises.
    let room = subst (λ (k : EventKind). HasRoom k c.args.self.now.rows c.args.self.now.reserved) c.in-Onboarded.is c.requires.room in
    c.put_descriptor.ensures.rows _ room.0 ∙ ap (λ (k : EventKind). changed k c.args.self.now.rows) (sym c.in-Onboarded.is)

pub returns-in-Created-clause-rows : goal.returns-in-Created-clause-rows
returns-in-Created-clause-rows c = λ rises.
    let room = subst (λ (k : EventKind). HasRoom k c.args.self.now.rows c.args.self.now.reserved) c.in-Created.is c.requires.room in
    c.put_instance.ensures.rows _ room.0 ∙ ap (λ (k : EventKind). changed k c.args.self.now.rows) (sym c.in-Created.is)

pub returns-in-Granted-clause-rows : goal.returns-in-Granted-clause-rows
returns-in-Granted-clause-rows c = λ rises.
    let room = subst (λ (k : EventKind). HasRoom k c.args.self.now.rows c.args.self.now.reserved) c.in-Granted.is c.requires.room in
    c.follow_grant.ensures.rows _ room rises.going ∙ ap (λ (k : EventKind). changed k c.args.self.now.rows) (sym c.in-Granted.is)

pub returns-in-Subscribed-clause-rows : goal.returns-in-Subscribed-clause-rows
returns-in-Subscribed-clause-rows c = λ rises.
    let room = subst (λ (k : EventKind). HasRoom k c.args.self.now.rows c.args.self.now.reserved) c.in-Subscribed.is c.requires.room in
    c.put_subscription.ensures.rows _ room.0 ∙ ap (λ (k : EventKind). changed k c.args.self.now.rows) (sym c.in-Subscribed.is)
