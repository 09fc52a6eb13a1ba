-- A connection came and was served, or none came, or waiting failed.
use Rattle.std.proofs.Common.{◌∙◌, false, inl, inr, refl, true}
use Rattle.lcm_mouth.specs.World.{World, world}
use Rattle.site_traits.specs.Counts.{fails_as}
use Rattle.site_traits.specs.declared.door.NextAnswer.TheVariants.{Nobody, Ended}
use Rattle.vnfm_commands.specs.Course.{served, stopped, unasked, unreached}
use Rattle.vnfm_commands.specs.Rounds.{visited, over}
use Rattle.vnfm_commands.proofs.RoundLemmas.{met_nobody, met_served, met_unreached}
use Rattle.vnfm_commands.proofs.rounds.meet.Goals as goal

pub returns-in-Ok-clause-meets : goal.returns-in-Ok-clause-meets
returns-in-Ok-clause-meets g c = λ H ready.
    let it = c.in-Ok.ensures.serves H ready in
    let v : World = world (g.S.Site.state c.answer_session.new.site) c.answer_session.new.mouth
    (g.K.Clock.state c.answer_session.new.clock) in (
      visited (served c.in-Came.came it.0),
      met_served _ _ _ H false c.in-Came.came it.0 _ _ c.args.mouth.now c.next.new.self _ v c.in-Came.ensures.told c.in-Came.ensures.cause
          c.next.ensures.begins c.next.ensures.unnoted it.1 it.3.1,
      it.2 ∙ c.for_connection-role.ensures,
      tt,
    )

pub returns-in-Err-clause-meets : goal.returns-in-Err-clause-meets
returns-in-Err-clause-meets g c = λ H ready.
    let it = c.in-Err.ensures.serves H ready in
    let v : World = world (g.S.Site.state c.answer_session.new.site) c.answer_session.new.mouth
    (g.K.Clock.state c.answer_session.new.clock) in (
      over (stopped c.in-Came.came it.0),
      met_served _ _ _ H true c.in-Came.came it.0 _ _ c.args.mouth.now c.next.new.self _ v c.in-Came.ensures.told c.in-Came.ensures.cause
          c.next.ensures.begins c.next.ensures.unnoted it.1 it.3,
      it.2 ∙ c.for_connection-role.ensures,
      refl,
    )

pub returns-in-Nobody-clause-meets : goal.returns-in-Nobody-clause-meets
returns-in-Nobody-clause-meets g c = λ H ready. (
  visited unasked,
  met_nobody _ _ H Nobody _ c.args.mouth.now c.next.new.self _ (c.works_add_up.ensures.idles c.args.site.now) ready
      (inl refl) c.in-Nobody.ensures.told c.in-Nobody.ensures.cause c.next.ensures.unnoted,
  tt,
  tt,
)

pub returns-in-Ended-clause-meets : goal.returns-in-Ended-clause-meets
returns-in-Ended-clause-meets g c = λ H ready. (
  visited unasked,
  met_nobody _ _ H Ended _ c.args.mouth.now c.next.new.self _ (c.works_add_up.ensures.idles c.args.site.now) ready
      (inr refl) c.in-Ended.ensures.told c.in-Ended.ensures.cause c.next.ensures.unnoted,
  tt,
  tt,
)

pub returns-in-Failed-clause-meets : goal.returns-in-Failed-clause-meets
returns-in-Failed-clause-meets g c = λ H ready. (
  over unreached,
  met_unreached _ _ H _ c.args.mouth.now c.next.new.self _ (c.works_add_up.ensures.idles c.args.site.now) ready c.in-Failed.ensures.told
      c.in-Failed.ensures.cause c.next.ensures.unnoted,
  tt,
  refl,
)

pub returns-in-Err-clause-disk : goal.returns-in-Err-clause-disk
returns-in-Err-clause-disk g c = fails_as _ _ _ _ c.in-Err.ensures.counts (λ is. refl) (λ is. refl)
