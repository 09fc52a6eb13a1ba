use Rattle.event_codec.proofs.Puts.{put_before}
use Rattle.event_codec.proofs.write_parts.vnfd_lists.Goals as goal

pub returns-clause-spelled : goal.returns-clause-spelled
returns-clause-spelled c =
    put_before _ _ _ _ _ c.many.ensures.spelled (put_before _ _ _ _ _ c.many-2.ensures.spelled
    (put_before _ _ _ _ _ c.many-3.ensures.spelled
    (put_before _ _ _ _ _ c.many-4.ensures.spelled (put_before _ _ _ _ _ c.many-5.ensures.spelled
    (put_before _ _ _ _ _ c.many-6.ensures.spelled c.u16.ensures.spelled)))))
