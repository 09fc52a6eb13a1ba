use Rattle.event_codec.proofs.Puts.{put_before}
use Rattle.event_codec.proofs.write_parts.vnfd.Goals as goal

pub returns-clause-spelled : goal.returns-clause-spelled
returns-clause-spelled c =
    put_before _ _ _ _ _ c.name.ensures.spelled (put_before _ _ _ _ _ c.name-2.ensures.spelled
    (put_before _ _ _ _ _ c.name-3.ensures.spelled
    (put_before _ _ _ _ _ c.name-4.ensures.spelled (put_before _ _ _ _ _ c.name-5.ensures.spelled
    (put_before _ _ _ _ _ c.name-6.ensures.spelled c.vnfd_lists.ensures.spelled)))))
