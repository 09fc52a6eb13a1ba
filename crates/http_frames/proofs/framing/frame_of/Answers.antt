use Rattle.std.proofs.Common.{ap, ◌∙◌}
use Rattle.http_frames.specs.Framing.{announced, coded}
use Rattle.http_frames.proofs.FieldLaws.{frame_found_at, frame_several, frame_both}
use Rattle.http_frames.proofs.framing.frame_of.Goals as goal

pub returns-in-Absent-Absent : goal.returns-in-Absent-Absent
returns-in-Absent-Absent c = frame_found_at _ _ _ _ _ _ c.values_named-lengths.ensures c.values_named-codings.ensures
    c.in-Absent-Absent.is-0 c.in-Absent-Absent.is-1

pub returns-in-Absent-Once : goal.returns-in-Absent-Once
returns-in-Absent-Once c = c.coded_by.ensures ∙ ap coded c.of.ensures
    ∙ frame_found_at _ _ _ _ _ _ c.values_named-lengths.ensures c.values_named-codings.ensures c.in-Absent-Once.is-0 c.in-Absent-Once.is-1

pub returns-in-Once-Absent : goal.returns-in-Once-Absent
returns-in-Once-Absent c = c.sized_by.ensures ∙ ap announced c.of-in-Once-Absent.ensures
    ∙ frame_found_at _ _ _ _ _ _ c.values_named-lengths.ensures c.values_named-codings.ensures c.in-Once-Absent.is-0 c.in-Once-Absent.is-1

pub returns-in_default : goal.returns-in_default
returns-in_default c = frame_found_at _ _ _ _ _ _ c.values_named-lengths.ensures c.values_named-codings.ensures c.in_default.is-0
    c.in_default.is-1

pub returns-in_default-2 : goal.returns-in_default-2
returns-in_default-2 c = frame_both _ _ _ _ _ c.values_named-lengths.ensures c.values_named-codings.ensures c.in_default.is-0
    c.in_default.not-Absent-1

pub returns-in_default-3 : goal.returns-in_default-3
returns-in_default-3 c = frame_several _ _ _ _ _ c.values_named-lengths.ensures c.values_named-codings.ensures c.in_default.is-0
