use Rattle.std.proofs.Common.{◌≡◌, length, inl, arith}
use Rattle.http_frames.proofs.MessageLaws.{many_fields_big}
use Rattle.http_frames.proofs.HeadLaws.{count_of_fields, refused_is_bad}
use Rattle.http_frames.proofs.head.read_short_head.Goals as goal

pub returns-then-head-gt-HEAD_FIELDS : goal.returns-then-head-gt-HEAD_FIELDS
returns-then-head-gt-HEAD_FIELDS c =
    let found = rw c.in-Ok-Complete.field-0-is at c.in-Ok-Complete.ensures.complete in
    let within = rw c.in-Ok-Complete.field-0-is at c.in-Ok-Complete.ensures.within in
    let count : length found.0.fields ≡ c.in-Ok-Complete.head.headers =
    count_of_fields _ _ _ found.0.fields within.section.count_fits found.1.fields in
    inl (many_fields_big _ found.0 _ found.1.reads (omega arith))

pub returns-in-Err : goal.returns-in-Err
returns-in-Err c = refused_is_bad _ _ c.in-Err.field-0 c.requires.room c.requires.short c.in-Err.ensures.invalid c.in-Err.ensures.too_many
