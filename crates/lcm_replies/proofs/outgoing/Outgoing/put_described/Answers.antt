-- The two lines stand one after the other.
use Rattle.std.proofs.Common.{append_assoc}
use Rattle.lcm_replies.proofs.outgoing.Outgoing.put_described.Goals as goal

pub returns-clause-bytes : goal.returns-clause-bytes
returns-clause-bytes c = rw (
  c.put_length.ensures.bytes,
  c.put_field.ensures.bytes,
  c.as_bytes.ensures.value,
  c.media_type.ensures.text,
  append_assoc,
)
