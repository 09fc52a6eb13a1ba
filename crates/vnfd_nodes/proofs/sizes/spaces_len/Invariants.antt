-- The front reaches as far as was seen, and then as far as the front of what is left.
use Rattle.std.proofs.Common.{◌≡◌, ◌+◌, drop}
use Rattle.std.specs.List.{prefix_len}
use Rattle.vnfd_nodes.specs.Sizes.{is_space}
use Rattle.vnfd_nodes.proofs.sizes.spaces_len.Given as goal

abbrev pub invariant-loop-at : goal.invariant-loop-at
invariant-loop-at l = prefix_len is_space l.fn.bytes ≡ l.at + prefix_len is_space (drop l.at l.bytes)
