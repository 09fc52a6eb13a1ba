use Rattle.lcm_model.specs.Descriptors.{is_valid_port}
use Rattle.std.proofs.Common.{drop, ◌≡◌}
use Rattle.std.specs.List.{list_all}
use Rattle.lcm_model.proofs.valid.are_ports_valid.Given as goal

abbrev pub invariant-loop-port : goal.invariant-loop-port
invariant-loop-port l = list_all (is_valid_port l.vnfd) (drop l.port-index l.vnfd.ports) ≡ list_all (is_valid_port l.vnfd) l.vnfd.ports
