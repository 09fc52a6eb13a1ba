-- Node templates as they come from what is read of a text (own rule).
use Rattle.vnfd_document.specs.Order.{Rises}
use Rattle.vnfd_nodes.specs.Nodes.{Nodes}

-- the VDUs, storages, links and ports each stand in byte order of their names, each name once
pub record ComeInOrder (n : Nodes) : Type 0 where
  pub vdus : Rises n.vdus
  pub storages : Rises n.storages
  pub links : Rises n.links
  pub ports : Rises n.ports
