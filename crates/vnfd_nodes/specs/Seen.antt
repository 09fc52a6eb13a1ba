-- What node templates that were gathered by type are seen as.
use Rattle.std.specs.Prelude.{map}
use Rattle.vnfd_document.specs.Seen.{seen}
use Rattle.vnfd_nodes.specs.declared.templates.Templates.{Templates}
use Rattle.vnfd_nodes.specs.Nodes.{Nodes}

-- the templates of each type
abbrev pub nodes_seen : Templates → Nodes
nodes_seen t = record {
  products = map seen t.products.items;
  vdus = map seen t.vdus.items;
  storages = map seen t.storages.items;
  links = map seen t.links.items;
  ports = map seen t.ports.items;
}
