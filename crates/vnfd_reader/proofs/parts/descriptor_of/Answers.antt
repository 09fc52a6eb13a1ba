-- What passes the checks has few VDUs, storages and links, and is valid.
use Rattle.std.proofs.Common.{◌≤◌, length, map, sym, subst, ℕ, List}
use Rattle.lcm_model.specs.Descriptors.{IsValid}
use Rattle.vnfd_document.specs.Seen.{seen}
use Rattle.vnfd_document.specs.declared.entries.Entry.{Entry}
use Rattle.vnfd_nodes.specs.Seen.{nodes_seen}
use Rattle.vnfd_reader.proofs.ValidLaws.{few_links, few_storages, few_vdus, vnfd_valid}
use Rattle.vnfd_reader.proofs.parts.descriptor_of.Goals as goal

pub built-requires-clause-vdus : goal.built-requires-clause-vdus
built-requires-clause-vdus c = few_vdus c.args.nodes.now (map seen c.args.policies.now.all.items) c.in_ok-refuse_parts.ensures

pub built-requires-clause-storages : goal.built-requires-clause-storages
built-requires-clause-storages c = few_storages c.args.nodes.now (map seen c.args.policies.now.all.items) c.in_ok-refuse_parts.ensures

pub built-requires-clause-links : goal.built-requires-clause-links
built-requires-clause-links c = few_links c.args.nodes.now (map seen c.args.policies.now.all.items) c.in_ok-refuse_parts.ensures

pub refuse_steps-requires-clause-valid : goal.refuse_steps-requires-clause-valid
refuse_steps-requires-clause-valid c =
    subst IsValid (sym c.in_ok-vnfd.ensures)
    (vnfd_valid (nodes_seen c.args.nodes.now) (map seen c.args.policies.now.all.items) c.requires.nodes c.requires.policies
    c.in_ok-refuse_parts.ensures)

pub refuse_steps-requires-clause-vdus : goal.refuse_steps-requires-clause-vdus
refuse_steps-requires-clause-vdus c =
    let Short : List Entry → Type 0 = λ xs. length xs ≤ 64 in
    subst Short (sym c.as_slice-2.ensures.value) (few_vdus c.args.nodes.now
    (map seen c.args.policies.now.all.items) c.in_ok-refuse_parts.ensures)
