-- The two halves of a filter: its lists of words, which are asked first, and those of names (SOL 003 5.5.3).
use Rattle.std.specs.Prelude.{Bool, ◌&&◌, ◌==◌, ℕ}
use Rattle.lcm_events.specs.Same.{same_name, same_state}
use Rattle.lcm_events.specs.declared.filters.Filter.{Filter}
use Rattle.lcm_model.specs.Notices.{NoticeFacts, admits, admits_given, admits_if_given, instance_text, is_type_of}
use Rattle.lcm_model.specs.Notices.{notice_number}

-- the kinds of notices, the states and the operations let the notice through (SOL 003 5.5.3)
abbrev pub words_admit : Filter → NoticeFacts → Bool
words_admit f n =
    admits f.notices (λ k. notice_number n.which == notice_number k) && admits_if_given f.states same_state n.state
    && admits_if_given f.operations is_type_of n.op

-- the instances, the descriptors and the names let the notice of manager m through (SOL 003 5.5.3)
abbrev pub texts_admit : ℕ → Filter → NoticeFacts → Bool
texts_admit m f n =
    admits f.instances (same_name (instance_text m n.instance)) && admits f.vnfds (same_name n.vnfd)
    && admits_given f.names same_name n.name
