use Rattle.executor.proofs.LawLemmas.{no_bad_record}
use Rattle.executor.proofs.laws.a_legal_history_has_no_bad_record.Goals as goal

pub returns : goal.returns
returns c = no_bad_record c.no_spelling_begins_another.ensures c.files_are_one_thing.ensures.once c.files_are_one_thing.ensures.records
    c.files_are_one_thing.ensures.broken c.files_are_one_thing.ensures.breaks_once c.files_are_one_thing.ensures.manager
