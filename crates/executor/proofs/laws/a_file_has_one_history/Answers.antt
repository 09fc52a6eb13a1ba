use Rattle.executor.proofs.LawLemmas.{one_history}
use Rattle.executor.proofs.laws.a_file_has_one_history.Goals as goal

pub returns : goal.returns
returns c = one_history c.no_spelling_begins_another.ensures c.files_are_one_thing.ensures.once c.files_are_one_thing.ensures.records
    c.files_are_one_thing.ensures.broken c.files_are_one_thing.ensures.breaks_once c.files_are_one_thing.ensures.manager
