use Rattle.old_journal.proofs.Excluding.{whole_or_unmade, whole_or_foreign, whole_or_broken, whole_once, headed_or_not}
use Rattle.old_journal.proofs.Excluding.{foreign_once}
use Rattle.old_journal.proofs.Excluding.{breaks_once, same_manager}
use Rattle.old_journal.proofs.Records.{records_of}
use Rattle.old_journal.proofs.exclusion.old_files_are_one_thing.Goals as goal

pub returns-clause-unmade : goal.returns-clause-unmade
returns-clause-unmade c = whole_or_unmade

pub returns-clause-foreign : goal.returns-clause-foreign
returns-clause-foreign c = whole_or_foreign

pub returns-clause-broken : goal.returns-clause-broken
returns-clause-broken c = whole_or_broken

pub returns-clause-once : goal.returns-clause-once
returns-clause-once c = whole_once

pub returns-clause-headed : goal.returns-clause-headed
returns-clause-headed c = headed_or_not

pub returns-clause-foreign_once : goal.returns-clause-foreign_once
returns-clause-foreign_once c = foreign_once

pub returns-clause-breaks_once : goal.returns-clause-breaks_once
returns-clause-breaks_once c = breaks_once

pub returns-clause-records : goal.returns-clause-records
returns-clause-records c = records_of

pub returns-clause-manager : goal.returns-clause-manager
returns-clause-manager c = λ m n image one other. same_manager m n image one.number other.number one.front other.front
