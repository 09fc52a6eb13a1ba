use Rattle.change_planner.proofs.RecordLaws.{asked_fits}
use Rattle.change_planner.proofs.records.asked_events_fit_records.Goals as goal

pub returns : goal.returns
returns c = asked_fits
