use Rattle.lcm_model.specs.Work.{window}
use Rattle.vnfm_cli.proofs.laws.sound_jobs_make_sound_pairs.Goals as goal

pub returns : goal.returns
returns c = λ m H K p small kept file sound. record {
  number = small;
  history = K;
  kept = kept;
  file = file;
  sound = sound;
  once = c.changes_stand_at_most_once.ensures window m K p.jobs sound;
  completed = c.completed_stands_once.ensures window m K p.jobs sound;
  rolled_back = c.rolled_back_stands_not.ensures window m K p.jobs sound;
  granted = c.jobs_are_granted_work.ensures window m K p.jobs sound;
  idle = c.idle_instances_have_no_job_standing.ensures window m K p.jobs sound;
  beside = c.computes_stand_beside_theirs.ensures window m K p.jobs sound;
}
