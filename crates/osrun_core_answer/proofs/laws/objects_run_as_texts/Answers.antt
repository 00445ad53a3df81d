use Rattle.osrun_core_answer.proofs.Workers.{objects_run}
use Rattle.osrun_core_answer.proofs.laws.objects_run_as_texts.Goals as goal

pub returns : goal.returns
returns c = objects_run c.one_answer.ensures.program c.one_reading.ensures c.agreeing_bodies_mean_one.ensures
