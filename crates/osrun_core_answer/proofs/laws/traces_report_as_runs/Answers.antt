use Rattle.osrun_core_answer.proofs.Workers.{report_as_runs, report_the_same}
use Rattle.osrun_core_answer.proofs.laws.traces_report_as_runs.Goals as goal

pub returns-clause-as_runs : goal.returns-clause-as_runs
returns-clause-as_runs c = report_as_runs c.one_answer.ensures.program c.one_reading.ensures c.one_walk.ensures

pub returns-clause-alike : goal.returns-clause-alike
returns-clause-alike c = report_the_same c.one_answer.ensures.program c.one_reading.ensures c.one_walk.ensures
