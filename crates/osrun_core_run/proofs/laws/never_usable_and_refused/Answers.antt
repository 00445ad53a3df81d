use Rattle.osrun_core_run.proofs.Objects.{never_both}
use Rattle.osrun_core_run.proofs.laws.never_usable_and_refused.Goals as goal

pub returns : goal.returns
returns c = never_both c.one_answer.ensures.never_both c.one_reading.ensures c.traces_are_told.ensures
