use Rattle.osrun_core.proofs.Workers.{one_outcome, same_status}
use Rattle.osrun_core.proofs.laws.workers_change_no_answer.Goals as goal

pub returns-clause-status : goal.returns-clause-status
returns-clause-status g c = same_status _ _ _ _ _ _ _ _ _ _ _ _ _ _ _ _ _ _ _
    c.one_answer.ensures.refusal c.never_usable_and_refused.ensures c.workers_change_nothing.ensures.made
    c.requires.same_files c.requires.same_words c.requires.told c.requires.one c.requires.other

pub returns-clause-outcome : goal.returns-clause-outcome
returns-clause-outcome g c = one_outcome _ _ _ _ _ _ _ _ _ _ _ _ _ _ _ _ _ _ _
    c.one_answer.ensures.refusal c.never_usable_and_refused.ensures c.workers_change_nothing.ensures.made
    c.requires.same_files c.requires.same_words c.requires.told c.requires.one c.requires.other
