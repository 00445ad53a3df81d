use Rattle.os_serve_answers.proofs.Says.{all_done, answers_jobs, broken, complete, complete_given, cut_in, cut_off, statuses_are, stopped, too_long_always, too_long_held}
use Rattle.os_serve.proofs.laws.serves_say.Goals as goal

pub returns-clause-answers : goal.returns-clause-answers
returns-clause-answers g c = answers_jobs _ _ _ _ _ _ _ _ _ _ _ _ _ _ c.requires

pub returns-clause-statuses : goal.returns-clause-statuses
returns-clause-statuses g c = statuses_are _ _ _ _ _ _ _ _ _ _ _ _ _ _ c.requires

pub returns-clause-all_done : goal.returns-clause-all_done
returns-clause-all_done g c = all_done _ _ _ _ _ _ _ _ _ _ _ _ _ _ c.requires

pub returns-clause-too_long : goal.returns-clause-too_long
returns-clause-too_long g c = cut_off _ _ _ _ _ _ _ _ _ _ _ _ _ _ c.requires

pub returns-clause-too_long_always : goal.returns-clause-too_long_always
returns-clause-too_long_always g c = too_long_always _ _ _ _ _ _ _ _ _ _ _ _ _ _ c.requires

pub returns-clause-too_long_held : goal.returns-clause-too_long_held
returns-clause-too_long_held g c = too_long_held _ _ _ _ _ _ _ _ _ _ _ _ _ _ c.requires

pub returns-clause-read_fault : goal.returns-clause-read_fault
returns-clause-read_fault g c = broken _ _ _ _ _ _ _ _ _ _ _ _ _ _ c.requires

pub returns-clause-write_fault : goal.returns-clause-write_fault
returns-clause-write_fault g c = cut_in _ _ _ _ _ _ _ _ _ _ _ _ _ _ c.requires

pub returns-clause-memory : goal.returns-clause-memory
returns-clause-memory g c = stopped _ _ _ _ _ _ _ _ _ _ _ _ _ _ c.requires

pub returns-clause-complete : goal.returns-clause-complete
returns-clause-complete g c = complete _ _ _ _ _ _ _ _ _ _ _ _ _ _ c.requires

pub returns-clause-complete_given : goal.returns-clause-complete_given
returns-clause-complete_given g c = complete_given _ _ _ _ _ _ _ _ _ _ _ _ _ _ c.requires
