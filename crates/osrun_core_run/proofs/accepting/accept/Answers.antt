use Rattle.osrun_core_run.proofs.Accepted.{error_is_memory, not_refused, told}
use Rattle.osrun_core_run.proofs.accepting.accept.Goals as goal

pub returns-in-Err-clause-refused : goal.returns-in-Err-clause-refused
returns-in-Err-clause-refused c =
    rw c.text_refusal.ensures (told c.args.text.now c.in-Err.error c.in-Err.ensures.refused)

pub returns-in-Err-clause-accepted : goal.returns-in-Err-clause-accepted
returns-in-Err-clause-accepted c p h =
    rw c.text_refusal.ensures (error_is_memory c.one_answer.ensures.never_both c.args.text.now p c.in-Err.error h c.in-Err.ensures.refused)

pub returns-in-Ok-clause-rejected : goal.returns-in-Ok-clause-rejected
returns-in-Ok-clause-rejected c cause h =
    not_refused c.one_answer.ensures.never_both c.args.text.now _ c.in-Ok.ensures.accepted cause h
