use Rattle.os_code.specs.Codes.{parts_of}
use Rattle.osrun_core_run.proofs.Objects.{object_error_is_memory, object_not_refused, object_told}
use Rattle.osrun_core_run.proofs.accepting_object.accept_object.Goals as goal

pub returns-in-Ok-clause-object : goal.returns-in-Ok-clause-object
returns-in-Ok-clause-object c = record { spelled = c.in-Ok.ensures.spelled; valid = c.in-Ok.code.valid }

pub returns-in-Ok-clause-rejected : goal.returns-in-Ok-clause-rejected
returns-in-Ok-clause-rejected c cause h =
    object_not_refused c.one_reading.ensures c.args.bytes.now (parts_of c.in-Ok.code)
    (record { spelled = c.in-Ok.ensures.spelled; valid = c.in-Ok.code.valid }) cause h

pub returns-in-Err-clause-refused : goal.returns-in-Err-clause-refused
returns-in-Err-clause-refused c =
    rw c.object_refusal.ensures (object_told c.args.bytes.now c.in-Err.error c.in-Err.ensures.exact c.in-Err.ensures.invalid)

pub returns-in-Err-clause-accepted : goal.returns-in-Err-clause-accepted
returns-in-Err-clause-accepted c parts is =
    rw c.object_refusal.ensures (object_error_is_memory c.args.bytes.now c.in-Err.error c.in-Err.ensures.exact parts is)
