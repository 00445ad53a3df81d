use Rattle.osrun_core_run.proofs.Traces.{short_lists, trace_error_is_memory, trace_not_refused, trace_told}
use Rattle.osrun_core_run.proofs.accepting_trace.accept_trace.Goals as goal

pub returns-in-Err-clause-refused : goal.returns-in-Err-clause-refused
returns-in-Err-clause-refused c = rw c.trace_refusal.ensures (trace_told c.args.bytes.now c.in-Err.error c.in-Err.ensures.err)

pub returns-in-Err-clause-accepted : goal.returns-in-Err-clause-accepted
returns-in-Err-clause-accepted c lists is =
    rw c.trace_refusal.ensures (trace_error_is_memory c.traces_are_told.ensures c.args.bytes.now lists c.in-Err.error is c.in-Err.ensures.err)

pub returns-in-Ok-clause-rejected : goal.returns-in-Ok-clause-rejected
returns-in-Ok-clause-rejected c cause h = trace_not_refused c.traces_are_told.ensures c.args.bytes.now _ c.in-Ok.ensures.ok cause h

pub returns-in-Ok-clause-short : goal.returns-in-Ok-clause-short
returns-in-Ok-clause-short c few = short_lists c.args.bytes.now _ c.in-Ok.ensures.ok few
