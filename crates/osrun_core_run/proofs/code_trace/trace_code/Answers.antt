use Rattle.os_code.specs.Codes.{parts_of}
use Rattle.osrun_core_run.proofs.CodeRuns.{run_of_ends}
use Rattle.osrun_core_run.proofs.code_trace.trace_code.Goals as goal

pub of-requires : goal.of-requires
of-requires g c = record { bytes = c.in_ok-logged.ensures.bytes }

pub returns-clause-run : goal.returns-clause-run
returns-clause-run g c =
    let input = c.args.input.now in
    let planned = c.in_ok-planned.ensures in
    let made_of = c.in_ok-run.ensures in
    run_of_ends c.args.terms.task_budget c.args.terms.control_budget (parts_of c.args.code.now) input c.in_ok-planned.planned.control
    planned.made_is planned.fit planned.lawful c.in_ok-run.run' _ _ planned.whole planned.laid planned.over
    (c.in_ok-logged.ensures.meaning input planned.stands) made_of.output made_of.layout made_of.ends made_of.control
