use Rattle.std.proofs.Common.{◌≡◌, subst}
use Rattle.std.specs.Prelude.{IfOk}
use Rattle.flow_core_laws.specs.Outcome.{ends_of}
use Rattle.flow_core_laws.specs.Plans.{plan_meaning, sink_elements}
use Rattle.epoch_run_bodies.specs.Frames.{frame_outcome}
use Rattle.os_code.specs.Codes.{parts_of}
use Rattle.osrun_core_run.proofs.TasksRun.{logged_bytes_if, logged_if}
use Rattle.osrun_core_run.proofs.code_trace.run_logged.Goals as goal
use Rattle.task_workers.specs.declared.logged.Logged.{Logged}

pub returns-clause-meaning : goal.returns-clause-meaning
returns-clause-meaning g c input stands =
    let code = parts_of c.args.code.now in
    let plan = c.args.plan.now in
    let budget = c.args.terms.task_budget in
    let of_ends = subst (λ xs. IfOk c.execute_logged.result (λ (l : Logged). l.ends.ends ≡ ends_of (plan_meaning plan (frame_outcome code xs budget)))) c.as_slice.ensures c.execute_logged.ensures.ends in
    let of_output = subst (λ xs. IfOk c.execute_logged.result (λ (l : Logged). l.ends.output ≡ sink_elements plan (plan_meaning plan (frame_outcome code xs budget)))) c.as_slice.ensures c.execute_logged.ensures.output in
    logged_if code c.args.control.now.activations budget c.plan_meaning.ensures.meaning c.plan_meaning.ensures.sink plan input stands c.execute_logged.result of_ends of_output

pub returns-clause-bytes : goal.returns-clause-bytes
returns-clause-bytes g c =
    let given = c.requires.stands in
    logged_bytes_if c.codes_give_bytes.ensures c.outputs_are_bytes.ensures (parts_of c.args.code.now) c.args.code.now.valid c.args.control.now.activations
    c.requires.fit given.0 c.args.terms.task_budget c.execute_logged.result (returns-clause-meaning g c given.0 given.1)
