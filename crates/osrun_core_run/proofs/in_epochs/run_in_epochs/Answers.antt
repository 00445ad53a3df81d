use Rattle.epoch_run.specs.Run.{created}
use Rattle.os_code.specs.Codes.{parts_of}
use Rattle.osrun_core_run.proofs.TasksRun.{bytes_if}
use Rattle.osrun_core_run.specs.RunOf.{budgets_of}
use Rattle.osrun_core_run.proofs.in_epochs.run_in_epochs.Goals as goal

pub returns-clause-bytes : goal.returns-clause-bytes
returns-clause-bytes g c =
    let code = parts_of c.args.code.now in
    bytes_if c.codes_give_bytes.ensures c.outputs_are_bytes.ensures code c.args.code.now.valid (created code c.args.input.now (budgets_of c.args.terms))
    c.args.input.now c.args.terms.task_budget c.run_epochs.result c.run_epochs.ensures.fit c.run_epochs.ensures.ends
