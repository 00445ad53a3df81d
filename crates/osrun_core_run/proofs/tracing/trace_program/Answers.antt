use Rattle.os_ast.specs.Views.{program_tree}
use Rattle.os_code.specs.Codes.{parts_of}
use Rattle.osrun_core_run.proofs.TasksRun.{run_of_code}
use Rattle.osrun_core_run.proofs.tracing.trace_program.Goals as goal

pub returns-clause-run : goal.returns-clause-run
returns-clause-run g c =
    run_of_code c.agreeing_bodies_mean_one.ensures (parts_of c.in_ok-code.code) (program_tree c.args.checked.now.program) c.in_ok-code.ensures
    _ _ _ _ _ _ _ c.in_ok-traced.ensures.run
