use Rattle.os_ast.specs.Views.{program_tree}
use Rattle.os_code.specs.Codes.{parts_of}
use Rattle.osrun_core_run.proofs.TasksRun.{run_of_code}
use Rattle.osrun_core_run.proofs.running.run_program_over.Goals as goal

pub returns : goal.returns
returns g c = record {
  run = run_of_code c.agreeing_bodies_mean_one.ensures (parts_of c.in_ok-code.code) (program_tree c.args.checked.now.program) c.in_ok-code.ensures
      _ _ _ _ _ _ _ c.in_ok-run.ensures.run;
}
