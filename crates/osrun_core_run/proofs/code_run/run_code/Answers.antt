use Rattle.std.proofs.Common.{◌∙◌, length, refl}
use Rattle.os_code.specs.Codes.{parts_of}
use Rattle.os_code.specs.Outcomes.{main_control}
use Rattle.osrun_core_run.proofs.CodeRuns.{run_of_ends}
use Rattle.osrun_core_run.proofs.code_run.run_code.Goals as goal

pub of-requires : goal.of-requires
of-requires g c = record { bytes = c.in_ok-layout.ensures.bytes }

pub returns : goal.returns
returns g c =
    let code = parts_of c.args.code.now in
    let input = c.args.input.now in
    let is = c.in_ok-layout.ensures in
    let made_of = c.in_ok-run.ensures in
    record {
      run = run_of_ends c.args.terms.task_budget c.args.terms.control_budget code input (main_control code (length input) c.args.terms.control_budget)
          refl is.fit is.lawful c.in_ok-run.run' _ _ is.whole is.layout is.input is.ends made_of.output made_of.layout made_of.ends (made_of.control ∙ is.control);
    }
