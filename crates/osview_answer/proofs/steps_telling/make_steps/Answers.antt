use Rattle.std.proofs.Common.{[], ◌∷◌, inl, inr, subst}
use Rattle.std.proofs.lemmas.Result.{err_from_is_err_and}
use Rattle.os_ast.specs.Views.{program_tree}
use Rattle.osrun_core_jobs.specs.Jobs.{job_of}
use Rattle.osrun_core_jobs.specs.Status.{status_code}
use Rattle.osview_answer.specs.Steps.{AreSteps}
use Rattle.osview_answer.proofs.steps_telling.make_steps.Goals as goal

pub returns-in_err-told : goal.returns-in_err-told
returns-in_err-told g c =
    let e = err_from_is_err_and c.from_residual-in_err-told.result c.from_residual-in_err-told.ensures.1 in
    let files = c.in_ok-read.read in
    rw e.1 (inr (e.2, inr (inl (files.source.text.items ∷ files.input.items ∷ [], c.in_ok-read.ensures.read))))

pub returns : goal.returns
returns g c =
    let job = job_of c.args.job.now in
    let files = c.in_ok-read.read in
    let program = program_tree files.source.checked.program in
    let told = c.in_ok-told.told in
    record {
      text = files.source.text.items;
      input = files.input.items;
      read = c.in_ok-read.ensures.read;
      are_steps = record {
        program = program;
        is_program = c.in_ok-read.ensures.is_source.accepted;
        are_steps = subst (λ bytes. AreSteps job.task_budget job.control_budget program bytes told.text.items (status_code told.status)) c.deref.ensures.value c.in_ok-told.ensures;
      };
    }
