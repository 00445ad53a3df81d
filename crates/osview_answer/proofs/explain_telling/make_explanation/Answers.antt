use Rattle.std.proofs.Common.{[], ◌∷◌, inl, inr, subst}
use Rattle.std.proofs.lemmas.Result.{err_from_is_err_and}
use Rattle.osrun_core_jobs.specs.Jobs.{job_of}
use Rattle.osrun_core_jobs.specs.Status.{status_code}
use Rattle.osview_answer.specs.Explanation.{IsExplanationOf}
use Rattle.osview_answer.proofs.explain_telling.make_explanation.Goals as goal

pub returns-in_err-told : goal.returns-in_err-told
returns-in_err-told g c =
    let e = err_from_is_err_and c.from_residual-in_err-told.result c.from_residual-in_err-told.ensures.1 in
    let files = c.in_ok-read.read in
    rw e.1 (inr (e.2, inr (inl (files.source.text.items ∷ files.input.items ∷ [], c.in_ok-read.ensures.read))))

pub returns : goal.returns
returns g c =
    let job = job_of c.args.asked.now.job in
    let files = c.in_ok-read.read in
    let text = files.source.text.items in
    let told = c.in_ok-told.told in
    record {
      text = text;
      input = files.input.items;
      read = c.in_ok-read.ensures.read;
      is_explanation = subst (λ bytes. IsExplanationOf job.task_budget job.control_budget text bytes c.args.asked.now.activation told.text.items (status_code told.status)) c.deref.ensures.value c.in_ok-told.ensures;
    }
