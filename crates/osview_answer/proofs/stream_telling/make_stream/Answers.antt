use Rattle.std.proofs.Common.{[], ◌∷◌, inl, inr, subst}
use Rattle.std.proofs.lemmas.Result.{err_from_is_err_and}
use Rattle.osrun_core_jobs.specs.Jobs.{job_of}
use Rattle.osview_answer.specs.Streams.{IsTold, asked_of}
use Rattle.osview_answer.proofs.ReadSo.{read_so}
use Rattle.osview_answer.proofs.stream_telling.make_stream.Goals as goal

pub returns-in_err-told : goal.returns-in_err-told
returns-in_err-told g c =
    let e = err_from_is_err_and c.from_residual-in_err-told.result c.from_residual-in_err-told.ensures.1 in
    let files = c.in_ok-read.read in
    rw e.1 (inr (e.2, inr (inl (files.source.text.items ∷ files.input.items ∷ [], c.in_ok-read.ensures.read))))

pub returns : goal.returns
returns g c =
    let job = c.args.asked.now.job in
    let asked = asked_of c.args.asked.now in
    let files = c.in_ok-read.read in
    let text = files.source.text.items in
    let told = c.in_ok-told.told in
    read_so g.F.Files c.args.files.now c.read_run.new.files (job_of job) asked text files.input.items told c.in_ok-read.ensures.read
    (subst (λ bytes. IsTold job.terms.task_budget job.terms.control_budget text bytes asked told) c.deref.ensures.value c.in_ok-told.ensures)
