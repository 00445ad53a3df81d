use Rattle.std.proofs.Common.{◌∙◌, [], inl, refl, subst}
use Rattle.osrun_core_jobs.specs.HandsOver.{HandsOver}
use Rattle.osrun_core_jobs.specs.Jobs.{gen_of}
use Rattle.osrun_core_jobs.specs.declared.status.Status.TheVariants as statuses
use Rattle.osrun_core_answer.specs.Gen.{gen_lines}
use Rattle.osrun_core_answer.proofs.gen_answer.answer_gen.Goals as goal

pub returns-in-Ok : goal.returns-in-Ok
returns-in-Ok g c =
    let job = gen_of c.args.job.now in
    let made = c.in-Ok.ensures.run in
    inl (
      record { output = gen_lines job made.0; told = []; own = 0 },
      record { no_contents = refl; run = made.0; is_run = made.1; output_is = refl; report_is = refl; status_is = refl },
      subst (λ bytes. HandsOver g.O.Sink c.args.out.now c.deliver.new.out bytes g.E.Sink c.args.report.now c.deliver.new.report [] statuses.AllDone c.deliver.result)
          (c.as_bytes.ensures.value ∙ made.2) (c.deliver.ensures [] refl),
    )
