use Rattle.std.proofs.Common.{[], refl, subst}
use Rattle.osrun_core_answer.proofs.Answering.{answers_explain, answers_refused}
use Rattle.osrun_core_jobs.specs.HandsOver.{HandsOver}
use Rattle.osrun_core_jobs.specs.Jobs.{Explain, explain_of}
use Rattle.osrun_core_answer.proofs.explain_answer.answer_explain.Goals as goal

pub returns-in-Ok : goal.returns-in-Ok
returns-in-Ok g c =
    answers_explain g.F.Files c.args.files.now c.make_explanation.new.files g.O.Sink c.args.out.now c.deliver.new.out g.E.Sink c.args.report.now c.deliver.new.report
    c.never_usable_and_refused.ensures (explain_of c.args.job.now) c.requires.within c.in-Ok.told c.in-Ok.ensures c.deliver.result
    (subst (λ bytes. HandsOver g.O.Sink c.args.out.now c.deliver.new.out bytes g.E.Sink c.args.report.now c.deliver.new.report [] c.in-Ok.told.status c.deliver.result)
    c.as_bytes.ensures.value (c.deliver.ensures [] refl))

pub returns-in-Err : goal.returns-in-Err
returns-in-Err g c =
    rw c.refuse.ensures.status (answers_refused g.F.Files c.args.files.now c.make_explanation.new.files g.O.Sink c.args.out.now c.args.out.now g.E.Sink c.args.report.now c.refuse.new.sink
    c.never_usable_and_refused.ensures (Explain (explain_of c.args.job.now)) c.requires.within c.in-Err.refusal c.in-Err.ensures c.refuse.ensures.tells refl)
