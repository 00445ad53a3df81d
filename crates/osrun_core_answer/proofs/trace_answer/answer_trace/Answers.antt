use Rattle.std.proofs.Common.{refl, subst}
use Rattle.osrun_core_answer.proofs.Answering.{answers_refused, answers_trace, reported}
use Rattle.osrun_core_jobs.specs.HandsOver.{HandsOver}
use Rattle.osrun_core_jobs.specs.Jobs.{Trace, job_of}
use Rattle.osrun_core_answer.proofs.trace_answer.answer_trace.Goals as goal

pub deliver-requires : goal.deliver-requires
deliver-requires g c = reported _ _ _ _ _ c.in-Ok.ensures.made

pub returns-in-Ok : goal.returns-in-Ok
returns-in-Ok g c =
    answers_trace g.F.Files c.args.files.now c.make_trace.new.files g.O.Sink c.args.out.now c.deliver.new.out g.E.Sink c.args.report.now c.deliver.new.report
    c.never_usable_and_refused.ensures (job_of c.args.job.now) c.requires.within c.in-Ok.traced c.in-Ok.ensures c.status.result c.status.ensures c.deliver.result
    (λ text told. subst (λ bytes. HandsOver g.O.Sink c.args.out.now c.deliver.new.out bytes g.E.Sink c.args.report.now c.deliver.new.report text c.status.result c.deliver.result)
    c.deref.ensures.value (c.deliver.ensures text told))

pub returns-in-Err : goal.returns-in-Err
returns-in-Err g c =
    rw c.refuse.ensures.status (answers_refused g.F.Files c.args.files.now c.make_trace.new.files g.O.Sink c.args.out.now c.args.out.now g.E.Sink c.args.report.now c.refuse.new.sink
    c.never_usable_and_refused.ensures (Trace (job_of c.args.job.now)) c.requires.within c.in-Err.refusal c.in-Err.ensures c.refuse.ensures.tells refl)
