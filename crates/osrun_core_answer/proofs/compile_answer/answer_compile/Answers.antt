use Rattle.std.proofs.Common.{[], refl, subst}
use Rattle.osrun_core_answer.proofs.Answering.{answers_compile, answers_refused}
use Rattle.osrun_core_jobs.specs.HandsOver.{HandsOver}
use Rattle.osrun_core_jobs.specs.Jobs.{Compile, compile_of}
use Rattle.osrun_core_jobs.specs.declared.status.Status.TheVariants as statuses
use Rattle.osrun_core_answer.proofs.compile_answer.answer_compile.Goals as goal

pub returns-in-Ok : goal.returns-in-Ok
returns-in-Ok g c =
    answers_compile g.F.Files c.args.files.now c.make_object.new.files g.O.Sink c.args.out.now c.deliver.new.out g.E.Sink c.args.report.now c.deliver.new.report
    c.never_usable_and_refused.ensures (compile_of c.args.job.now) c.in-Ok.object.items c.in-Ok.ensures c.deliver.result
    (subst (λ bytes. HandsOver g.O.Sink c.args.out.now c.deliver.new.out bytes g.E.Sink c.args.report.now c.deliver.new.report [] statuses.AllDone c.deliver.result)
    c.deref.ensures.value (c.deliver.ensures [] refl))

pub returns-in-Err : goal.returns-in-Err
returns-in-Err g c =
    rw c.refuse.ensures.status (answers_refused g.F.Files c.args.files.now c.make_object.new.files g.O.Sink c.args.out.now c.args.out.now g.E.Sink c.args.report.now c.refuse.new.sink
    c.never_usable_and_refused.ensures (Compile (compile_of c.args.job.now)) tt c.in-Err.refusal c.in-Err.ensures c.refuse.ensures.tells refl)
