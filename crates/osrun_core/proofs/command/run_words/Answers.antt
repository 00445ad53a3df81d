use Rattle.std.proofs.Common.{◌∙◌, inl, Err, Some, ap, refl, subst}
use Rattle.osrun_core_answer.proofs.Answering.{answers_gen, answers_unasked, answers_unmade}
use Rattle.osrun_core_jobs.specs.Jobs.{IsRequestWithin, gen_of, request_of}
use Rattle.osrun_core_words.specs.Command.{command, texts}
use Rattle.osrun_core.proofs.command.run_words.Goals as goal

pub answer_run-requires-clause-may : goal.answer_run-requires-clause-may
answer_run-requires-clause-may g c lifetimes live =
    c.requires _ (c.in-Ok-Run.ensures.request ∙ ap (λ r. Some (request_of r)) c.in-Ok-Run.field-0-is)

pub returns-in-Ok-Run : goal.returns-in-Ok-Run
returns-in-Ok-Run g c =
    rw (c.in-Ok-Run.ensures.request, c.in-Ok-Run.field-0-is, c.code.ensures) c.answer_run.ensures

pub returns-in-Ok-Gen : goal.returns-in-Ok-Gen
returns-in-Ok-Gen g c =
    rw (c.in-Ok-Gen.ensures.request, c.in-Ok-Gen.field-0-is, c.code-in-Ok-Gen.ensures)
    (answers_gen g.F.Files c.args.files.now g.O.Sink c.args.out.now c.answer_gen.new.out g.E.Sink c.args.report.now c.answer_gen.new.report
    c.never_usable_and_refused.ensures (gen_of c.in-Ok-Gen.job)
    (subst (λ r. IsRequestWithin (request_of r)) c.in-Ok-Gen.field-0-is c.in-Ok-Gen.ensures.within) c.answer_gen.result c.answer_gen.ensures)

pub returns-in-Err-Refused : goal.returns-in-Err-Refused
returns-in-Err-Refused g c =
    rw c.code-in-Err-Refused.ensures (answers_unasked g.F.Files c.args.files.now g.O.Sink c.args.out.now g.E.Sink c.args.report.now c.tell.new.sink (command (texts c.args.words.now))
    (c.in-Err-Refused.ensures.refused (ap Err c.in-Err-Refused.field-0-is)) c.tell.ensures)

pub returns-in-Err-Memory : goal.returns-in-Err-Memory
returns-in-Err-Memory g c =
    rw c.code-in-Err-Memory.ensures (answers_unmade g.F.Files c.args.files.now c.args.files.now g.O.Sink c.args.out.now c.args.out.now g.E.Sink c.args.report.now c.args.report.now
    (command (texts c.args.words.now)) (inl refl) refl refl)

pub answer_compile-requires : goal.answer_compile-requires
answer_compile-requires g c =
    c.requires _ (c.in-Ok-Compile.ensures.request ∙ ap (λ r. Some (request_of r)) c.in-Ok-Compile.field-0-is)

pub returns-in-Ok-Compile : goal.returns-in-Ok-Compile
returns-in-Ok-Compile g c =
    rw (c.in-Ok-Compile.ensures.request, c.in-Ok-Compile.field-0-is, c.code-in-Ok-Compile.ensures) c.answer_compile.ensures

pub answer_exec-requires-clause-may : goal.answer_exec-requires-clause-may
answer_exec-requires-clause-may g c lifetimes live =
    c.requires _ (c.in-Ok-Exec.ensures.request ∙ ap (λ r. Some (request_of r)) c.in-Ok-Exec.field-0-is)

pub returns-in-Ok-Exec : goal.returns-in-Ok-Exec
returns-in-Ok-Exec g c =
    rw (c.in-Ok-Exec.ensures.request, c.in-Ok-Exec.field-0-is, c.code-in-Ok-Exec.ensures) c.answer_exec.ensures

pub answer_explain-requires-clause-may : goal.answer_explain-requires-clause-may
answer_explain-requires-clause-may g c lifetimes live =
    c.requires _ (c.in-Ok-Explain.ensures.request ∙ ap (λ r. Some (request_of r)) c.in-Ok-Explain.field-0-is)

pub returns-in-Ok-Explain : goal.returns-in-Ok-Explain
returns-in-Ok-Explain g c =
    rw (c.in-Ok-Explain.ensures.request, c.in-Ok-Explain.field-0-is, c.code-in-Ok-Explain.ensures) c.answer_explain.ensures

pub answer_trace-requires-clause-may : goal.answer_trace-requires-clause-may
answer_trace-requires-clause-may g c lifetimes live =
    c.requires _ (c.in-Ok-Trace.ensures.request ∙ ap (λ r. Some (request_of r)) c.in-Ok-Trace.field-0-is)

pub returns-in-Ok-Trace : goal.returns-in-Ok-Trace
returns-in-Ok-Trace g c =
    rw (c.in-Ok-Trace.ensures.request, c.in-Ok-Trace.field-0-is, c.code-in-Ok-Trace.ensures) c.answer_trace.ensures

pub answer_replay-requires-clause-may : goal.answer_replay-requires-clause-may
answer_replay-requires-clause-may g c =
    c.requires _ (c.in-Ok-Replay.ensures.request ∙ ap (λ r. Some (request_of r)) c.in-Ok-Replay.field-0-is)

pub returns-in-Ok-Replay : goal.returns-in-Ok-Replay
returns-in-Ok-Replay g c =
    rw (c.in-Ok-Replay.ensures.request, c.in-Ok-Replay.field-0-is, c.code-in-Ok-Replay.ensures) c.answer_replay.ensures
