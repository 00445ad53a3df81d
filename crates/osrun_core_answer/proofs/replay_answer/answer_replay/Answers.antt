use Rattle.std.proofs.Common.{refl, subst}
use Rattle.osrun_core_answer.proofs.Answering.{answers_refused, answers_told, answers_whole, replay_reported}
use Rattle.osrun_core_answer.specs.Made.{IsReplayedOf}
use Rattle.osrun_core_jobs.specs.HandsOver.{HandsOver}
use Rattle.osrun_core_jobs.specs.Jobs.{Replay, replay_of}
use Rattle.osrun_core_jobs.specs.Telling.{Tells}
use Rattle.osrun_core_answer.proofs.replay_answer.answer_replay.Goals as goal

pub deliver-requires : goal.deliver-requires
deliver-requires g c = replay_reported g.F.Files c.args.files.now c.make_replay.new.files (replay_of c.args.job.now) c.in-Ok-Whole.run'
    (subst (IsReplayedOf g.F.Files c.args.files.now c.make_replay.new.files (replay_of c.args.job.now)) c.in-Ok-Whole.field-0-is c.in-Ok-Whole.ensures)

pub returns-in-Ok-Whole : goal.returns-in-Ok-Whole
returns-in-Ok-Whole g c =
    answers_whole g.F.Files c.args.files.now c.make_replay.new.files g.O.Sink c.args.out.now c.deliver.new.out g.E.Sink c.args.report.now c.deliver.new.report
    c.never_usable_and_refused.ensures (replay_of c.args.job.now) c.requires.within c.in-Ok-Whole.run'
    (subst (IsReplayedOf g.F.Files c.args.files.now c.make_replay.new.files (replay_of c.args.job.now)) c.in-Ok-Whole.field-0-is c.in-Ok-Whole.ensures) c.status.result c.status.ensures c.deliver.result
    (λ text told. subst (λ bytes. HandsOver g.O.Sink c.args.out.now c.deliver.new.out bytes g.E.Sink c.args.report.now c.deliver.new.report text c.status.result c.deliver.result)
    c.deref.ensures.value (c.deliver.ensures text told))

pub returns-in-Ok-Told : goal.returns-in-Ok-Told
returns-in-Ok-Told g c =
    answers_told g.F.Files c.args.files.now c.make_replay.new.files g.O.Sink c.args.out.now c.args.out.now g.E.Sink c.args.report.now c.tell.new.sink
    c.never_usable_and_refused.ensures (replay_of c.args.job.now) c.requires.within c.in-Ok-Told.line
    (subst (IsReplayedOf g.F.Files c.args.files.now c.make_replay.new.files (replay_of c.args.job.now)) c.in-Ok-Told.field-0-is c.in-Ok-Told.ensures) refl
    (subst (Tells g.E.Sink c.args.report.now c.tell.new.sink) c.as_bytes.ensures.value c.tell.ensures)

pub returns-in-Err : goal.returns-in-Err
returns-in-Err g c =
    rw c.refuse.ensures.status (answers_refused g.F.Files c.args.files.now c.make_replay.new.files g.O.Sink c.args.out.now c.args.out.now g.E.Sink c.args.report.now c.refuse.new.sink
    c.never_usable_and_refused.ensures (Replay (replay_of c.args.job.now)) c.requires.within c.in-Err.refusal c.in-Err.ensures c.refuse.ensures.tells refl)
