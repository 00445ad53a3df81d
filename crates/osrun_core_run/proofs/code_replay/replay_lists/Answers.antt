use Rattle.std.proofs.Common.{subst}
use Rattle.std.specs.Prelude.{IfOk}
use Rattle.epoch_run_bodies.specs.Frames.{frame_outcome}
use Rattle.os_code.specs.Codes.{parts_of}
use Rattle.osrun_core_run.proofs.code_replay.replay_lists.Goals as goal
use Rattle.trace_replay_laws.specs.Answers.{IsAnswer}

pub returns : goal.returns
returns c =
    let code = parts_of c.args.code.now in
    subst (λ xs. IfOk c.replay.result (IsAnswer c.args.plan.now (frame_outcome code xs c.args.task_budget) c.args.lists.now)) c.as_slice.ensures c.replay.ensures
