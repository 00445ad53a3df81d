use Rattle.std.proofs.Common.{◌∷◌, [], length, length-append, ap, arith}
use Rattle.trace_replay_text.proofs.Traces.{lists_push, trace_push}
use Rattle.trace_replay_text.proofs.reading.read_trace.Goals as goal

pub loop-worker-preserved : goal.loop-worker-preserved
loop-worker-preserved c =
    let lists = c.loop-worker.lists in
    let frames = c.in_ok-frames.frames in
    let new = c.push.new.self in
    record {
      counted = let is = ap length c.in_ok-push.ensures.ok in let both = length-append lists (frames ∷ []) in let before = c.loop-worker.invariant.counted in omega (arith, is, both, before);
      numbers = lists_push lists new frames c.loop-worker.invariant.numbers c.in_ok-frames.ensures.ok.0 c.in_ok-push.ensures.ok;
      spelled = trace_push c.args.text.now c.loop-worker.rest.now c.in_ok-frames.after.now frames lists new c.loop-worker.worker c.loop-worker.invariant.counted
          c.loop-worker.invariant.spelled c.in_ok-frames.ensures.ok.1 c.in_ok-push.ensures.ok;
    }
