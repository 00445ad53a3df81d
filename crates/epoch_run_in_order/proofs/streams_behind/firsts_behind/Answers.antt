use Rattle.epoch_run_in_order.proofs.StreamsBehind.{first_more}
use Rattle.epoch_run_in_order.proofs.streams_behind.firsts_behind.Goals as goal

pub loop-stream-preserved : goal.loop-stream-preserved
loop-stream-preserved c =
    first_more c.args.layout.now c.loop-stream.stream c.first_on.result c.loop-stream.firsts c.push.new.self c.loop-stream.invariant c.first_on.ensures c.in_ok-push.ensures.ok
