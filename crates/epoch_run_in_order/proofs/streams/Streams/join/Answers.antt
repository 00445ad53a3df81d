use Rattle.std.proofs.Common.{arith}
use Rattle.epoch_run_in_order.proofs.Joined.{all_joined, none_joined, one_joined}
use Rattle.epoch_run_in_order.proofs.streams.Streams.join.Goals as goal

pub loop-stream-init : goal.loop-stream-init
loop-stream-init c = none_joined c.args.self.now c.args.other.now

pub loop-stream-preserved : goal.loop-stream-preserved
loop-stream-preserved c =
    one_joined c.loop-stream.stream c.args.self.now c.args.other.now c.loop-stream.self c.join_on.new.self
    (omega (arith, c.loop-stream-test.true, c.len-stream-end.ensures)) c.loop-stream.invariant c.in_ok-join_on.ensures

pub returns : goal.returns
returns c = all_joined c.loop-stream.stream c.args.self.now c.args.other.now c.loop-stream.self (omega (arith, c.loop-stream-test.false, c.len-stream-end.ensures)) c.loop-stream.invariant
