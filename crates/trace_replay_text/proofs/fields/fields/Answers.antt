use Rattle.std.proofs.Common.{◌<◌, length, arith}
use Rattle.trace_replay_text.proofs.Cutting.{none_onwards, more_onwards, fields_push, frames_push}
use Rattle.trace_replay_text.proofs.fields.fields.Goals as goal

pub returns-in_default-clause-none : goal.returns-in_default-clause-none
returns-in_default-clause-none c =
    let some : 0 < length c.loop-rest.rest.now = grind (arith, c.loop-rest-test.true, c.is_empty.ensures) in
    none_onwards c.args.text.now c.loop-rest.rest.now c.loop-rest.invariant.onwards some c.in_default.ensures.none

pub loop-rest-preserved : goal.loop-rest-preserved
loop-rest-preserved c =
    let frame = c.in-Some.frame in
    let after = c.in-Some.after.now in
    let rest = c.loop-rest.rest.now in
    record {
      numbers = frames_push c.loop-rest.frames c.push.new.self frame c.loop-rest.invariant.numbers c.in-Some.ensures.some.0 c.in_ok-push.ensures.ok;
      spelled = fields_push c.args.text.now rest after c.loop-rest.frames c.push.new.self frame c.loop-rest.invariant.spelled c.in-Some.ensures.some.1 c.in_ok-push.ensures.ok;
      onwards = more_onwards c.args.text.now rest after frame c.loop-rest.invariant.onwards c.in-Some.ensures.some.0 c.in-Some.ensures.some.1 c.in-Some.ensures.rest;
    }
