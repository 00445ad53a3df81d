use Rattle.std.proofs.Common.{ap, length, ◌∙◌}
use Rattle.epoch_run_portions.proofs.OneByOne.{exist, has_begun, has_run, is_next}
use Rattle.epoch_run_portions.proofs.Passing.{length-writes}
use Rattle.epoch_run_portions.proofs.running.run_next.Goals as goal

pub run-requires-clause-next : goal.run-requires-clause-next
run-requires-clause-next c =
    is_next c.args.code.now c.args.activation.now c.args.positions.now c.args.apart.now c.requires.next c.as_slice.result.now
    (λ streams passed h. c.as_slice.ensures.value ∙ c.in_ok-pass.ensures.spans streams passed h)

pub run-requires-clause-exist : goal.run-requires-clause-exist
run-requires-clause-exist c =
    exist c.args.code.now c.args.activation.now c.args.positions.now c.args.apart.now c.requires.next c.as_slice.result.now
    (λ streams passed h. c.as_slice.ensures.value ∙ c.in_ok-pass.ensures.spans streams passed h)

pub returns-then-ran-clause-went : goal.returns-then-ran-clause-went
returns-then-ran-clause-went c = λ _.
    has_run c.args.code.now c.args.activation.now c.args.positions.now c.args.apart.now c.requires.next c.as_slice.result.now
    (λ streams passed h. c.as_slice.ensures.value ∙ c.in_ok-pass.ensures.spans streams passed h)
    c.args.input.now c.args.budget c.run.new.self c.in_ok-ran.ensures.ready c.in_ok-ran.ensures.first (c.in_ok-ran.ensures.count c.if-ran.true) (c.in_ok-ran.ensures.ran c.if-ran.true)

pub behind-requires : goal.behind-requires
behind-requires c = record {
  streams =
      ap length c.as_slice-2.ensures
      ∙ length-writes c.args.code.now.streams _ c.pass.new.self (c.in_ok-pass.ensures.passed c.args.code.now.streams c.requires.next.passed c.requires.next.have_passed);
}

pub returns-clause-went : goal.returns-clause-went
returns-clause-went c = λ _.
    has_begun c.args.code.now c.args.activation.now c.args.positions.now c.args.apart.now c.requires.next c.pass.new.self (c.in_ok-pass.ensures.passed c.args.code.now.streams)
    c.args.input.now c.args.budget c.as_slice-2.result.now c.in_ok-apart.field-0 c.as_slice-2.ensures c.in_ok-apart.ensures.ready c.in_ok-apart.ensures.first c.in_ok-apart.ensures.none c.in_ok-apart.ensures.stands
