use Rattle.std.proofs.Common.{◌≡◌, List, false, true, rules, subst}
use Rattle.flow_core_laws.specs.declared.activation.Activation.{Activation}
use Rattle.stream_match_layouts.proofs.Appending.{take_next}
use Rattle.epoch_run_portions.specs.Positions.{HavePassed}
use Rattle.epoch_run_portions.proofs.OneByOne.{may_next, one_more, stopped_there}
use Rattle.epoch_run_portions.proofs.running.run_all.Goals as goal

pub run_next-requires-clause-next : goal.run_next-requires-clause-next
run_next-requires-clause-next c =
    let l = c.loop-activation in
    may_next c.args.code.now c.args.activations.now c.args.positions.now c.args.apart.now c.requires.next c.args.input.now c.args.budget
    l.activation-index c.activation-item.result c.loop-activation-test.true c.activation-item.is l.positions l.apart l.invariant.ran l.invariant.passed

pub returns-then-not-goes_on-clause-ran : goal.returns-then-not-goes_on-clause-ran
returns-then-not-goes_on-clause-ran c =
    let l = c.loop-activation in
    let stopped : c.in_ok-goes_on.goes_on ≡ false = first_of (cc, search rules) in
    stopped_there c.args.code.now c.args.activations.now c.args.positions.now c.args.apart.now c.requires.next c.args.input.now c.args.budget
    l.activation-index c.activation-item.result c.loop-activation-test.true c.activation-item.is l.positions l.apart l.invariant.ran l.invariant.passed
    c.run_next.new.apart (c.in_ok-goes_on.ensures.stopped stopped)

pub loop-activation-preserved : goal.loop-activation-preserved
loop-activation-preserved c =
    let l = c.loop-activation in
    let on : c.in_ok-goes_on.goes_on ≡ true = first_of (cc, search rules) in
    record {
      ran = one_more c.args.code.now c.args.activations.now c.args.positions.now c.args.apart.now c.requires.next c.args.input.now c.args.budget
          l.activation-index c.activation-item.result c.loop-activation-test.true c.activation-item.is l.positions l.apart l.invariant.ran l.invariant.passed
          c.run_next.new.apart (c.in_ok-goes_on.ensures.went on);
      passed = λ before h. subst (λ (xs : List Activation). HavePassed c.args.code.now.streams xs c.run_next.new.positions)
          (take_next before c.args.activations.now l.activation-index c.activation-item.result c.loop-activation-test.true c.activation-item.is)
          (c.in_ok-goes_on.ensures.passed _ (l.invariant.passed before h));
    }
