use Rattle.epoch_run_portions.proofs.Portions.{grows, may_run, not_true, some_within, stands_next}
use Rattle.epoch_run_portions.proofs.portion.run_stretch.Goals as goal

pub run_all-requires-clause-next : goal.run_all-requires-clause-next
run_all-requires-clause-next c =
    may_run c.args.code.now c.args.input.now c.args.budget c.args.walk.now c.args.apart.now c.requires.stands c.args.at_most c.next_stretch.new.self.control c.next_stretch.new.self.activations
    c.in_ok-ended.ended c.in_ok-ended.ensures.given c.as_slice.result.now c.next_stretch.new.self.positions c.as_slice.ensures c.in_ok-ended.ensures.same

pub returns-then-all-clause-within : goal.returns-then-all-clause-within
returns-then-all-clause-within c =
    some_within c.args.code.now c.args.input.now c.args.budget c.args.walk.now c.args.apart.now c.requires.stands c.args.at_most c.next_stretch.new.self.control c.next_stretch.new.self.activations
    c.in_ok-ended.ended c.in_ok-ended.ensures.given c.as_slice.result.now c.next_stretch.new.self.positions c.as_slice.ensures c.in_ok-ended.ensures.same c.run_all.new.apart c.in_ok-all.all c.in_ok-all.ensures.ran

pub returns-else-all-clause-within : goal.returns-else-all-clause-within
returns-else-all-clause-within c =
    some_within c.args.code.now c.args.input.now c.args.budget c.args.walk.now c.args.apart.now c.requires.stands c.args.at_most c.next_stretch.new.self.control c.next_stretch.new.self.activations
    c.in_ok-ended.ended c.in_ok-ended.ensures.given c.as_slice.result.now c.next_stretch.new.self.positions c.as_slice.ensures c.in_ok-ended.ensures.same c.run_all.new.apart c.in_ok-all.all c.in_ok-all.ensures.ran

pub returns-then-all-clause-stands : goal.returns-then-all-clause-stands
returns-then-all-clause-stands c = λ _.
    stands_next c.args.code.now c.args.input.now c.args.budget c.args.walk.now c.args.apart.now c.requires.stands c.args.at_most c.next_stretch.new.self.control c.next_stretch.new.self.activations
    c.in_ok-ended.ended c.in_ok-ended.ensures.given c.as_slice.result.now c.next_stretch.new.self.positions c.as_slice.ensures c.in_ok-ended.ensures.same c.run_all.new.apart c.in_ok-all.all c.in_ok-all.ensures.ran
    c.if-all.true c.run_all.new.positions (c.in_ok-all.ensures.passed c.if-all.true) c.next_stretch.new.self.activations

pub returns-then-all-clause-grows : goal.returns-then-all-clause-grows
returns-then-all-clause-grows c = λ going.
    grows c.args.code.now c.args.input.now c.args.budget c.args.walk.now c.args.apart.now c.requires.stands c.args.at_most c.next_stretch.new.self.control c.next_stretch.new.self.activations
    c.in_ok-ended.ended c.in_ok-ended.ensures.given c.as_slice.result.now c.next_stretch.new.self.positions c.as_slice.ensures c.in_ok-ended.ensures.same c.run_all.new.apart c.in_ok-all.all c.in_ok-all.ensures.ran
    c.if-all.true c.run_all.new.positions (c.in_ok-all.ensures.passed c.if-all.true) (not_true c.in_ok-ended.ended going)
