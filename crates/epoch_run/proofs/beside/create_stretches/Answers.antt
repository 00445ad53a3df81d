use Rattle.std.proofs.Common.{◌≡◌, ◌+◌, ◌-◌, false, ap, arith, length, subst, sym, ◌∙◌}
use Rattle.std.specs.Prelude.{nat_lt}
use Rattle.control_run.specs.Stretches.{remaining}
use Rattle.epoch_run.specs.Standing.{HasCreated}
use Rattle.epoch_run.proofs.Stretches.{fewer, goes_on}
use Rattle.epoch_run.proofs.beside.create_stretches.Goals as goal

pub stretches-init : goal.stretches-init
stretches-init c =
    let n = c.stretch_of-count.result in
    let all = c.args.size.activations in
    let is : n ≡ all - (all - n) = omega (arith, c.stretch_of-count.ensures.few) in
    record {
      some = omega (arith, c.stretch_of-count.ensures.some, c.stretch_of-count.ensures.few);
      created = subst (λ k. HasCreated k c.args.control.now c.create.new.control c.args.next.now c.create.new.next) is c.in_ok-ended.ensures.created;
      told = c.in_ok-ended.ensures.answer ∙ ap (nat_lt (length (remaining c.args.control.now))) is;
    }

pub stretches-preserved : goal.stretches-preserved
stretches-preserved c =
    let n = c.stretch_of-count-in-stretches.result in
    let left = c.stretches.left in
    let m = c.args.size.activations - left in
    let i = c.stretches.invariant in
    let is : m + n ≡ c.args.size.activations - (left - n) = omega (arith, i.some, c.stretch_of-count-in-stretches.ensures.few) in
    let enough : nat_lt (length (remaining c.args.control.now)) m ≡ false = sym i.told ∙ c.stretches-test.true in
    record {
      some = omega (arith, i.some, c.stretch_of-count-in-stretches.ensures.some, c.stretch_of-count-in-stretches.ensures.few);
      created =
          subst (λ k. HasCreated k c.args.control.now c.create-in-stretches.new.control c.args.next.now c.create-in-stretches.new.next) is
          (goes_on m n c.args.control.now c.stretches.control c.create-in-stretches.new.control c.args.next.now c.stretches.next c.create-in-stretches.new.next enough i.created c.in_ok-ended-2.ensures.created);
      told =
          c.in_ok-ended-2.ensures.answer
          ∙ fewer m n c.args.control.now c.stretches.control c.create-in-stretches.new.control c.args.next.now c.stretches.next c.create-in-stretches.new.next enough i.created c.in_ok-ended-2.ensures.created
          ∙ ap (nat_lt (length (remaining c.args.control.now))) is;
    }

pub returns-else-elements-size : goal.returns-else-elements-size
returns-else-elements-size c =
    let i = c.stretches.invariant in
    record { count = c.args.size.activations - c.stretches.left; some = omega (arith, i.some); few = omega arith; created = i.created }

pub returns-else-left-gt0 : goal.returns-else-left-gt0
returns-else-left-gt0 c =
    let i = c.stretches.invariant in
    record { count = c.args.size.activations - c.stretches.left; some = omega (arith, i.some); few = omega arith; created = i.created }

pub returns-after-stretches : goal.returns-after-stretches
returns-after-stretches c =
    let i = c.stretches.invariant in
    record { count = c.args.size.activations - c.stretches.left; some = omega (arith, i.some); few = omega arith; created = i.created }
