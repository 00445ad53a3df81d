use Rattle.std.proofs.Common.{arith, rules}
use Rattle.std.specs.Prelude.{IsTrue}
use Rattle.epoch_run.proofs.in_order.run_stretches.Goals as goal

pub stretches-init : goal.stretches-init
stretches-init g c = record { ran = c.requires.ran; no_fewer = omega arith }

pub run_stretch-requires-clause-ran : goal.run_stretch-requires-clause-ran
run_stretch-requires-clause-ran g c κs within = c.stretches.invariant.ran

pub stretches-smaller : goal.stretches-smaller
stretches-smaller g c =
    let on : IsTrue c.in_ok-goes_on.goes_on = search rules in
    let few = c.in_ok-goes_on.ensures.goes.laid_out.lawful.activations_are_few in
    let grew = c.in_ok-goes_on.ensures.grows (c.in_ok-goes_on.ensures.more on) in
    omega (arith, few, grew)

pub stretches-preserved : goal.stretches-preserved
stretches-preserved g c =
    let on : IsTrue c.in_ok-goes_on.goes_on = search rules in
    let grew = c.in_ok-goes_on.ensures.grows (c.in_ok-goes_on.ensures.more on) in
    let before = c.stretches.invariant.no_fewer in
    record { ran = c.in_ok-goes_on.ensures.all on; no_fewer = omega (arith, grew, before) }

pub returns-clause-grows : goal.returns-clause-grows
returns-clause-grows g c = λ going.
    let grew = c.in_ok-goes_on.ensures.grows going in
    let before = c.stretches.invariant.no_fewer in
    omega (arith, grew, before)
