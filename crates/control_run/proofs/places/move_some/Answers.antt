use Rattle.std.proofs.Common.{sym, append-nil, ◌∙◌, arith}
use Rattle.control_run.proofs.InPlace.{all-left, one-less, one-moved, on-ok}
use Rattle.control_run.proofs.places.move_some.Goals as goal

pub loop-moved-init : goal.loop-moved-init
loop-moved-init c = record { moved = sym (append-nil _); left = all-left _ _ }

pub take_out-one-requires : goal.take_out-one-requires
take_out-one-requires c =
    let size = c.loop-moved.invariant.left.as_many in
    let there = c.requires.there in
    let order = c.requires.order in
    let few = c.loop-moved-test.true in
    omega (arith, size, there, order, few)

pub loop-moved-preserved : goal.loop-moved-preserved
loop-moved-preserved c =
    let there = c.requires.there in
    let order = c.requires.order in
    let few = c.loop-moved-test.true in
    record {
      moved = one-moved _ _ _ _ _ _ _ _ (omega (arith, there, order, few)) c.loop-moved.invariant.left c.take_out-one.ensures.taken c.loop-moved.invariant.moved
          (on-ok c.push.result _ c.push.ensures.ok (sym c.is_err.ensures.value ∙ c.if-is_err.false));
      left = one-less _ _ _ _ _ (omega arith) c.take_out-one.ensures.left c.loop-moved.invariant.left;
    }
