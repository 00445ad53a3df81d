use Rattle.std.proofs.Common.{arith, sym, subst, ℕ, List}
use Rattle.trace_replay.specs.Standing.{Stands}
use Rattle.trace_replay.proofs.Owning.{made_of}
use Rattle.trace_replay.proofs.Standing.{stands_first}
use Rattle.trace_replay.proofs.replaying.replay_frames.Goals as goal

pub run_heads-requires-clause-stands : goal.run_heads-requires-clause-stands
run_heads-requires-clause-stands g c κs within =
    let long = c.in_ok-resize.ensures.len in
    let ok = c.resize.new.self.ok.0 in
    let board = c.in_ok-board.ensures in
    subst (λ (places : List ℕ). Stands c.args.plan.now (g.B.Bodies.outcome c.args.bodies.now) c.args.lists.now places c.in_ok-board.board) (sym c.as_mut_slice.ensures.value)
    (stands_first c.args.plan.now (g.B.Bodies.outcome c.args.bodies.now) c.args.lists.now c.resize.new.self.items c.in_ok-board.board board.counted board.filled board.waiting (omega (arith, long, ok)) (made_of _ c.new-places.result.items c.resize.new.self.items _ 0 c.new-places.ensures.items c.in_ok-resize.ensures.items))
