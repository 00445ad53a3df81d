use Rattle.std.proofs.Common.{arith, ap, ◌∙◌, ◌≡◌, ◌+◌, length}
use Rattle.flow_core_laws.specs.declared.plan.FramePlan.{FramePlan}
use Rattle.flow_core_laws.specs.declared.plan.Plan.{Plan}
use Rattle.flow_core_laws.specs.Plans.{frame_at}
use Rattle.frame_table.specs.Tokens.{known_of, view_of}
use Rattle.task_workers_worker.proofs.Going.{next_piece, place_of, few_of}
use Rattle.steal_pool.specs.Hands.{pushed_by}
use Rattle.task_workers_worker.specs.Ready.{frames_of}
use Rattle.task_workers_worker.proofs.Deques.{keeps_on}
use Rattle.task_workers_worker.proofs.Turns.{gave_on}
use Rattle.task_workers_worker.proofs.running.give.Goals as goal

pub overflow_add-piece-end : goal.overflow_add-piece-end
overflow_add-piece-end c =
    let t = c.args.table.now in
    let e = place_of (known_of t).plan t.plan.now c.args.frame c.frame-place.result t.plan_is (c.frame-place.ensures ∙ ap (λ (p : Plan). frame_at p c.args.frame) c.plan.ensures) in
    let p = few_of (known_of t) t.plan.now c.args.frame t.fit t.plan_is c.requires.exists in
    let f : (frame_at (known_of t).plan c.args.frame).piece + (frame_at (known_of t).plan c.args.frame).pieces ≡ c.frame-place.result.piece + c.frame-place.result.pieces = ap (λ (f : FramePlan). f.piece + f.pieces) e in
    omega (arith, p, f)

pub give_one-requires-clause-may_deliver : goal.give_one-requires-clause-may_deliver
give_one-requires-clause-may_deliver c =
    let t = c.args.table.now in
    let meant = c.requires.meant in
    let l = c.loop-piece.invariant in
    let e = place_of (known_of t).plan t.plan.now c.args.frame c.frame-place.result t.plan_is (c.frame-place.ensures ∙ ap (λ (p : Plan). frame_at p c.args.frame) c.plan.ensures) in
    let f : (frame_at (known_of t).plan c.args.frame).piece + (frame_at (known_of t).plan c.args.frame).pieces ≡ c.frame-place.result.piece + c.frame-place.result.pieces = ap (λ (f : FramePlan). f.piece + f.pieces) e in
    let n : length (known_of t).plan.frames ≡ length t.plan.now.frames = ap (λ (p : Plan). length p.frames) t.plan_is in
    let high = c.loop-piece-test.true in
    let r = next_piece (known_of t) (view_of c.loop-piece.seat) c.args.frame c.loop-piece.piece meant.0 t.fit (omega (arith, n, c.requires.exists)) l.5 (omega (arith, f, high)) meant.1 l.1 in
    (r.0, meant.0, r.2, meant.2, meant.3)

pub loop-piece-preserved : goal.loop-piece-preserved
loop-piece-preserved c =
    let l = c.loop-piece.invariant in
    let low = l.5 in
    let t = c.args.table.now in (
      c.give_one.ensures.of_this_table,
      c.give_one.ensures.runs,
      gave_on (frames_of t) (view_of c.args.seat.now) (view_of c.loop-piece.seat) (view_of c.give_one.new.seat) (pushed_by c.args.hand.now) (pushed_by c.loop-piece.hand) (pushed_by c.give_one.new.hand) l.2 c.give_one.ensures.gave,
      c.give_one.ensures.serves,
      c.give_one.ensures.asks ∙ l.4,
      omega (arith, low),
      keeps_on c.args.hand.now c.loop-piece.hand c.give_one.new.hand l.6 c.give_one.ensures.deques,
    )
