use Rattle.std.proofs.Common.{arith, ◌+◌, refl, ◌∙◌}
use Rattle.frame_table.specs.Tokens.{view_of}
use Rattle.steal_pool.specs.Hands.{pushed_by, asks_of}
use Rattle.task_workers_worker.specs.Ready.{frames_of}
use Rattle.task_workers_worker.proofs.Deques.{keeps_same, keeps_on}
use Rattle.task_workers_worker.proofs.Turns.{worked_nothing, worked_on, asked_more, looks_more}
use Rattle.task_workers_worker.proofs.working.work.Goals as goal

pub loop-seat-preserved : goal.loop-seat-preserved
loop-seat-preserved g c =
    let t = c.args.table.now in
    let l = c.loop-seat.invariant in (
      c.turn.ensures.fits,
      c.turn.ensures.may_work,
      worked_on (frames_of t) (view_of c.args.seat) (view_of c.loop-seat.seat) (view_of c.turn.new.seat) (pushed_by c.args.hand.now) (pushed_by c.loop-seat.hand) (pushed_by c.turn.new.hand) c.args.log.now.frames.items c.loop-seat.log.frames.items c.turn.new.log.frames.items l.2 c.turn.ensures.worked,
      c.turn.ensures.worker ∙ l.3,
      l.4 + 1,
      asked_more (asks_of c.args.hand.now) (asks_of c.loop-seat.hand) (asks_of c.turn.new.hand) l.4 l.5 c.turn.ensures.asks,
      λ none. looks_more (view_of c.loop-seat.seat).looks (view_of c.turn.new.seat).looks l.4 (l.6 none) c.turn.ensures.few_looks,
      keeps_on c.args.hand.now c.loop-seat.hand c.turn.new.hand l.7 c.turn.ensures.deques,
    )

pub returns-then-frames-eq0-clause-worked : goal.returns-then-frames-eq0-clause-worked
returns-then-frames-eq0-clause-worked g c = worked_nothing (frames_of c.args.table.now) (view_of c.args.seat) (pushed_by c.args.hand.now) c.args.log.now.frames.items

pub returns-then-frames-eq0-clause-asks : goal.returns-then-frames-eq0-clause-asks
returns-then-frames-eq0-clause-asks g c = (0, omega arith, λ none. omega (arith, none))

pub loop-seat-init : goal.loop-seat-init
loop-seat-init g c = (c.requires.fits, c.requires.may_work, worked_nothing (frames_of c.args.table.now) (view_of c.args.seat) (pushed_by c.args.hand.now) c.args.log.now.frames.items, refl, 0, omega arith, λ none. omega (arith, none), keeps_same c.args.hand.now)

pub returns-then-frames-eq0-clause-deques : goal.returns-then-frames-eq0-clause-deques
returns-then-frames-eq0-clause-deques g c = keeps_same c.args.hand.now
