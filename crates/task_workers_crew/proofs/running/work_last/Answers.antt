use Rattle.std.proofs.Common.{arith, sym, ap, subst, ◌∙◌, ◌≡◌, ◌+◌, ◌<◌, ◌++◌, length}
use Rattle.flow_core_concurrent.specs.States.{times}
use Rattle.frame_table.specs.Tokens.{view_of}
use Rattle.task_workers_crew.specs.declared.crew.Worker.{Worker}
use Rattle.task_workers_crew.proofs.Logged.{at_mapped, times-append, times_went_on}
use Rattle.task_workers_crew.proofs.running.work_last.Goals as goal

pub work_on-requires-clause-fits : goal.work_on-requires-clause-fits
work_on-requires-clause-fits g c κs within =
    let some = c.requires.some in
    let same = c.join_seats-seat.ensures.same in
    let v = c.index-crew-0.result in
    subst (λ s. g.B.Bodies.fits c.args.bodies.now s) (sym (at_mapped (λ (w : Worker _). w.scratch) c.join_seats-seat.new.crew c.args.crew.now 0 v v c.join_seats-seat.ensures.scratches (omega (arith, some, same)) some)) (c.requires.fits 0 v some)

pub returns-clause-ran : goal.returns-clause-ran
returns-clause-ran g c = λ f.
    let some = c.requires.some in
    let same = c.join_seats-seat.ensures.same in
    let (newly, ran, logged) = c.work_on.ensures.logged in
    let before = c.join_seats-seat.ensures.ran f in
    let after : times f (view_of c.work_on.result).ran ≡ times f (view_of c.join_seats-seat.result).ran + times f newly = ap (times f) ran ∙ times-append f (view_of c.join_seats-seat.result).ran newly in
    let lists = times_went_on c.join_seats-seat.new.crew _ c.work_on.new.worker newly f (omega (arith, some, same)) c.index-crew-0.is (logged ∙ ap (λ (w : Worker _). w.log.frames.items ++ newly) (sym c.index-crew-0.is)) in
    omega (arith, before, after, lists)
