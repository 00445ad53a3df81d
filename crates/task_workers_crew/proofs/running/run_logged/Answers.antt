use Rattle.std.proofs.Common.{arith, ap, sym, subst, ◌∙◌, ◌≡◌, ◌+◌, ◌<◌, List, All, length}
use Rattle.flow_core_laws.specs.declared.plan.Plan.{Plan}
use Rattle.frame_table.specs.Tokens.{known_of, view_of}
use Rattle.task_workers_crew.specs.declared.crew.Worker.{Worker}
use Rattle.task_workers_crew.specs.Crew.{HasLogged, lists_of, times_in}
use Rattle.task_workers_crew.proofs.Lent.{written}
use Rattle.task_workers_crew.proofs.Logged.{logged_nothing, ran_meant}
use Rattle.task_workers_crew.proofs.running.run_logged.Goals as goal

pub returns-clause-whole : goal.returns-clause-whole
returns-clause-whole g c =
    let t = c.args.table in
    let n : length (known_of t).plan.frames ≡ length t.plan.now.frames = ap (λ (p : Plan). length p.frames) t.plan_is in
    let looks = c.work_last-last.ensures.looks in
    c.close-closed.ensures.whole (g.B.Bodies.outcome c.args.bodies.now) c.requires.meant (omega (arith, n, looks))

pub work_last-last-requires-clause-logged : goal.work_last-last-requires-clause-logged
work_last-last-requires-clause-logged g c κs within =
    let seated = c.seat_crew-crew.ensures in
    let before = logged_nothing c.seat_crew-crew.result.items c.args.crew.items seated.logs seated.ran c.requires.unlogged seated.same in
    subst (All (λ (w : Worker _). HasLogged w.seat w.log)) (sym c.as_mut_slice.ensures.value) (λ i d lt.
    let there : i < length c.seat_crew-crew.result.items = (let same = c.work_crew-crew.ensures.same in omega (arith, lt, same)) in
    c.work_crew-crew.ensures.logged i d there (before i d there))

pub work_last-last-requires-clause-fits : goal.work_last-last-requires-clause-fits
work_last-last-requires-clause-fits g c κs within = subst (All (λ (w : Worker _). g.B.Bodies.fits c.args.bodies.now w.scratch)) (sym c.as_mut_slice.ensures.value) c.work_crew-crew.ensures.fits

pub returns-clause-once : goal.returns-clause-once
returns-clause-once g c = λ f.
    let known = known_of c.args.table in
    let lent : length c.as_mut_slice.result.now ≡ length c.work_crew-crew.result.items = ap length c.as_mut_slice.ensures.value in
    let last = c.work_last-last.ensures in
    let seats : (view_of c.work_last-last.result).shares ≡ known.seats = (let a = last.shares in let b = c.work_crew-crew.ensures.same in let d = c.seat_crew-crew.ensures.same in let e = c.requires.all.1 in omega (arith, lent, a, b, d, e)) in
    let is = written c.work_crew-crew.result.len c.work_last-last.new.crew c.work_crew-crew.result.items (last.same ∙ lent) c.work_crew-crew.result.ok.0 in
    ap (λ (ls : List (List _)). times_in ls f) c.gather_lists.ensures
    ∙ ap (λ (ws : List (Worker _)). times_in (lists_of ws) f) is
    ∙ sym (last.ran f)
    ∙ ran_meant known (g.B.Bodies.outcome c.args.bodies.now) _ (view_of c.work_last-last.result) c.close-closed.ensures.left (returns-clause-whole g c) c.requires.meant seats last.runs_nothing f
