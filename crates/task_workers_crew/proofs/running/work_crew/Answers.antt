use Rattle.std.proofs.Common.{arith, ap, ◌∙◌, ◌≡◌, length}
use Rattle.task_workers_crew.specs.declared.crew.Worker.{Worker}
use Rattle.task_workers_crew.specs.Crew.{IsSeated, HasLooked}
use Rattle.steal_pool.specs.Hands.{KeepsDeques}
use Rattle.task_workers_crew.proofs.Lent.{all_written, pairs_written}
use Rattle.task_workers_crew.proofs.running.work_crew.Goals as goal

pub returns-clause-seated : goal.returns-clause-seated
returns-clause-seated g c =
    let lent : length c.as_mut_slice.result.now ≡ length c.args.crew.items = ap length c.as_mut_slice.ensures.value in
    all_written (λ (w : Worker _). IsSeated c.args.table.now 1 w.seat w.hand w.log) _ _ c.args.crew.items (c.work_all.ensures.same ∙ lent) c.args.crew.ok.0 (λ i d lt. c.work_all.ensures.seated i d (omega (arith, lt, lent)))

pub returns-clause-fits : goal.returns-clause-fits
returns-clause-fits g c =
    let lent : length c.as_mut_slice.result.now ≡ length c.args.crew.items = ap length c.as_mut_slice.ensures.value in
    all_written (λ (w : Worker _). g.B.Bodies.fits c.args.bodies.now w.scratch) _ _ c.args.crew.items (c.work_all.ensures.same ∙ lent) c.args.crew.ok.0 (λ i d lt. c.work_all.ensures.fits i d (omega (arith, lt, lent)))

pub returns-clause-deques : goal.returns-clause-deques
returns-clause-deques g c = pairs_written (λ (v w : Worker _). KeepsDeques v.hand w.hand) _ c.as_mut_slice.result.now _ c.args.crew.items c.as_mut_slice.ensures.value c.work_all.ensures.same c.args.crew.ok.0 c.work_all.ensures.deques

pub returns-clause-numbers : goal.returns-clause-numbers
returns-clause-numbers g c = pairs_written (λ (v w : Worker _). w.log.worker ≡ v.log.worker) _ c.as_mut_slice.result.now _ c.args.crew.items c.as_mut_slice.ensures.value c.work_all.ensures.same c.args.crew.ok.0 c.work_all.ensures.numbers

pub returns-clause-looked : goal.returns-clause-looked
returns-clause-looked g c =
    let lent : length c.as_mut_slice.result.now ≡ length c.args.crew.items = ap length c.as_mut_slice.ensures.value in
    all_written (λ (w : Worker _). HasLooked c.args.table.now w.seat) _ _ c.args.crew.items (c.work_all.ensures.same ∙ lent) c.args.crew.ok.0 (λ i d lt. c.work_all.ensures.looked i d (omega (arith, lt, lent)))
