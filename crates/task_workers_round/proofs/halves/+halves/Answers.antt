use Rattle.std.proofs.Common.{◌∙◌, arith, rules}
use Rattle.std.proofs.lemmas.List.Elements.{All-append}
use Rattle.task_workers_round.specs.declared.worker.Worker.{Worker}
use Rattle.task_workers_round.proofs.Cutting.{IsPart-cut}
use Rattle.task_workers_round.proofs.Joining.{AreResults-ran}
use Rattle.task_workers_round.proofs.halves.+halves.Goals as goal

pub run_part-both_halves-requires-clause-front : goal.run_part-both_halves-requires-clause-front
run_part-both_halves-requires-clause-front g t c κs within = (IsPart-cut c.args.plan.now c.args.board.now.waits (λ (w : Worker g.row.S.Denot). g.B.Bodies.fits c.args.bodies.now w.scratch) c.args.frames.now c.split_at.result.0.now c.split_at.result.1.now c.args.ends.now c.split_at_mut-front_ends.result.0.now c.split_at_mut-front_ends.result.1.now c.args.outputs.now c.split_at_mut-front_outputs.result.0.now c.split_at_mut-front_outputs.result.1.now c.args.workers.now c.split_at_mut-first.result.0.now c.split_at_mut-first.result.1.now _ _ c.requires.part c.split_at.ensures.front c.split_at.ensures.back
    (omega (arith, c.split_at.ensures.front_len, c.split_at.ensures.back_len))
    c.split_at_mut-front_ends.ensures.front_len
    (omega (arith, c.split_at_mut-front_ends.ensures.front_len, c.split_at_mut-front_ends.ensures.back_len))
    (c.split_at_mut-front_outputs.ensures.front_len ∙ c.outputs_of.ensures)
    (omega (arith, c.split_at_mut-front_outputs.ensures.front_len, c.split_at_mut-front_outputs.ensures.back_len))
    c.split_at_mut-first.ensures.front c.split_at_mut-first.ensures.back
    (omega (arith, c.split_at_mut-first.ensures.front_len, c.split_at_mut-first.ensures.back_len))
    (omega (arith, c.split_at_mut-first.ensures.front_len, c.requires.part.some, c.if-workers-eq1.false))
    (omega (arith, c.split_at_mut-first.ensures.front_len, c.split_at_mut-first.ensures.back_len, c.requires.part.some))).0

pub run_part-both_halves-requires-clause-back : goal.run_part-both_halves-requires-clause-back
run_part-both_halves-requires-clause-back g t c κs within = (IsPart-cut c.args.plan.now c.args.board.now.waits (λ (w : Worker g.row.S.Denot). g.B.Bodies.fits c.args.bodies.now w.scratch) c.args.frames.now c.split_at.result.0.now c.split_at.result.1.now c.args.ends.now c.split_at_mut-front_ends.result.0.now c.split_at_mut-front_ends.result.1.now c.args.outputs.now c.split_at_mut-front_outputs.result.0.now c.split_at_mut-front_outputs.result.1.now c.args.workers.now c.split_at_mut-first.result.0.now c.split_at_mut-first.result.1.now _ _ c.requires.part c.split_at.ensures.front c.split_at.ensures.back
    (omega (arith, c.split_at.ensures.front_len, c.split_at.ensures.back_len))
    c.split_at_mut-front_ends.ensures.front_len
    (omega (arith, c.split_at_mut-front_ends.ensures.front_len, c.split_at_mut-front_ends.ensures.back_len))
    (c.split_at_mut-front_outputs.ensures.front_len ∙ c.outputs_of.ensures)
    (omega (arith, c.split_at_mut-front_outputs.ensures.front_len, c.split_at_mut-front_outputs.ensures.back_len))
    c.split_at_mut-first.ensures.front c.split_at_mut-first.ensures.back
    (omega (arith, c.split_at_mut-first.ensures.front_len, c.split_at_mut-first.ensures.back_len))
    (omega (arith, c.split_at_mut-first.ensures.front_len, c.requires.part.some, c.if-workers-eq1.false))
    (omega (arith, c.split_at_mut-first.ensures.front_len, c.split_at_mut-first.ensures.back_len, c.requires.part.some))).1

pub run_part-returns-clause-results : goal.run_part-returns-clause-results
run_part-returns-clause-results g t c = AreResults-ran _ _ _ _ _ _ _ _ _ _ _ c.split_at.ensures.front c.split_at.ensures.back (search rules) (search rules) c.both_halves.ensures.results

pub run_part-returns-clause-fitting : goal.run_part-returns-clause-fitting
run_part-returns-clause-fitting g t c = All-append (λ (w : Worker g.row.S.Denot). g.B.Bodies.fits c.args.bodies.now w.scratch) _ _ c.both_halves.ensures.fitting.0 c.both_halves.ensures.fitting.1
