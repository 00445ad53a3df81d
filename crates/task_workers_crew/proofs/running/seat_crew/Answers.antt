use Rattle.std.proofs.Common.{ap, sym, ◌∙◌, ◌≡◌, List, length, arith}
use Rattle.task_workers_crew.specs.declared.crew.Worker.{Worker}
use Rattle.task_workers_crew.specs.Crew.{logs_of}
use Rattle.task_workers_crew.proofs.Lent.{written}
use Rattle.task_workers_crew.proofs.Logged.{numbers_of_logs}
use Rattle.task_workers_crew.proofs.running.seat_crew.Goals as goal

pub returns-clause-numbers : goal.returns-clause-numbers
returns-clause-numbers g c =
    let lent : length c.as_mut_slice.result.now ≡ length c.args.crew.items = ap length c.as_mut_slice.ensures.value in
    numbers_of_logs _ c.args.crew.items (ap (λ (ws : List (Worker _)). logs_of ws) (written c.args.crew.len c.take_seats.new.crew c.args.crew.items (c.take_seats.ensures.same ∙ lent) c.args.crew.ok.0) ∙ c.take_seats.ensures.logs ∙ ap (λ (ws : List (Worker _)). logs_of ws) c.as_mut_slice.ensures.value)
