use Rattle.task_workers.proofs.Delivering.{HasDelivered}
use Rattle.task_workers.proofs.rounds.deliver.Given as goal

abbrev pub invariant-loop-k : goal.invariant-loop-k
invariant-loop-k l = HasDelivered l.plan l.turn l.ends l.outputs l.initial.board l.board l.first l.k
