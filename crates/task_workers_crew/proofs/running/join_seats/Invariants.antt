use Rattle.std.proofs.Common.{◌≡◌, ℕ, ◌<◌, ◌≤◌, length, take, get_or}
use Rattle.flow_core_concurrent.specs.States.{times}
use Rattle.frame_table.specs.Tokens.{view_of}
use Rattle.task_workers_worker.specs.Ready.{MayWork}
use Rattle.task_workers_crew.specs.declared.crew.Worker.{Worker}
use Rattle.task_workers_crew.specs.Crew.{IsSeated, HasLogged, lists_of, scratches_of, times_in}
use Rattle.task_workers_crew.proofs.running.join_seats.Given as goal

abbrev pub invariant-loop-k : goal.invariant-loop-k
invariant-loop-k g l = record {
  same : length l.crew ≡ length l.fn.crew;
  seated : (i : ℕ) (d : Worker _) → l.k ≤ i → i < length l.crew → IsSeated l.table 1 (get_or l.crew i d).seat (get_or l.crew i d).hand (get_or l.crew i d).log;
  logged : (i : ℕ) (d : Worker _) → l.k ≤ i → i < length l.crew → HasLogged (get_or l.crew i d).seat (get_or l.crew i d).log;
  may_work : (d : Worker _) → MayWork l.table l.seat (get_or l.crew 0 d).hand (get_or l.crew 0 d).log;
  shares : (view_of l.seat).shares ≡ l.k;
  ran : (f : ℕ) → times f (view_of l.seat).ran ≡ times_in (take l.k (lists_of l.fn.crew)) f;
  lists : lists_of l.crew ≡ lists_of l.fn.crew;
  scratches : scratches_of l.crew ≡ scratches_of l.fn.crew;
}
