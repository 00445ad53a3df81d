use Rattle.std.proofs.Common.{◌≡◌, ℕ, ◌+◌, ◌<◌, [], All, length, get_or}
use Rattle.frame_table.specs.Tokens.{IsFresh, known_of}
use Rattle.task_workers_crew.specs.declared.crew.Worker.{Worker}
use Rattle.task_workers_crew.specs.Crew.{IsEquipped, IsSeated, ran_of, logs_of}
use Rattle.task_workers_crew.specs.Dealt.{hands_of}
use Rattle.task_workers_crew.proofs.running.take_seats.Given as goal

abbrev pub invariant-loop-k : goal.invariant-loop-k
invariant-loop-k g l = (length l.seats.items + l.k ≡ length l.crew) × (length l.crew ≡ length l.fn.crew)
    × All (λ s. IsFresh l.table s) l.seats.items
    × All (λ (w : Worker _). IsEquipped (known_of l.table).plan w.hand w.log) l.crew
    × All (λ (w : Worker _). g.B.Bodies.fits l.bodies w.scratch) l.crew
    × ((i : ℕ) (d : Worker _) → i < l.k → IsSeated l.table 1 (get_or l.crew i d).seat (get_or l.crew i d).hand (get_or l.crew i d).log)
    × (hands_of l.crew ≡ hands_of l.fn.crew) × (logs_of l.crew ≡ logs_of l.fn.crew)
    × ((i : ℕ) (d : Worker _) → i < l.k → ran_of (get_or l.crew i d).seat ≡ [])
