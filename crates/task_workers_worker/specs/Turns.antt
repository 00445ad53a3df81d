-- What the parts of a turn of a worker do, and how much is left to do.
use Rattle.std.specs.Prelude.{◌≡◌, ℕ, ◌+◌, ◌-◌, ◌*◌, ◌<◌, ◌≤◌, List, [], ◌∷◌, ◌++◌, None, Some, length}
use Rattle.flow_core_concurrent.specs.declared.known.Known.{Known}
use Rattle.flow_core_concurrent.specs.declared.view.View.{View}
use Rattle.flow_core_concurrent.specs.States.{times}
use Rattle.flow_core_concurrent.specs.Steps.{first_place}
use Rattle.frame_table.specs.declared.seat.FrameSeat.{FrameSeat}
use Rattle.frame_table.specs.declared.table.FrameTable.{FrameTable}
use Rattle.frame_table.specs.Tokens.{view_of}
use Rattle.task_workers_worker.specs.Left.{left_of}
use Rattle.task_workers_worker.specs.Ready.{frames_of}
use Rattle.task_workers_worker.specs.Worked.{Begins, below}

-- The worker claimed this frame.
pub record Claimed (known : Known) (old new : View) (frame : ℕ) : Type 0 where
  pub exists : frame < length known.plan.frames
  pub runs : new.run ≡ Some (first_place known.plan frame)
  pub is_new : times frame old.ran ≡ 0
  pub ran : new.ran ≡ old.ran ++ frame ∷ []
  pub made : new.made ≡ old.made
  pub missed : Begins old.missed new.missed
  pub found : Begins old.found new.found
  pub lost : Begins old.lost new.lost
  pub shares : new.shares ≡ old.shares

-- The worker claimed nothing.
pub record Idled (old new : View) : Type 0 where
  pub run : new.run ≡ None
  pub ran : new.ran ≡ old.ran
  pub made : new.made ≡ old.made
  pub missed : Begins old.missed new.missed
  pub found : Begins old.found new.found
  pub lost : Begins old.lost new.lost
  pub shares : new.shares ≡ old.shares

-- The worker gave pieces of its frame: what it opened below the number n it pushed, in order.
pub record Gave (n : ℕ) (old new : View) (pushed pushed' : List ℕ) : Type 0 where
  pub opened : List ℕ
  pub made : new.made ≡ old.made ++ opened
  pub pushes : pushed' ≡ pushed ++ below n opened
  pub ran : new.ran ≡ old.ran
  pub missed : new.missed ≡ old.missed
  pub found : new.found ≡ old.found
  pub lost : new.lost ≡ old.lost
  pub shares : new.shares ≡ old.shares
  pub looks : new.looks ≤ old.looks

-- how much is left to do before a worker comes to `most` looks
abbrev pub to_do : FrameTable → ℕ → FrameSeat → ℕ
to_do table most seat = left_of (frames_of table) (view_of seat).ran * (most + 1) + (most - (view_of seat).looks)
