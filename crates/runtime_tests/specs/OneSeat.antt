-- The seat of a table in which a reader was created before the frame that gives to it.
use Rattle.std.specs.Prelude.{◌≡◌, ℕ, slice_index_or}
use Rattle.flow_core_concurrent.specs.declared.view.View.{View}
use Rattle.flow_core_concurrent.specs.States.{fresh, opening}
use Rattle.flow_core_concurrent.specs.ReaderFirst.{known, states}
use Rattle.frame_table.specs.declared.seat.FrameSeat.{FrameSeat}
use Rattle.frame_table.specs.declared.table.FrameTable.{FrameTable}
use Rattle.frame_table.specs.Tokens.{IsSeatOf, view_of, known_of}

-- the seat's view after `steps` steps
abbrev pub view_after : ℕ → View
view_after steps = slice_index_or (slice_index_or states steps (opening known)).seats 0 (fresh known 0)

-- A table of these two frames, and its seat after `steps` steps.
pub record IsAfter (table : FrameTable) (seat : FrameSeat) (steps : ℕ) : Type 0 where
  pub is_its_seat : IsSeatOf table seat
  pub knows_the_plan : known_of table ≡ known
  pub has_this_view : view_of seat ≡ view_after steps
