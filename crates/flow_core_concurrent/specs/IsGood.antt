-- Good states of the concurrent core with poison.
use Rattle.std.specs.Prelude.{◌≡◌, ◌≢◌, ℕ, ◌+◌, ◌-◌, ◌%◌, ◌<◌, ◌≤◌, true, false, not, ◌&&◌, Some, IsSome, is_some, length, count_by, sum_by, slice_get}
use Rattle.flow_core_laws.specs.declared.plan.Piece.{Piece}
use Rattle.flow_core_concurrent.specs.declared.view.FrameRun.{FrameRun}
use Rattle.flow_core_concurrent.specs.States.{times, CoreState, fresh, runs_of, times_in_all}
use Rattle.flow_core_concurrent.specs.Counted.{one, is_run_of, counted_at, underway_at, lacking}
use Rattle.flow_core_laws.specs.declared.plan.Plan.{Plan}
use Rattle.flow_core_laws.specs.declared.task_end.TaskEnd.{TaskEnd}
use Rattle.flow_core_laws.specs.Plans.{frame_at, held_at}
use Rattle.flow_core_laws.specs.declared.elem.Elem.{Elem}
use Rattle.flow_core_concurrent.specs.declared.known.Known.{Known}
use Rattle.flow_core_concurrent.specs.declared.view.View.{View}
use Rattle.flow_core_concurrent.specs.declared.word.Word.TheVariants.{Wait, Ended}
use Rattle.flow_core_concurrent.specs.Words.{word_at, opening_words, amount, waits, is_open, is_taken, is_started}
use Rattle.flow_core_concurrent.specs.Steps.{end_of, meant_at, StandsAt, IsPastLast}

-- A run is of a frame, and its place is one of that frame's: at a piece with at most all of its elements
-- stored, or behind the last piece with none stored.
pub record IsRunPlace (plan : Plan) (run : FrameRun) : Type 0 where
  pub of_a_frame : run.frame < length plan.frames
  pub from_its_first : (frame_at plan run.frame).piece ≤ run.piece
  pub to_its_last : run.piece ≤ (frame_at plan run.frame).piece + (frame_at plan run.frame).pieces
  pub stores_its_elements : (p : Piece) → StandsAt plan run p → run.stored ≤ p.count
  pub has_none_behind : IsPastLast plan run → run.stored ≡ 0

-- A seat that isn't spent knows what all know. A spent one runs nothing and has no lists.
pub record IsView (known : Known) (view : View) : Type 0 where
  pub knows_the_run : 1 ≤ view.shares → view.about ≡ known
  pub spent_is_empty : view.shares ≡ 0 → view ≡ fresh view.about 0
  pub runs_at_a_place : (r : FrameRun) → view.run ≡ Some r → IsRunPlace known.plan r

-- A seat has all shares, so every other one is spent.
abbrev pub IsLast : Known → View → Type 0
IsLast known view = view.shares ≡ known.seats

-- What holds between any two steps. Every step keeps it as it stands, so it needs no stronger fact beside it.
pub record IsGood (known : Known) (state : CoreState) : Type 0 where
  -- a word for each frame and the sink, the cells of the plan, and seats with their places
  pub words_of_plan : length state.words ≡ length known.plan.frames + 1
  pub cells_of_plan : length state.cells ≡ length known.plan.filled
  pub views_are_sound : (seat : ℕ) (v : View) → slice_get state.seats seat ≡ Some v → IsView known v
  -- a cell is empty or holds the meaning's element, which is there
  pub cells_hold_the_meaning : (c : ℕ) (elem : Elem) → held_at state.cells c ≡ Some elem → meant_at known c ≡ Some elem
  -- a cell is filled exactly where it was at opening, or its piece is counted, or it lies among the stored
  -- elements of the piece at which a seat stands; and there only one of these holds
  pub cells_are_filled_once : (c : ℕ) → one (is_some (held_at state.cells c))
      ≡ one (is_some (held_at known.plan.filled c)) + counted_at known.plan state.words (runs_of state) c + underway_at known.plan (runs_of state) c
  -- a frame that waits does so for the cells that it misses, at least one; every other one misses none
  pub words_count : (f : ℕ) → f ≤ length known.plan.frames → amount (word_at state.words f) ≡ lacking known.plan state.words (runs_of state) f
  pub waits_for_some : (f : ℕ) → word_at state.words f ≢ Wait 0
  -- a frame is Taken exactly where one seat runs it, and no frame is run by two
  pub taken_is_run_by_one : (f : ℕ) → count_by (is_run_of f) (runs_of state) ≡ one (is_taken (word_at state.words f))
  -- an end is the meaning's
  pub ends_are_meant : (f : ℕ) (end : TaskEnd) → word_at state.words f ≡ Ended end → end_of known f ≡ Some end
  -- a frame that a seat runs has an end in the meaning
  pub runs_have_ends : (seat : ℕ) (v : View) (r : FrameRun) → slice_get state.seats seat ≡ Some v → v.run ≡ Some r → IsSome (end_of known r.frame)
  -- the seats together made each frame once that waited at opening and doesn't wait now, and no other
  pub made_once : (f : ℕ) → times_in_all (λ v. v.made) state f
      ≡ one (waits (word_at (opening_words known.plan) f) && not (waits (word_at state.words f)))
  -- the seats together ran each frame once that is Taken or ended, and no other
  pub ran_once : (f : ℕ) → times_in_all (λ v. v.ran) state f ≡ one (is_started (word_at state.words f))
  -- none of the frames of the last counted looks of the last seat is Open, as far as one round goes back
  pub looks_found_none_open : (seat j : ℕ) (v : View) → slice_get state.seats seat ≡ Some v → IsLast known v → 1 ≤ j → j ≤ v.looks
      → j ≤ length known.plan.frames → is_open (word_at state.words ((v.looks - j) % length known.plan.frames)) ≡ false
  -- nobody takes the sink
  pub sink_is_not_taken : is_started (word_at state.words (length known.plan.frames)) ≡ false
  -- all shares together are those of the opened seats
  pub shares_are_all : sum_by (λ (v : View). v.shares) state.seats ≡ known.seats
  -- a frame that was found doesn't wait, and one that was lost is Taken or ended
  pub found_waits_no_more : (seat f : ℕ) (v : View) → slice_get state.seats seat ≡ Some v → 1 ≤ times f v.found
      → waits (word_at state.words f) ≡ false
  pub lost_is_started : (seat f : ℕ) (v : View) → slice_get state.seats seat ≡ Some v → 1 ≤ times f v.lost
      → is_started (word_at state.words f) ≡ true
