-- The steps of the concurrent core, each of one seat that isn't spent. For each kind a record says what
-- the step needs, and a function what it leaves.
use Rattle.std.specs.Prelude.{◌≡◌, ◌≢◌, ℕ, ◌+◌, ◌-◌, ◌%◌, ◌==◌, ◌<◌, ◌≤◌, Bool, if◌then◌else◌, List}
use Rattle.std.specs.Prelude.{[], ◌∷◌, ◌++◌, Option, Some, None, length, slice_get, slice_set}
use Rattle.std.specs.Option.{option_map}
use Rattle.flow_core_laws.specs.declared.plan.Piece.{Piece}
use Rattle.flow_core_laws.specs.Outcome.{outcome_at}
use Rattle.flow_core_concurrent.specs.declared.view.FrameRun.{FrameRun}
use Rattle.flow_core_laws.specs.declared.plan.Plan.{Plan}
use Rattle.flow_core_laws.specs.declared.task_end.TaskEnd.{TaskEnd}
use Rattle.flow_core_laws.specs.declared.elem.Elem.{Elem}
use Rattle.flow_core_laws.specs.declared.outcome.Outcome.{Outcome}
use Rattle.flow_core_laws.specs.Element.{output_at}
use Rattle.flow_core_laws.specs.Plans.{frame_at, number_at, cell_source, plan_element}
use Rattle.flow_core_laws.specs.IsSound.{HasCell}
use Rattle.flow_core_concurrent.specs.declared.known.Known.{Known}
use Rattle.flow_core_concurrent.specs.declared.view.View.{View}
use Rattle.flow_core_concurrent.specs.declared.word.Word.TheVariants.{Taken, Ended}
use Rattle.flow_core_concurrent.specs.Words.{word_at, is_open, waits_for, lowered}
use Rattle.flow_core_concurrent.specs.States.{CoreState, IsSeat, fresh, knows}

-- The end of a frame in the meaning, if it has one.
abbrev pub end_of : Known → ℕ → Option TaskEnd
end_of known frame = option_map (λ (o : Outcome). o.end) (outcome_at known.meaning frame)

-- The element that the meaning has for a cell, a value or poison, if it is there.
abbrev pub meant_at : Known → ℕ → Option Elem
meant_at known cell = plan_element known.plan known.meaning (cell_source known.plan cell)

-- The output element that a frame has at a place in the meaning: its value where it is Done, and else poison.
abbrev pub output_of : Known → ℕ → ℕ → Option Elem
output_of known frame place = output_at (number_at known.plan) known.meaning frame place

-- The place of a run of which nothing was given: the first piece of the frame with none stored.
abbrev pub first_place : Plan → ℕ → FrameRun
first_place plan frame = record { frame = frame; piece = (frame_at plan frame).piece; stored = 0 }

-- A run stands at this piece of its frame.
pub record StandsAt (plan : Plan) (run : FrameRun) (piece : Piece) : Type 0 where
  pub has_number : slice_get plan.pieces run.piece ≡ Some piece
  pub is_its_own : piece.from ≡ run.frame

-- A run stands behind the last piece of its frame.
abbrev pub IsPastLast : Plan → FrameRun → Type 0
IsPastLast plan run = run.piece ≡ (frame_at plan run.frame).piece + (frame_at plan run.frame).pieces

-- A state in which one seat has another view.
abbrev pub with_view : CoreState → ℕ → View → CoreState
with_view state seat view = record { words = state.words; cells = state.cells; seats = slice_set state.seats seat view }

-- SPLIT: a new seat gets one share of a seat that has two or more.
pub record CanSplit (state : CoreState) (seat : ℕ) (view : View) : Type 0 where
  pub is_seat : IsSeat state seat view
  pub has_two_shares : 2 ≤ view.shares

-- what is left of a seat's view, and the view of the new seat
abbrev pub cut : View → View
cut view = record view { looks = 0; shares = view.shares - 1 }

abbrev pub share : View → View
share view = fresh view.about 1

abbrev pub after_split : CoreState → ℕ → View → CoreState
after_split state seat view = record {
  words = state.words;
  cells = state.cells;
  seats = slice_set state.seats seat (cut view) ++ share view ∷ [];
}

-- JOIN: a seat takes in another one that runs nothing, with its lists and shares. That one is spent.
pub record CanJoin (state : CoreState) (seat : ℕ) (view : View) (other : ℕ) (guest : View) : Type 0 where
  pub is_seat : IsSeat state seat view
  pub is_other_seat : IsSeat state other guest
  pub are_two : other ≢ seat
  pub runs_nothing : guest.run ≡ None

abbrev pub with_joined : View → View → View
with_joined view guest = record {
  about = view.about;
  run = view.run;
  made = view.made ++ guest.made;
  ran = view.ran ++ guest.ran;
  missed = view.missed ++ guest.missed;
  found = view.found ++ guest.found;
  lost = view.lost ++ guest.lost;
  looks = 0;
  shares = view.shares + guest.shares;
}

abbrev pub after_join : CoreState → ℕ → View → ℕ → View → CoreState
after_join state seat view other guest = with_view (with_view state seat (with_joined view guest)) other (fresh guest.about 0)

-- a seat's lost frames with one more, where the seat knows it
abbrev pub lost_with : View → ℕ → List ℕ
lost_with view frame = if knows view frame then view.lost ++ frame ∷ [] else view.lost

-- CLAIM of a frame: where it is Open the seat takes it, and else the seat missed it.
pub record CanClaim (known : Known) (state : CoreState) (seat : ℕ) (view : View) (frame : ℕ) : Type 0 where
  pub is_seat : IsSeat state seat view
  pub runs_nothing : view.run ≡ None
  pub exists : frame < length known.plan.frames

abbrev pub with_claim : Known → View → ℕ → View
with_claim known view frame = record view { run = Some (first_place known.plan frame); ran = view.ran ++ frame ∷ []; looks = 0 }

abbrev pub with_miss : Known → View → ℕ → View
with_miss known view frame = record view {
  missed = view.missed ++ frame ∷ [];
  lost = lost_with view frame;
  looks = if frame == view.looks % length known.plan.frames then view.looks + 1 else view.looks;
}

abbrev pub after_claim : Known → CoreState → ℕ → View → ℕ → CoreState
after_claim known state seat view frame =
    if is_open (word_at state.words frame)
    then (record { words = slice_set state.words frame Taken; cells = state.cells; seats = slice_set state.seats seat (with_claim known view frame) })
    else with_view state seat (with_miss known view frame)

-- READ of a cell: of the frame that the seat runs, where nothing of it was given. It gives the cell, and
-- changes nothing.
pub record CanRead (known : Known) (state : CoreState) (seat : ℕ) (view : View) (run : FrameRun) (cell : ℕ) : Type 0 where
  pub is_seat : IsSeat state seat view
  pub runs : view.run ≡ Some run
  pub gave_nothing : run ≡ first_place known.plan run.frame
  pub is_its_cell : HasCell known.plan run.frame cell

-- STORE: the next cell of the piece at which the seat stands gets the meaning's element: a value where the running
-- frame is Done, and else poison.
pub record CanStore (known : Known) (state : CoreState) (seat : ℕ) (view : View) (run : FrameRun) (piece : Piece) : Type 0 where
  pub is_seat : IsSeat state seat view
  pub runs : view.run ≡ Some run
  pub stands : StandsAt known.plan run piece
  pub has_more : run.stored < piece.count

abbrev pub stored : View → FrameRun → View
stored view run = record view { run = Some (record run { stored = run.stored + 1 }) }

abbrev pub after_store : Known → CoreState → ℕ → View → FrameRun → Piece → CoreState
after_store known state seat view run piece = record {
  words = state.words;
  cells = slice_set state.cells (piece.at + run.stored) (output_of known run.frame (piece.first + run.stored));
  seats = slice_set state.seats seat (stored view run);
}

-- SUB: where all elements of the piece are stored, they are counted at the frame that they go to. Where
-- it missed just these it opens, and the seat made it.
pub record CanSub (known : Known) (state : CoreState) (seat : ℕ) (view : View) (run : FrameRun) (piece : Piece) : Type 0 where
  pub is_seat : IsSeat state seat view
  pub runs : view.run ≡ Some run
  pub stands : StandsAt known.plan run piece
  pub has_stored_all : run.stored ≡ piece.count

abbrev pub with_sub : View → FrameRun → ℕ → Bool → View
with_sub view run frame opens = record view {
  run = Some (record { frame = run.frame; piece = run.piece + 1; stored = 0 });
  made = if opens then view.made ++ frame ∷ [] else view.made;
  looks = if opens then 0 else view.looks;
}

abbrev pub after_sub : CoreState → ℕ → View → FrameRun → Piece → CoreState
after_sub state seat view run piece = record {
  words = slice_set state.words piece.to (lowered piece.count (word_at state.words piece.to));
  cells = state.cells;
  seats = slice_set state.seats seat (with_sub view run piece.to (waits_for piece.count (word_at state.words piece.to)));
}

-- FINISH with the meaning's end of the running frame, whatever it is, where all its pieces are given.
pub record CanFinish (known : Known) (state : CoreState) (seat : ℕ) (view : View) (run : FrameRun) (end : TaskEnd) : Type 0 where
  pub is_seat : IsSeat state seat view
  pub runs : view.run ≡ Some run
  pub is_meant : end_of known run.frame ≡ Some end
  pub gave_all : IsPastLast known.plan run

abbrev pub finished : View → View
finished view = record view { run = None }

abbrev pub after_finish : CoreState → ℕ → View → FrameRun → TaskEnd → CoreState
after_finish state seat view run end = record {
  words = slice_set state.words run.frame (Ended end);
  cells = state.cells;
  seats = slice_set state.seats seat (finished view);
}

-- LOOK, at the frame whose turn it is: where that is Open the seat found it, and else the look counts.
pub record CanLook (known : Known) (state : CoreState) (seat : ℕ) (view : View) : Type 0 where
  pub is_seat : IsSeat state seat view
  pub runs_nothing : view.run ≡ None
  pub has_frames : 1 ≤ length known.plan.frames

abbrev pub next_look : Known → View → ℕ
next_look known view = view.looks % length known.plan.frames

-- the view after a look at a frame that is Open, or isn't
abbrev pub looked : View → ℕ → Bool → View
looked view frame opened =
    if opened
    then (record view { found = view.found ++ frame ∷ [] })
    else (record view { lost = lost_with view frame; looks = view.looks + 1 })

abbrev pub after_look : Known → CoreState → ℕ → View → CoreState
after_look known state seat view =
    let frame : ℕ = next_look known view in
    with_view state seat (looked view frame (is_open (word_at state.words frame)))

-- A step from a state to another.
pub data Step (known : Known) (state : CoreState) : CoreState → Type 0 where
  split : (seat : ℕ) (view : View) → CanSplit state seat view → Step known state (after_split state seat view)
  join : (seat : ℕ) (view : View) (other : ℕ) (guest : View) → CanJoin state seat view other guest
      → Step known state (after_join state seat view other guest)
  claim : (seat : ℕ) (view : View) (frame : ℕ) → CanClaim known state seat view frame → Step known state (after_claim known state seat view frame)
  read : (seat : ℕ) (view : View) (run : FrameRun) (cell : ℕ) → CanRead known state seat view run cell → Step known state state
  store : (seat : ℕ) (view : View) (run : FrameRun) (piece : Piece) → CanStore known state seat view run piece
      → Step known state (after_store known state seat view run piece)
  sub : (seat : ℕ) (view : View) (run : FrameRun) (piece : Piece) → CanSub known state seat view run piece
      → Step known state (after_sub state seat view run piece)
  finish : (seat : ℕ) (view : View) (run : FrameRun) (end : TaskEnd) → CanFinish known state seat view run end
      → Step known state (after_finish state seat view run end)
  look : (seat : ℕ) (view : View) → CanLook known state seat view → Step known state (after_look known state seat view)
