-- What single steps ask of the seats that make them, and what they tell.
use Rattle.std.specs.Prelude.{◌≡◌, ℕ, ℤ, ◌+◌, ◌<◌, List, [], Option, Some, None, take, length}
use Rattle.atomic_table.specs.Table.{Me, Step}
use Rattle.flow_core_laws.specs.declared.plan.Piece.{Piece}
use Rattle.flow_core_laws.specs.declared.elem.Elem.{Elem}
use Rattle.flow_core_laws.specs.Poisoning.{values_of, least_root}
use Rattle.flow_core_laws.specs.IsSound.{HasCell}
use Rattle.flow_core_concurrent.specs.declared.known.Known.{Known}
use Rattle.flow_core_concurrent.specs.declared.view.FrameRun.{FrameRun}
use Rattle.flow_core_concurrent.specs.declared.view.View.{View}
use Rattle.flow_core_concurrent.specs.Steps.{output_of, first_place, StandsAt}
use Rattle.frame_table.specs.Seats.{at}

-- a view whose seat runs this frame and stands at this piece, with so many of its elements stored
abbrev pub standing : View → (frame piece stored : ℕ) → View
standing v frame piece stored = record v { run = Some (at frame piece stored) }

-- A seat may store this element into this word.
pub record MayStore (known : Known) (view : View) (run : FrameRun) (piece : Piece) (word : ℕ) (elem : Elem) : Type 0 where
  pub runs : view.run ≡ Some run
  pub stands : StandsAt known.plan run piece
  pub has_more : run.stored < piece.count
  pub is_next : word ≡ length known.plan.frames + 1 + (piece.at + run.stored)
  pub is_meant : output_of known run.frame (piece.first + run.stored) ≡ Some elem

-- A seat may count a piece.
pub record MaySub (known : Known) (view : View) (run : FrameRun) (piece : Piece) : Type 0 where
  pub runs : view.run ≡ Some run
  pub stands : StandsAt known.plan run piece
  pub has_stored_all : run.stored ≡ piece.count

-- A seat may read a cell.
pub record MayRead (known : Known) (view : View) (run : FrameRun) (cell : ℕ) : Type 0 where
  pub runs : view.run ≡ Some run
  pub gave_nothing : run ≡ first_place known.plan run.frame
  pub is_its_cell : HasCell known.plan run.frame cell

-- What a buffer holds behind a read of these elements: the least root of poison among them, or else all their values.
pub record AreKept (elements : List Elem) (least : Option ℕ) (into : List ℤ) : Type 0 where
  pub least_is : least ≡ least_root elements
  pub values_are : least ≡ None → take (length elements) into ≡ values_of elements

-- a seat that is told this
abbrev pub tells : Known → Step ℕ → Me ℕ Known → ℕ → Me ℕ Known → Type 0
tells known st m found n = (n.0 ≡ known) × (n.1 ≡ [])
