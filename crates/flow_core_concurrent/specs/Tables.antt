-- What tables of states with poison are written with.
use Rattle.std.specs.Prelude.{ℕ, pos, List, Option, Some}
use Rattle.flow_core_concurrent.specs.declared.view.FrameRun.{FrameRun}
use Rattle.flow_core_laws.specs.declared.elem.Elem.{Elem}
use Rattle.flow_core_laws.specs.declared.elem.Elem.TheVariants.{Value, Poison}
use Rattle.flow_core_concurrent.specs.declared.known.Known.{Known}
use Rattle.flow_core_concurrent.specs.declared.view.View.{View}
use Rattle.flow_core_concurrent.specs.declared.word.Word.{Word}
use Rattle.flow_core_concurrent.specs.States.{CoreState}

-- a cell that holds a value, or poison with a root
abbrev pub value : ℕ → Option Elem
value number = Some (Value (pos number))

abbrev pub poison : ℕ → Option Elem
poison root = Some (Poison root)

-- the run of a frame, at a piece with some of its elements stored
abbrev pub at : (frame piece stored : ℕ) → Option FrameRun
at frame piece stored = Some (record { frame = frame; piece = piece; stored = stored })

abbrev pub seat : Known → Option FrameRun → (made ran missed found lost : List ℕ) → (looks shares : ℕ) → View
seat known run made ran missed found lost looks shares =
    record { about = known; run = run; made = made; ran = ran; missed = missed; found = found; lost = lost; looks = looks; shares = shares }

abbrev pub state : List Word → List (Option Elem) → List View → CoreState
state words cells seats = record { words = words; cells = cells; seats = seats }
