-- States of the concurrent core with poison.
use Rattle.std.specs.Prelude.{[], ◌≡◌, ℕ, ◌≤◌, Bool, ◌||◌, List, ◌∷◌, Option, Some, None, map, sum_by, slice_get, ◌==◌, not, count_by}
use Rattle.flow_core_concurrent.specs.declared.view.FrameRun.{FrameRun}
use Rattle.flow_core_laws.specs.declared.elem.Elem.{Elem}
use Rattle.flow_core_concurrent.specs.declared.known.Known.{Known}
use Rattle.flow_core_concurrent.specs.declared.view.View.{View}
use Rattle.flow_core_concurrent.specs.declared.word.Word.{Word}
use Rattle.flow_core_concurrent.specs.Words.{word_at, is_open, opening_words}

-- how often a frame stands in a list
abbrev pub times : ℕ → List ℕ → ℕ
times frame frames = count_by (λ f. f == frame) frames

-- whether a frame stands in a list
abbrev pub has : List ℕ → ℕ → Bool
has frames frame = not (times frame frames == 0)

-- A state has a word for each frame and for the sink, an element or none for each cell, which is a value or poison, and the view of
-- each seat. A seat without shares is spent.
pub record CoreState : Type 0 where
  pub words : List Word
  pub cells : List (Option Elem)
  pub seats : List View

-- A seat that isn't spent, with its view.
pub record IsSeat (state : CoreState) (seat : ℕ) (view : View) : Type 0 where
  pub sees : slice_get state.seats seat ≡ Some view
  pub is_not_spent : 1 ≤ view.shares

-- The view of a seat that did nothing yet. Without shares it is that of a spent seat.
abbrev pub fresh : Known → ℕ → View
fresh known shares = record { about = known; run = None; made = []; ran = []; missed = []; found = []; lost = []; looks = 0; shares = shares }

-- The state at opening: one seat has all shares.
abbrev pub opening : Known → CoreState
opening known = record { words = opening_words known.plan; cells = known.plan.filled; seats = fresh known known.seats ∷ [] }

-- what the seats run
abbrev pub runs_of : CoreState → List (Option FrameRun)
runs_of state = map (λ (v : View). v.run) state.seats

-- how often a frame stands in the lists of this kind of all seats
abbrev pub times_in_all : (View → List ℕ) → CoreState → ℕ → ℕ
times_in_all list state frame = sum_by (λ (v : View). times frame (list v)) state.seats

-- A seat knows a frame that was Open at opening, and one that it made or found.
abbrev pub knows : View → ℕ → Bool
knows view frame = is_open (word_at (opening_words view.about.plan) frame) || has view.made frame || has view.found frame
