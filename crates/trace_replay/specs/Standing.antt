-- Where a replay stands.
use Rattle.std.specs.Prelude.{◌≡◌, ◌≢◌, ℕ, ℤ, ◌<◌, ◌≤◌, List, Option, Some, None, IsSome, is_some, length, slice_index}
use Rattle.flow_core_laws.specs.declared.elem.Elem.{Elem}
use Rattle.flow_core_laws.specs.declared.outcome.Outcome.{Outcome}
use Rattle.flow_core_laws.specs.declared.plan.Plan.{Plan}
use Rattle.flow_core_laws.specs.Outcome.{outcome_at}
use Rattle.flow_core_laws.specs.Poisoning.{poisoning}
use Rattle.flow_core_laws.specs.Plans.{frame_at, held_at, plan_reads, plan_element, plan_meaning}
use Rattle.flow_core_laws.specs.IsSound.{HasCell}
use Rattle.flow_core.specs.declared.board.Board.{Board}
use Rattle.flow_core.specs.Counted.{IsCounted}
use Rattle.flow_core.specs.Shows.{Shows, end_at}
use Rattle.trace_replay_laws.specs.Orders.{IsLawful}
use Rattle.trace_replay_laws.specs.Lists.{number_in, Taken, frames_of, taken_from, IsOrderOfHeads}
use Rattle.trace_replay_laws.specs.Answers.{plan_after}

-- Heads were run in a lawful order, of each list as many as its place says, and the board shows the state behind it.
pub record Stands (plan : Plan) (outcome : ℕ → List ℤ → Outcome) (lists : List (List ℕ)) (places : List ℕ) (board : Board) : Type 0 where
  pub order : List Taken
  pub of_heads : IsOrderOfHeads lists order
  pub lawful : IsLawful (plan_element plan) (plan_reads plan) (poisoning outcome) (length plan.frames) (frames_of order)
  pub places_of_lists : length places ≡ length lists
  pub at_places : (k : ℕ) → k < length lists → slice_index places k ≡ length (taken_from k order)
  pub counted : IsCounted plan board.cells.items board.waits
  pub shows : Shows plan (plan_meaning plan outcome) board.cells.items board.ends.items
  pub ended : (f : ℕ) → is_some (end_at board.ends.items f) ≡ is_some (outcome_at (plan_after plan outcome order) f)

-- The head of a list misses something, if one is left.
abbrev pub HeadWaits : List (List ℕ) → List ℕ → Board → ℕ → Type 0
HeadWaits lists places board list =
    (f : ℕ) → number_in lists list (slice_index places list) ≡ Some f → slice_index board.waits.missing.items f ≢ 0

-- Each head that misses nothing stands among the opened frames, from a turn on.
abbrev pub AreQueued : List (List ℕ) → List ℕ → Board → ℕ → Type 0
AreQueued lists places board turn =
    (k f : ℕ) → k < length lists → number_in lists k (slice_index places k) ≡ Some f → slice_index board.waits.missing.items f ≡ 0
    → (j : ℕ) × (turn ≤ j) × (j < length board.waits.opened.items) × (slice_index board.waits.opened.items j ≡ f)

-- the first list that isn't used up, with its head
pub record IsFirstLeft (lists : List (List ℕ)) (places : List ℕ) (list frame : ℕ) : Type 0 where
  pub exists : list < length lists
  pub head : number_in lists list (slice_index places list) ≡ Some frame
  pub is_first : (k : ℕ) → k < list → number_in lists k (slice_index places k) ≡ None

-- the first cell of a frame that holds nothing
pub record IsFirstHole (plan : Plan) (cells : List (Option Elem)) (frame cell : ℕ) : Type 0 where
  pub is_cell : HasCell plan frame cell
  pub is_empty : held_at cells cell ≡ None
  pub others_hold : (c : ℕ) → (frame_at plan frame).cell ≤ c → c < cell → IsSome (held_at cells c)

-- a frame misses nothing and has no end
pub record MayRun (board : Board) (frame : ℕ) : Type 0 where
  pub misses_nothing : slice_index board.waits.missing.items frame ≡ 0
  pub has_no_end : end_at board.ends.items frame ≡ None

-- the least frame that may run
pub record IsLeastFree (plan : Plan) (board : Board) (frame : ℕ) : Type 0 where
  pub exists : frame < length plan.frames
  pub may_run : MayRun board frame
  pub is_least : (f : ℕ) → f < frame → ¬ (MayRun board f)
