-- What a board shows of the state behind an order.
use Rattle.std.proofs.Common.{◌≡◌, ℕ, ◌<◌, ◌≤◌, ℤ, List, Option, Some, None, Bool, false, cond, map, length, refl, sym, ap, ◌∙◌, arith}
use Rattle.std.specs.Prelude.{is_some, option_and_then}
use Rattle.flow_core.proofs.Running.{map-stretch}
use Rattle.flow_core_laws.specs.declared.plan.Plan.{Plan}
use Rattle.flow_core_laws.specs.declared.outcome.Outcome.{Outcome}
use Rattle.flow_core_laws.specs.declared.task_end.TaskEnd.{TaskEnd}
use Rattle.flow_core_laws.specs.Outcome.{outcome_at, State}
use Rattle.flow_core_laws.specs.Element.{Source, initial, fed, nobody, element_written, output_at}
use Rattle.flow_core_laws.specs.Round.{gathered, inputs_in, IsEnabled}
use Rattle.flow_core_laws.specs.Poisoning.{poisoning}
use Rattle.flow_core_laws.specs.Plans.{frame_at, number_at, cells_of, held_at, cell_source, plan_reads, plan_element, plan_meaning}
use Rattle.flow_core_laws.specs.IsSound.{IsSound, HasCell}
use Rattle.flow_core_laws.proofs.Gathering.{none_missing}
use Rattle.flow_core_laws.proofs.Rounds.{Extends}
use Rattle.flow_core_laws.proofs.Orders.{enabled_inputs, enabled_from}
use Rattle.flow_core_laws.proofs.Elements.{element_kept}
use Rattle.flow_core_laws.proofs.Sources.{map_map}
use Rattle.flow_core.specs.declared.board.Board.{Board}
use Rattle.flow_core.specs.Shows.{end_at, shown}
use Rattle.flow_core.proofs.Showing.{inputs_there, stretch_of}
use Rattle.trace_replay_laws.specs.Lists.{frames_of}
use Rattle.trace_replay_laws.specs.Answers.{plan_after}
use Rattle.trace_replay_laws.proofs.Lawful.{after_extends}
use Rattle.trace_replay.specs.Standing.{Stands, MayRun}

pub no_outcome : (o : Option Outcome) → is_some o ≡ false → o ≡ None
no_outcome None h = refl
no_outcome (Some o) h = absurd (cc)

module _ (plan : Plan) (outcome : ℕ → List ℤ → Outcome) (lists : List (List ℕ)) (places : List ℕ) (board : Board) (sound : IsSound plan) (stands : Stands plan outcome lists places board) where
  abbrev pub behind : State
  behind = plan_after plan outcome stands.order

  pub meant : Extends behind (plan_meaning plan outcome)
  meant = after_extends (plan_element plan) (plan_reads plan) (poisoning outcome) (element_kept (number_at plan)) (length plan.frames) (frames_of stands.order) stands.lawful

  -- a source shows its element in that state
  shown_behind : (source : Source) → shown (number_at plan) board.ends.items (plan_meaning plan outcome) source ≡ plan_element plan behind source
  shown_behind (initial e) = refl
  shown_behind nobody = refl
  shown_behind (fed f k) = by (outcome_at behind f) refl
    where
      by : (o : Option Outcome) → outcome_at behind f ≡ o → shown (number_at plan) board.ends.items (plan_meaning plan outcome) (fed f k) ≡ output_at (number_at plan) behind f k
      by None e =
          ap (λ (b : Bool). cond b (output_at (number_at plan) (plan_meaning plan outcome) f k) None) (stands.ended f ∙ ap is_some e)
          ∙ sym (ap (option_and_then (λ (o : Outcome). element_written (number_at plan f) o k)) e)
      by (Some o) e =
          ap (λ (b : Bool). cond b (output_at (number_at plan) (plan_meaning plan outcome) f k) None) (stands.ended f ∙ ap is_some e)
          ∙ ap (option_and_then (λ (o : Outcome). element_written (number_at plan f) o k)) (meant.kept f o e ∙ sym e)

  pub held_behind : (c : ℕ) → c < length board.cells.items → held_at board.cells.items c ≡ plan_element plan behind (cell_source plan c)
  held_behind c lt = stands.shows.cells_are_shown c lt ∙ shown_behind (cell_source plan c)

  pub cell_exists : (f c : ℕ) → f ≤ length plan.frames → HasCell plan f c → c < length board.cells.items
  cell_exists f c le has = let e = sound.cells_exist f le in let l = stands.counted.cells_of_plan in let h = has.1 in omega (arith, e, l, h)

  -- the inputs of a frame, as the cells have them
  inputs_held : (f : ℕ) → f < length plan.frames → inputs_in (plan_element plan) (plan_reads plan) behind f ≡ gathered (map (held_at board.cells.items) (cells_of plan f))
  inputs_held f lt =
      ap gathered (map_map (cell_source plan) (plan_element plan behind) (cells_of plan f)
      ∙ sym (map-stretch (held_at board.cells.items) (λ c. plan_element plan behind (cell_source plan c)) (frame_at plan f).cell (frame_at plan f).inputs (λ c low high. held_behind c (cell_exists f c (omega arith) (low, high)))))

  -- a frame that misses nothing and has no end is enabled, and no other is
  pub free_is_enabled : (f : ℕ) → f < length plan.frames → MayRun board f → IsEnabled (plan_element plan) (plan_reads plan) behind f
  free_is_enabled f lt may =
      let (vs, there) = inputs_there plan board.cells.items board.waits f sound stands.counted lt may.misses_nothing in
      enabled_from (plan_element plan) (plan_reads plan) behind f vs
      (no_outcome (outcome_at behind f) (sym (stands.ended f) ∙ ap is_some may.has_no_end))
      (inputs_held f lt ∙ ap gathered (sym (stretch_of plan board.cells.items board.waits f sound stands.counted (omega arith))) ∙ there)

  pub enabled_is_free : (f : ℕ) → f < length plan.frames → IsEnabled (plan_element plan) (plan_reads plan) behind f → MayRun board f
  enabled_is_free f lt e =
      let (vs, there) = enabled_inputs (plan_element plan) (plan_reads plan) behind f e in
      record {
        misses_nothing = stands.counted.counts f lt ∙ none_missing (held_at board.cells.items) (cells_of plan f) vs (sym (inputs_held f lt) ∙ there);
        has_no_end = no_end (end_at board.ends.items f) (stands.ended f ∙ ap is_some e.has_no_end);
      }
    where
      no_end : (o : Option TaskEnd) → is_some o ≡ false → o ≡ None
      no_end None h = refl
      no_end (Some o) h = absurd (cc)
