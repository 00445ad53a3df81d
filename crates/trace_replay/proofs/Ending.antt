-- The end of a replay.
use Rattle.std.proofs.Common.{◌≡◌, ℕ, ℤ, ◌<◌, List, Option, Some, None, true, length, get_or, sym, ap, ◌∙◌, subst, arith}
use Rattle.std.specs.Prelude.{is_some, IsSome}
use Rattle.flow_core_laws.specs.declared.elem.Elem.{Elem}
use Rattle.flow_core_laws.specs.declared.ends.Ends.{Ends}
use Rattle.flow_core_laws.specs.declared.plan.Plan.{Plan}
use Rattle.flow_core_laws.specs.declared.outcome.Outcome.{Outcome}
use Rattle.flow_core_laws.specs.Outcome.{outcome_at, State}
use Rattle.flow_core_laws.specs.Poisoning.{poisoning}
use Rattle.flow_core_laws.specs.Plans.{number_at, plan_reads, plan_element, plan_meaning}
use Rattle.flow_core_laws.specs.IsSound.{IsSound}
use Rattle.flow_core_laws.proofs.Rounds.{length-meaning}
use Rattle.flow_core_laws.proofs.Orders.{reached_meaning}
use Rattle.flow_core_laws.proofs.Elements.{element_kept}
use Rattle.flow_core.specs.declared.board.Board.{Board}
use Rattle.flow_core.specs.Shows.{end_at}
use Rattle.flow_core.proofs.Running.{ends_meant, sink_meant}
use Rattle.flow_core.proofs.Showing.{part_of}
use Rattle.trace_replay_laws.specs.Lists.{number_in, frames_of, head_after, HaveRun}
use Rattle.trace_replay_laws.specs.Answers.{plan_after, AreFrames, IsLawfulOrder, AreStuck, AreShort, AreWhole}
use Rattle.trace_replay_laws.proofs.Lawful.{reached_after}
use Rattle.trace_replay_laws.proofs.Taking.{none_left, order_of_heads}
use Rattle.trace_replay_laws.proofs.Heads.{finds}
use Rattle.trace_replay.specs.Standing.{Stands, HeadWaits, IsFirstLeft, IsFirstHole, MayRun, IsLeastFree}
use Rattle.trace_replay.proofs.Owning.{exists_of}
use Rattle.trace_replay.proofs.State.{held_behind, cell_exists, free_is_enabled, enabled_is_free}

module _ (plan : Plan) (outcome : ℕ → List ℤ → Outcome) (lists : List (List ℕ)) (sound : IsSound plan) (frames : AreFrames plan outcome lists) (places : List ℕ) (board : Board) (stands : Stands plan outcome lists places board) where
  -- a head by its place
  head_at : (k : ℕ) → k < length lists → head_after lists stands.order k ≡ number_in lists k (get_or places k 0)
  head_at k lt = ap (number_in lists k) (sym (stands.at_places k lt))

  have_run : ((k : ℕ) → k < length lists → HeadWaits lists places board k) → HaveRun (plan_element plan) (plan_reads plan) (poisoning outcome) (length plan.frames) lists stands.order
  have_run waits = record {
    of_heads = stands.of_heads;
    lawful = stands.lawful;
    none_is_enabled = λ k f head enabled.
        let lt = exists_of lists k _ f head in
        let below = frames.are_below k _ f head in
        waits k lt f (sym (head_at k lt) ∙ head) (enabled_is_free plan outcome lists places board sound stands f below enabled).misses_nothing;
  }

  pub are_stuck : (list frame cell : ℕ) → ((k : ℕ) → k < length lists → HeadWaits lists places board k) → IsFirstLeft lists places list frame → IsFirstHole plan board.cells.items frame cell → AreStuck plan outcome lists list frame cell
  are_stuck list frame cell waits left hole = record {
    has_no_order = λ order is.
        let all = finds (plan_element plan) (plan_reads plan) (poisoning outcome) (element_kept (number_at plan)) (length plan.frames) lists frames.have_no_repeat stands.order (have_run waits) order is.of_lists is.lawful in
        let n : ◌≡◌ {A = Option ℕ} None (Some frame) = sym (none_left lists stands.order all list) ∙ head in
        absurd (cc);
    order = stands.order;
    have_run = have_run waits;
    others_are_used_up = λ k lt. head_at k (let e = left.exists in omega (arith, lt, e)) ∙ left.is_first k lt;
    has_head = head;
    lacks = record {
      is_cell = hole.is_cell;
      is_empty = sym (held_behind plan outcome lists places board sound stands cell (cell_exists plan outcome lists places board sound stands frame cell (omega (arith, below)) hole.is_cell)) ∙ hole.is_empty;
      others_are_there = λ c low lt. subst (λ (o : Option Elem). IsSome o) (held_behind plan outcome lists places board sound stands c (cell_exists plan outcome lists places board sound stands frame c (omega (arith, below)) (low, (let h = hole.is_cell.1 in omega (arith, h, lt))))) (hole.others_hold c low lt);
    };
  }
    where
      head : head_after lists stands.order list ≡ Some frame
      head = head_at list left.exists ∙ left.head

      below : frame < length plan.frames
      below = frames.are_below list (get_or places list 0) frame left.head

  module _ (used_up : (k : ℕ) → k < length lists → number_in lists k (get_or places k 0) ≡ None) where
    is_lawful : IsLawfulOrder plan outcome lists stands.order
    is_lawful = record { of_lists = order_of_heads lists stands.order stands.of_heads (λ k lt. head_at k lt ∙ used_up k lt); lawful = stands.lawful }

    pub are_short : (frame : ℕ) → IsLeastFree plan board frame → AreShort plan outcome lists frame
    are_short frame free = record {
      order = stands.order;
      is_lawful = is_lawful;
      enabled = record { exists = free.exists; enabled = free_is_enabled plan outcome lists places board sound stands frame free.exists free.may_run };
      is_least = λ f lt after. free.is_least f lt (enabled_is_free plan outcome lists places board sound stands f after.exists after.enabled);
    }

    pub are_whole : (ends : Ends) → ((f : ℕ) → f < length plan.frames → ¬ (MayRun board f)) → ends.ends ≡ board.ends.items → ends.output ≡ part_of plan.sink board.cells.items → AreWhole plan outcome lists ends
    are_whole ends none ends_are output_is = record {
      order = stands.order;
      is_lawful = is_lawful;
      none_is_enabled = λ f after. none f after.exists (enabled_is_free plan outcome lists places board sound stands f after.exists after.enabled);
      has_ends = ends_are ∙ ends_meant plan (plan_meaning plan outcome) board.cells.items board.ends.items (length-meaning (plan_element plan) (plan_reads plan) (poisoning outcome) (length plan.frames)) stands.shows all;
      has_output = output_is ∙ sink_meant plan (plan_meaning plan outcome) board.cells.items board.ends.items board.waits sound stands.counted stands.shows all;
    }
      where
        is_meaning : plan_after plan outcome stands.order ≡ plan_meaning plan outcome
        is_meaning = reached_meaning (plan_element plan) (element_kept (number_at plan)) (plan_reads plan) (poisoning outcome) (length plan.frames) (plan_after plan outcome stands.order) (reached_after (plan_element plan) (plan_reads plan) (poisoning outcome) (length plan.frames) (frames_of stands.order) stands.lawful) (λ f lt e. none f lt (enabled_is_free plan outcome lists places board sound stands f lt e))

        all : (a : ℕ) (o : Outcome) → outcome_at (plan_meaning plan outcome) a ≡ Some o → is_some (end_at board.ends.items a) ≡ true
        all a o there = stands.ended a ∙ ap is_some (ap (λ (s : State). outcome_at s a) is_meaning ∙ there)
