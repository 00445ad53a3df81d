-- What is answered about lists of frames over a plan.
use Rattle.std.specs.Prelude.{◌≡◌, ℕ, ℤ, ◌<◌, ◌≤◌, List, None, Some, IsSome, length}
use Rattle.flow_core_laws.specs.declared.plan.Plan.{Plan}
use Rattle.flow_core_laws.specs.declared.ends.Ends.{Ends}
use Rattle.flow_core_laws.specs.declared.outcome.Outcome.{Outcome}
use Rattle.flow_core_laws.specs.Outcome.{State, ends_of}
use Rattle.flow_core_laws.specs.Round.{IsEnabled}
use Rattle.flow_core_laws.specs.Poisoning.{poisoning}
use Rattle.flow_core_laws.specs.Plans.{frame_at, cell_source, plan_reads, plan_element, plan_meaning, sink_elements}
use Rattle.flow_core_laws.specs.IsSound.{HasCell}
use Rattle.trace_replay_laws.specs.declared.replayed.Replayed.{Replayed}
use Rattle.trace_replay_laws.specs.declared.replayed.Replayed.TheVariants.{Whole, Short, Stuck, Repeat, Stranger}
use Rattle.trace_replay_laws.specs.Orders.{state_after, IsLawful}
use Rattle.trace_replay_laws.specs.Lists.{AreBelow, IsFirstStranger, HaveNoRepeat, IsFirstRepeat, Taken, frames_of, IsOrderOf, head_after, HaveRun}

module _ (plan : Plan) (outcome : ℕ → List ℤ → Outcome) where
  -- The outcomes after frames of the plan ran in an order.
  abbrev pub plan_after : List Taken → State
  plan_after order = state_after (plan_element plan) (plan_reads plan) (poisoning outcome) (length plan.frames) (frames_of order)

  -- An order of the lists that is lawful: it keeps each list's order, and each frame is enabled in the state in which the frames
  -- before it have their ends.
  pub record IsLawfulOrder (lists : List (List ℕ)) (order : List Taken) : Type 0 where
    pub of_lists : IsOrderOf lists order
    pub lawful : IsLawful (plan_element plan) (plan_reads plan) (poisoning outcome) (length plan.frames) (frames_of order)

  -- A frame is enabled behind an order.
  pub record IsEnabledAfter (order : List Taken) (frame : ℕ) : Type 0 where
    pub exists : frame < length plan.frames
    pub enabled : IsEnabled (plan_element plan) (plan_reads plan) (plan_after order) frame

  -- A cell is a frame's first one that holds nothing behind an order.
  pub record IsFirstEmpty (order : List Taken) (frame cell : ℕ) : Type 0 where
    pub is_cell : HasCell plan frame cell
    pub is_empty : plan_element plan (plan_after order) (cell_source plan cell) ≡ None
    pub others_are_there : (c : ℕ) → (frame_at plan frame).cell ≤ c → c < cell
        → IsSome (plan_element plan (plan_after order) (cell_source plan c))

  -- No order of the lists is lawful. Where heads were run as long as one was enabled, this list is the first that isn't used up,
  -- this its head, and this the first empty cell of the head.
  pub record AreStuck (lists : List (List ℕ)) (list frame cell : ℕ) : Type 0 where
    pub has_no_order : (order : List Taken) → IsLawfulOrder lists order → ⊥
    pub order : List Taken
    pub have_run : HaveRun (plan_element plan) (plan_reads plan) (poisoning outcome) (length plan.frames) lists order
    pub others_are_used_up : (k : ℕ) → k < list → head_after lists order k ≡ None
    pub has_head : head_after lists order list ≡ Some frame
    pub lacks : IsFirstEmpty order frame cell

  -- A frame is enabled behind a lawful order of the lists, and it is the least such frame.
  pub record AreShort (lists : List (List ℕ)) (frame : ℕ) : Type 0 where
    pub order : List Taken
    pub is_lawful : IsLawfulOrder lists order
    pub enabled : IsEnabledAfter order frame
    pub is_least : (f : ℕ) → f < frame → ¬ (IsEnabledAfter order f)

  -- No frame is enabled behind a lawful order of the lists, and these are the ends and the output of the plan's meaning.
  pub record AreWhole (lists : List (List ℕ)) (ends : Ends) : Type 0 where
    pub order : List Taken
    pub is_lawful : IsLawfulOrder lists order
    pub none_is_enabled : (f : ℕ) → ¬ (IsEnabledAfter order f)
    pub has_ends : ends.ends ≡ ends_of (plan_meaning plan outcome)
    pub has_output : ends.output ≡ sink_elements plan (plan_meaning plan outcome)

  -- The lists name frames alone, and each at most once.
  pub record AreFrames (lists : List (List ℕ)) : Type 0 where
    pub are_below : AreBelow (length plan.frames) lists
    pub have_no_repeat : HaveNoRepeat lists

  -- The right answer about lists. Where a number has no frame it is the first such number; where a number stands twice, the first that
  -- stood before; and only where neither is so the lists are stuck, short or whole.
  abbrev pub IsAnswer : List (List ℕ) → Replayed → Type 0
  IsAnswer lists (Stranger list place) = IsFirstStranger (length plan.frames) lists list place
  IsAnswer lists (Repeat frame) = AreBelow (length plan.frames) lists × IsFirstRepeat lists frame
  IsAnswer lists (Stuck list frame cell) = AreFrames lists × AreStuck lists list frame cell
  IsAnswer lists (Short frame) = AreFrames lists × AreShort lists frame
  IsAnswer lists (Whole ends) = AreFrames lists × AreWhole lists ends
