-- What lists come to, and the line that tells it, are the same over all plans that stand for the activations.
use Rattle.std.proofs.Common.{◌≡◌, ℕ, ℤ, get_or, ◌+◌, ◌-◌, ◌<◌, ◌≤◌, ◌⊎◌, inl, inr, List, Option, None, length, map, slice_get, refl, sym, ap, ◌∙◌, subst, arith}
use Rattle.std.specs.Prelude.{IsSome}
use Rattle.std.specs.List.{range_with_len}
use Rattle.std.proofs.Math.Path.{fun_ext}
use Rattle.std.proofs.lemmas.Bool.{cases_lt}
use Rattle.std.proofs.lemmas.List.{get_or_past}
use Rattle.std.proofs.lemmas.List.FromFn.{get_or-map-range_with_len, length-map-range_with_len}
use Rattle.std.proofs.lemmas.Option.{same_Some}
use Rattle.flow_core_laws.proofs.Elements.{number_at_own}
use Rattle.flow_core_laws.specs.Element.{Source, element}
use Rattle.flow_core_laws.specs.IsSound.{HasCell}
use Rattle.flow_core_laws.specs.Outcome.{State, ends_of}
use Rattle.flow_core_laws.specs.Place.{input_places}
use Rattle.flow_core_laws.specs.Plans.{cell_source, frame_at, plan_element, plan_reads}
use Rattle.flow_core_laws.specs.Poisoning.{poisoning}
use Rattle.flow_core_laws.specs.Round.{IsEnabled, meaning}
use Rattle.flow_core_laws.specs.StandsFor.{StandsFor}
use Rattle.flow_core_laws.specs.declared.activation.Activation.{Activation}
use Rattle.flow_core_laws.specs.declared.elem.Elem.{Elem}
use Rattle.flow_core_laws.specs.declared.ends.Ends.{Ends}
use Rattle.flow_core_laws.specs.declared.outcome.Outcome.{Outcome}
use Rattle.flow_core_laws.specs.declared.plan.FramePlan.{FramePlan}
use Rattle.flow_core_laws.specs.declared.plan.Plan.{Plan}
use Rattle.osrun_core_run.specs.ReplayLine.{IsReplayLine, stuck_line}
use Rattle.trace_replay_laws.specs.Answers.{AreFrames, IsAnswer, IsEnabledAfter, IsFirstEmpty, IsLawfulOrder}
use Rattle.trace_replay_laws.specs.Laws.{HasOneAnswer}
use Rattle.trace_replay_laws.specs.Lists.{AreBelow, HaveRun, IsFirstStranger, Taken, frames_of}
use Rattle.trace_replay_laws.specs.Orders.{IsLawful, state_after}
use Rattle.trace_replay_laws.specs.declared.replayed.Replayed.{Replayed}
use Rattle.trace_replay_laws.specs.declared.replayed.Replayed.TheVariants.{Whole, Short, Stuck, Repeat, Stranger}

module _ (activations : List Activation) (input : List ℕ) (outcome : ℕ → List ℤ → Outcome) where
  -- a plan has as many frames as there are activations, and behind them its sink
  sink_at : (plan : Plan) (f : ℕ) → length plan.frames ≤ f → frame_at plan f ≡ plan.sink
  sink_at plan f past = get_or_past plan.frames f plan.sink past

  reads_past : (plan : Plan) (f : ℕ) → length plan.frames ≤ f → plan_reads plan f ≡ plan_reads plan (length plan.frames)
  reads_past plan f past =
      ap (λ (p : FramePlan). map (cell_source plan) (range_with_len p.cell p.inputs)) (sink_at plan f past ∙ sym (sink_at plan (length plan.frames) (omega arith)))

  abbrev by_numbers : (ℕ → ℕ) → State → Source → Option Elem
  by_numbers numbers state source = element numbers state source

  module _ (one other : Plan) (stands : StandsFor one activations input) (too : StandsFor other activations input) where
    as_many : length one.frames ≡ length other.frames
    as_many = stands.frames_are_activations ∙ sym too.frames_are_activations

    elements : plan_element one ≡ plan_element other
    elements =
        ap by_numbers
        (number_at_own one activations input stands ∙ sym (number_at_own other activations input too))

    sinks : plan_reads one (length one.frames) ≡ plan_reads other (length other.frames)
    sinks =
        ap (plan_reads one) stands.frames_are_activations ∙ stands.sink_is_the_output ∙ sym too.sink_is_the_output
        ∙ sym (ap (plan_reads other) too.frames_are_activations)

    reads_at : (f : ℕ) → plan_reads one f ≡ plan_reads other f
    reads_at f = by (cases_lt f (length one.frames))
      where
        by : (f < length one.frames) ⊎ (length one.frames ≤ f) → plan_reads one f ≡ plan_reads other f
        by (inl lt) =
            let exists : f < length activations = omega (arith, stands.frames_are_activations, lt) in
            stands.cells_are_window_elements f exists ∙ sym (too.cells_are_window_elements f exists)
        by (inr past) = reads_past one f past ∙ sinks ∙ sym (reads_past other f (omega (arith, as_many, past)))

    reads : plan_reads one ≡ plan_reads other
    reads = fun_ext reads_at

    -- what holds of one plan's elements, sources and frames holds of the other's
    moved : (fact : (State → Source → Option Elem) → (ℕ → List Source) → ℕ → Type 0) → fact (plan_element one) (plan_reads one) (length one.frames)
        → fact (plan_element other) (plan_reads other) (length other.frames)
    moved fact h =
        subst (fact (plan_element other) (plan_reads other)) as_many
        (subst (λ r. fact (plan_element other) r (length one.frames)) reads (subst (λ e. fact e (plan_reads one) (length one.frames)) elements h))

    are_frames : (lists : List (List ℕ)) → AreFrames one outcome lists → AreFrames other outcome lists
    are_frames lists h = record { are_below = subst (λ n. AreBelow n lists) as_many h.are_below; have_no_repeat = h.have_no_repeat }

    lawful : (lists : List (List ℕ)) (order : List Taken) → IsLawfulOrder one outcome lists order → IsLawfulOrder other outcome lists order
    lawful lists order h = record {
      of_lists = h.of_lists;
      lawful = moved (λ e r n. IsLawful e r (poisoning outcome) n (frames_of order)) h.lawful;
    }

    enabled : (order : List Taken) (f : ℕ) → IsEnabledAfter one outcome order f → IsEnabledAfter other outcome order f
    enabled order f h = record {
      exists = subst (λ n. f < n) as_many h.exists;
      enabled = moved (λ e r n. IsEnabled e r (state_after e r (poisoning outcome) n (frames_of order)) f) h.enabled;
    }

    -- the cell of an input of a frame in the other plan
    abbrev cell_in_other : ℕ → ℕ → ℕ
    cell_in_other frame cell = (frame_at other frame).cell + (cell - (frame_at one frame).cell)

    inputs_are : (frame : ℕ) → (frame_at one frame).inputs ≡ (frame_at other frame).inputs
    inputs_are frame =
        sym (length-map-range_with_len (cell_source one) (frame_at one frame).cell (frame_at one frame).inputs)
        ∙ ap (λ (sources : List Source). length sources) (reads_at frame)
        ∙ length-map-range_with_len (cell_source other) (frame_at other frame).cell (frame_at other frame).inputs

    -- it is the source of the same element
    same_source : (frame cell : ℕ) → HasCell one frame cell → cell_source one cell ≡ cell_source other (cell_in_other frame cell)
    same_source frame cell has =
        let f = frame_at one frame in
        let g = frame_at other frame in
        let k = cell - f.cell in
        let below : k < f.inputs = omega (arith, has.0, has.1) in
        let too_below : k < g.inputs = omega (arith, below, inputs_are frame) in
        let d = cell_source one 0 in
        sym (get_or-map-range_with_len (cell_source one) f.cell f.inputs k cell d below (omega (arith, has.0)))
        ∙ ap (λ (sources : List Source). get_or sources k d) (reads_at frame)
        ∙ get_or-map-range_with_len (cell_source other) g.cell g.inputs k (g.cell + k) d too_below refl

    -- and each cell of the frame in the other plan is such a one
    back : (frame cell : ℕ) → HasCell other frame cell
        → HasCell one frame ((frame_at one frame).cell + (cell - (frame_at other frame).cell))
        × (cell ≡ cell_in_other frame ((frame_at one frame).cell + (cell - (frame_at other frame).cell)))
    back frame cell has =
        let f = frame_at one frame in
        let g = frame_at other frame in
        ((omega arith, omega (arith, has.0, has.1, inputs_are frame)), omega (arith, has.0))

    lacks : (order : List Taken) (frame cell : ℕ) → IsFirstEmpty one outcome order frame cell
        → IsFirstEmpty other outcome order frame (cell_in_other frame cell)
    lacks order frame cell h = record {
      is_cell = (omega arith, omega (arith, h.is_cell.0, h.is_cell.1, inputs_are frame));
      is_empty = subst (λ (s : Source). element_after other s ≡ None) (same_source frame cell h.is_cell)
          (moved (λ e r n. e (state_after e r (poisoning outcome) n (frames_of order)) (cell_source one cell) ≡ None) h.is_empty);
      others_are_there = λ c low below.
          let f = frame_at one frame in
          let g = frame_at other frame in
          let has : HasCell other frame c = (low, omega (arith, below, h.is_cell.0, h.is_cell.1, inputs_are frame)) in
          let (has_one, is) = back frame c has in
          let at = f.cell + (c - g.cell) in
          subst (λ (s : Source). IsSome (element_after other s)) (same_source frame at has_one ∙ ap (cell_source other) (sym is))
          (moved (λ e r n. IsSome (e (state_after e r (poisoning outcome) n (frames_of order)) (cell_source one at)))
          (h.others_are_there at (omega arith) (omega (arith, low, below, h.is_cell.0))));
    }
      where
        element_after : Plan → Source → Option Elem
        element_after plan source = plan_element plan (state_after (plan_element plan) (plan_reads plan) (poisoning outcome) (length plan.frames) (frames_of order)) source

  -- the right answer about lists over one plan is, with the other's cell, the right one over the other
  abbrev in_other : Plan → Plan → Replayed → Replayed
  in_other one other (Stranger list place) = Stranger list place
  in_other one other (Repeat frame) = Repeat frame
  in_other one other (Stuck list frame cell) = Stuck list frame ((frame_at other frame).cell + (cell - (frame_at one frame).cell))
  in_other one other (Short frame) = Short frame
  in_other one other (Whole ends) = Whole ends

  right_in_other : (one other : Plan) → StandsFor one activations input → StandsFor other activations input → (lists : List (List ℕ)) (answer : Replayed)
      → IsAnswer one outcome lists answer → IsAnswer other outcome lists (in_other one other answer)
  right_in_other one other stands too lists (Stranger list place) h = subst (λ n. IsFirstStranger n lists list place) (as_many one other stands too) h
  right_in_other one other stands too lists (Repeat frame) h = (subst (λ n. AreBelow n lists) (as_many one other stands too) h.0, h.1)
  right_in_other one other stands too lists (Stuck list frame cell) h = (
    are_frames one other stands too lists h.0,
    record {
      has_no_order = λ order is. h.1.has_no_order order (lawful other one too stands lists order is);
      order = h.1.order;
      have_run = moved one other stands too (λ e r n. HaveRun e r (poisoning outcome) n lists h.1.order) h.1.have_run;
      others_are_used_up = h.1.others_are_used_up;
      has_head = h.1.has_head;
      lacks = lacks one other stands too h.1.order frame cell h.1.lacks;
    },
  )
  right_in_other one other stands too lists (Short frame) h = (
    are_frames one other stands too lists h.0,
    record {
      order = h.1.order;
      is_lawful = lawful one other stands too lists h.1.order h.1.is_lawful;
      enabled = enabled one other stands too h.1.order frame h.1.enabled;
      is_least = λ f below is. h.1.is_least f below (enabled other one too stands h.1.order f is);
    },
  )
  right_in_other one other stands too lists (Whole ends) h = (
    are_frames one other stands too lists h.0,
    record {
      order = h.1.order;
      is_lawful = lawful one other stands too lists h.1.order h.1.is_lawful;
      none_is_enabled = λ f is. h.1.none_is_enabled f (enabled other one too stands h.1.order f is);
      has_ends = moved one other stands too (λ e r n. ends.ends ≡ ends_of (meaning e r (poisoning outcome) n)) h.1.has_ends;
      has_output = moved one other stands too (λ e r n. ends.output ≡ map (e (meaning e r (poisoning outcome) n)) (r n)) h.1.has_output;
    },
  )

  -- ---- two right answers

  module _ (once : HasOneAnswer) (lists : List (List ℕ)) (one other : Plan) (stands : StandsFor one activations input) (too : StandsFor other activations input)
      (answer another : Replayed) (right : IsAnswer one outcome lists answer) (right_too : IsAnswer other outcome lists another) where
    same_answer : answer ≡ in_other other one another
    same_answer = once one outcome lists answer (in_other other one another) right (right_in_other other one too stands lists another right_too)

    -- with whole lists the ends are the same
    pub one_whole : (ends : Ends) → answer ≡ Whole ends → another ≡ Whole ends
    one_whole ends is = by another (sym same_answer ∙ is)
      where
        by : (a : Replayed) → in_other other one a ≡ Whole ends → a ≡ Whole ends
        by (Whole e) h = h
        by (Short frame) h = absurd (cc)
        by (Stuck list frame cell) h = absurd (cc)
        by (Repeat frame) h = absurd (cc)
        by (Stranger list place) h = absurd (cc)

    -- and with others the line is
    pub one_line : (text also : List ℕ) → IsReplayLine one activations answer text → IsReplayLine other activations another also → text ≡ also
    one_line text also is = by another (subst (λ a. IsReplayLine one activations a text) same_answer is)
      where
        by : (a : Replayed) → IsReplayLine one activations (in_other other one a) text → IsReplayLine other activations a also → text ≡ also
        by (Whole e) h k = absurd h
        by (Short frame) h k = h ∙ sym k
        by (Stuck list frame cell) h k =
            let same : h.1.input ≡ k.1.input = omega (arith, h.1.is_cell, k.1.is_cell) in
            let places = input_places activations frame in
            let one_place : h.0 ≡ k.0 = same_Some h.0 k.0 (sym h.1.is_place ∙ ap (slice_get places) same ∙ k.1.is_place) in
            h.2 ∙ ap (stuck_line list frame) one_place ∙ sym k.2
        by (Repeat frame) h k = h ∙ sym k
        by (Stranger list place) h k = h ∙ sym k
