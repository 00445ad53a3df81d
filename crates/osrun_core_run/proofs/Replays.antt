-- What lists come to over a plan is the same with bodies that make the same of all inputs that the frames can have.
use Rattle.std.proofs.Common.{◌≡◌, ℕ, ℤ, List, [], ◌∷◌, Option, Some, None, map, length, replicate, slice_set, refl, sym, ap, ◌∙◌, subst}
use Rattle.std.specs.Option.{option_map, option_map_or, option_or}
use Rattle.std.proofs.lemmas.List.{length-map}
use Rattle.flow_core_laws.proofs.Gathering.{length-gathered}
use Rattle.flow_core_laws.proofs.OneMore.{length-values}
use Rattle.flow_core_laws.specs.declared.elem.Elem.{Elem}
use Rattle.flow_core_laws.specs.declared.outcome.Outcome.{Outcome}
use Rattle.flow_core_laws.specs.declared.plan.Plan.{Plan}
use Rattle.flow_core_laws.specs.declared.task_end.TaskEnd.TheVariants.{Poisoned}
use Rattle.flow_core_laws.specs.Element.{Source}
use Rattle.flow_core_laws.specs.Outcome.{State, outcome_at, outcome_of, over_budget}
use Rattle.flow_core_laws.specs.Plans.{plan_element, plan_reads}
use Rattle.flow_core_laws.specs.Poisoning.{least_root, poisoning, values_of}
use Rattle.flow_core_laws.specs.Round.{IsEnabled, inputs_in}
use Rattle.std.specs.Prelude.{All, IsSome, slice_get}
use Rattle.std.proofs.lemmas.Option.{slice_get_within}
use Rattle.cddf_meaning.specs.Body.{body as task_body}
use Rattle.epoch_run.specs.declared.result.Budgets.{Budgets}
use Rattle.epoch_run_bodies.proofs.Counts.{length-reads}
use Rattle.epoch_run_bodies.specs.Frames.{frame_outcome}
use Rattle.epoch_run_bodies.specs.Laws.{AgreeingBodiesMeanOne}
use Rattle.flow_core_laws.specs.Laws.{MeansTheStreams}
use Rattle.flow_core_laws.specs.StandsFor.{StandsFor}
use Rattle.flow_core_laws.specs.declared.activation.Activation.{Activation}
use Rattle.flow_core_laws.specs.declared.control.Control.{Control}
use Rattle.lowering.specs.Meanings.{RunsBodies}
use Rattle.os_ast.specs.Trees.{ProgramTree}
use Rattle.os_code.specs.Outcomes as machine
use Rattle.os_code.specs.Tasks.{Fits}
use Rattle.os_code.specs.declared.parts.Parts.{Parts}
use Rattle.osrun_core_run.proofs.ManyPlans.{one_line, one_whole}
use Rattle.osrun_core_run.proofs.TasksRun.{agree as bodies_agree}
use Rattle.osrun_core_run.specs.Code.{IsCodeOf}
use Rattle.osrun_core_run.specs.Laws.{HasOneReplay}
use Rattle.osrun_core_run.specs.Planned.{IsPlannedOf}
use Rattle.osrun_core_run.specs.Replay.{IsReplayOf}
use Rattle.osrun_core_run.specs.ReplayLine.{IsReplayLine}
use Rattle.osrun_core_run.specs.Run.{body_at}
use Rattle.stream_match_layouts.specs.declared.layout.Layout.{Layout}
use Rattle.flow_core_laws.specs.Outcome.{ends_of}
use Rattle.flow_core_laws.specs.Plans.{cell_source, plan_meaning, sink_elements}
use Rattle.trace_replay_laws.specs.Answers.{AreFrames, IsAnswer, IsEnabledAfter, IsFirstEmpty, IsLawfulOrder, plan_after}
use Rattle.trace_replay_laws.specs.Laws.{HasOneAnswer}
use Rattle.trace_replay_laws.specs.Lists.{HaveRun, Taken, frames_of}
use Rattle.trace_replay_laws.specs.declared.replayed.Replayed.{Replayed}
use Rattle.trace_replay_laws.specs.declared.replayed.Replayed.TheVariants.{Whole, Short, Stuck, Repeat, Stranger}
use Rattle.trace_replay_laws.specs.Orders as orders

module _ (plan : Plan) (one another : ℕ → List ℤ → Outcome)
    (agree : (a : ℕ) (inputs : List ℤ) → length inputs ≡ length (plan_reads plan a) → one a inputs ≡ another a inputs) where
  abbrev body : ℕ → List Elem → Outcome
  body = poisoning one

  abbrev other : ℕ → List Elem → Outcome
  other = poisoning another

  -- with the same poison among the inputs, or else the same values
  by_inputs : (a : ℕ) (es : List Elem) → length es ≡ length (plan_reads plan a) → body a es ≡ other a es
  by_inputs a es long = by_root (least_root es) refl
    where
      by_root : (root : Option ℕ) → least_root es ≡ root → option_map_or (λ (r : ℕ). outcome_of (Poisoned r) []) root (one a (values_of es)) ≡ option_map_or (λ (r : ℕ). outcome_of (Poisoned r) []) root (another a (values_of es))
      by_root None is = agree a (values_of es) (length-values es is ∙ long)
      by_root (Some r) is = refl

  -- the same inputs, if they are there, give the same
  given : (s : State) (a : ℕ) (o : Option (List Elem)) → inputs_in (plan_element plan) (plan_reads plan) s a ≡ o → option_map (body a) o ≡ option_map (other a) o
  given s a None is = refl
  given s a (Some inputs) is =
      ap (λ (o : Outcome). Some o) (by_inputs a inputs (length-gathered (map (plan_element plan s) (plan_reads plan a)) inputs is ∙ length-map (plan_reads plan a) (plan_element plan s)))

  same_after : (s : State) (a : ℕ) → orders.after (plan_element plan) (plan_reads plan) body s a ≡ orders.after (plan_element plan) (plan_reads plan) other s a
  same_after s a =
      ap (λ (o : Option Outcome). slice_set s a (option_or (outcome_at s a) o)) (given s a (inputs_in (plan_element plan) (plan_reads plan) s a) refl)

  same_after_all : (s : State) (order : List ℕ) → orders.after_all (plan_element plan) (plan_reads plan) body s order ≡ orders.after_all (plan_element plan) (plan_reads plan) other s order
  same_after_all s [] = refl
  same_after_all s (a ∷ order) =
      ap (λ (t : State). orders.after_all (plan_element plan) (plan_reads plan) body t order) (same_after s a)
      ∙ same_after_all (orders.after (plan_element plan) (plan_reads plan) other s a) order

  lawful_from : (count : ℕ) (s : State) (order : List ℕ) → orders.IsLawfulFrom (plan_element plan) (plan_reads plan) body count s order
      → orders.IsLawfulFrom (plan_element plan) (plan_reads plan) other count s order
  lawful_from count s [] h = h
  lawful_from count s (a ∷ order) h = (
    h.0,
    h.1,
    lawful_from count (orders.after (plan_element plan) (plan_reads plan) other s a) order
        (subst (λ (t : State). orders.IsLawfulFrom (plan_element plan) (plan_reads plan) body count t order) (same_after s a) h.2),
  )

  same_plan : (order : List Taken) → plan_after plan one order ≡ plan_after plan another order
  same_plan order = same_after_all (replicate (length plan.frames) None) (frames_of order)

  lawful : (lists : List (List ℕ)) (order : List Taken) → IsLawfulOrder plan one lists order → IsLawfulOrder plan another lists order
  lawful lists order h = record {
    of_lists = h.of_lists;
    lawful = lawful_from (length plan.frames) (replicate (length plan.frames) None) (frames_of order) h.lawful;
  }

  enabled : (order : List Taken) (f : ℕ) → IsEnabledAfter plan one order f → IsEnabledAfter plan another order f
  enabled order f h = record {
    exists = h.exists;
    enabled = subst (λ (s : State). IsEnabled (plan_element plan) (plan_reads plan) s f) (same_plan order) h.enabled;
  }

  lacks : (order : List Taken) (f cell : ℕ) → IsFirstEmpty plan one order f cell → IsFirstEmpty plan another order f cell
  lacks order f cell h = record {
    is_cell = h.is_cell;
    is_empty = subst (λ (s : State). plan_element plan s (cell_source plan cell) ≡ None) (same_plan order) h.is_empty;
    others_are_there = λ c from below. subst (λ (s : State). IsSome (plan_element plan s (cell_source plan c))) (same_plan order) (h.others_are_there c from below);
  }

  heads : (lists : List (List ℕ)) (order : List Taken) → HaveRun (plan_element plan) (plan_reads plan) body (length plan.frames) lists order
      → HaveRun (plan_element plan) (plan_reads plan) other (length plan.frames) lists order
  heads lists order h = record {
    of_heads = h.of_heads;
    lawful = lawful_from (length plan.frames) (replicate (length plan.frames) None) (frames_of order) h.lawful;
    none_is_enabled = λ k f head is. h.none_is_enabled k f head (subst (λ (s : State). IsEnabled (plan_element plan) (plan_reads plan) s f) (sym (same_plan order)) is);
  }

frames_are : (plan : Plan) (one another : ℕ → List ℤ → Outcome) (lists : List (List ℕ)) → AreFrames plan one lists → AreFrames plan another lists
frames_are plan one another lists h = record { are_below = h.are_below; have_no_repeat = h.have_no_repeat }

-- so the right answer about lists is the same, where both bodies have one meaning over the plan
pub same_answer : (plan : Plan) (one another : ℕ → List ℤ → Outcome)
    → ((a : ℕ) (inputs : List ℤ) → length inputs ≡ length (plan_reads plan a) → one a inputs ≡ another a inputs)
    → plan_meaning plan one ≡ plan_meaning plan another → (lists : List (List ℕ)) (answer : Replayed)
    → IsAnswer plan one lists answer → IsAnswer plan another lists answer
same_answer plan one another agree means lists (Stranger list place) h = h
same_answer plan one another agree means lists (Repeat frame) h = h
same_answer plan one another agree means lists (Stuck list frame cell) h = (
  frames_are plan one another lists h.0,
  record {
    has_no_order = λ order is. h.1.has_no_order order (lawful plan another one (λ a inputs long. sym (agree a inputs long)) lists order is);
    order = h.1.order;
    have_run = heads plan one another agree lists h.1.order h.1.have_run;
    others_are_used_up = h.1.others_are_used_up;
    has_head = h.1.has_head;
    lacks = lacks plan one another agree h.1.order frame cell h.1.lacks;
  },
)
same_answer plan one another agree means lists (Short frame) h = (
  frames_are plan one another lists h.0,
  record {
    order = h.1.order;
    is_lawful = lawful plan one another agree lists h.1.order h.1.is_lawful;
    enabled = enabled plan one another agree h.1.order frame h.1.enabled;
    is_least = λ f below is. h.1.is_least f below (enabled plan another one (λ a inputs long. sym (agree a inputs long)) h.1.order f is);
  },
)
same_answer plan one another agree means lists (Whole ends) h = (
  frames_are plan one another lists h.0,
  record {
    order = h.1.order;
    is_lawful = lawful plan one another agree lists h.1.order h.1.is_lawful;
    none_is_enabled = λ f is. h.1.none_is_enabled f (enabled plan another one (λ a inputs long. sym (agree a inputs long)) h.1.order f is);
    has_ends = h.1.has_ends ∙ ap ends_of means;
    has_output = h.1.has_output ∙ ap (sink_elements plan) means;
  },
)

-- ---- a code of a program

-- what the machine makes of the inputs of each frame is what the body of its task does
agree_at : (code : Parts) (p : ProgramTree) (activations : List Activation) (budget : ℕ) → RunsBodies code p → All (Fits code) activations
    → (plan : Plan) (input : List ℕ) → StandsFor plan activations input → (a : ℕ) (inputs : List ℤ) → length inputs ≡ length (plan_reads plan a)
    → frame_outcome code activations budget a inputs ≡ body_at p activations budget a inputs
agree_at code p activations budget runs fit plan input stands a inputs long = by (slice_get activations a) refl
  where
    by : (o : Option Activation) → slice_get activations a ≡ o → frame_outcome code activations budget a inputs ≡ body_at p activations budget a inputs
    by (Some x) at =
        bodies_agree code p activations budget runs fit a x inputs at
        (long ∙ ap (λ (sources : List Source). length sources) (stands.cells_are_window_elements a (slice_get_within activations a x at)) ∙ length-reads activations input a x at)
    by None at =
        ap (λ (o : Option Activation). option_map_or (λ (y : Activation). machine.code_outcome code y inputs budget) o over_budget) at
        ∙ sym (ap (λ (o : Option Activation). option_map_or (λ (y : Activation). task_body p y inputs budget) o over_budget) at)

-- so what lists come to over a plan of the code is what they come to with the program's bodies
pub replay_of_code : MeansTheStreams → AgreeingBodiesMeanOne → (code : Parts) (p : ProgramTree) → IsCodeOf code p → (budgets : Budgets) (input : List ℕ)
    (lists : List (List ℕ)) (made : Control) (layout : Layout) (plan : Plan) (answer : Replayed) → IsPlannedOf budgets.control code input made layout plan
    → IsAnswer plan (frame_outcome code made.activations budgets.task) lists answer
    → IsReplayOf budgets p input lists made plan answer
replay_of_code means one code p is budgets input lists made layout plan answer planned right =
    let by_machine = frame_outcome code made.activations budgets.task in
    let by_program = body_at p made.activations budgets.task in
    let same : plan_meaning plan by_machine ≡ plan_meaning plan by_program =
    means plan made.activations input by_machine planned.stands
    ∙ one made.activations input by_machine by_program (bodies_agree code p made.activations budgets.task is.bodies planned.fit)
    ∙ sym (means plan made.activations input by_program planned.stands) in
    record {
      made_is = planned.made_is ∙ is.control (length input) budgets.control;
      sound = planned.sound;
      stands = planned.stands;
      answer_is = same_answer plan by_machine by_program (agree_at code p made.activations budgets.task is.bodies planned.fit plan input planned.stands)
          same lists answer right;
    }

-- ---- whatever the plan

pub one_replay : HasOneAnswer → HasOneReplay
one_replay once budgets p input lists made made_too plan other answer another is also =
    let same : made ≡ made_too = is.made_is ∙ sym also.made_is in
    let activations = made.activations in
    let body = body_at p activations budgets.task in
    let too = subst (λ (m : Control). StandsFor other m.activations input) (sym same) also.stands in
    let right = subst (λ (m : Control). IsAnswer other (body_at p m.activations budgets.task) lists another) (sym same) also.answer_is in (
      same,
      one_whole activations input body once lists plan other is.stands too answer another is.answer_is right,
      λ text told line line_too.
          one_line activations input body once lists plan other is.stands too answer another is.answer_is right text told line
          (subst (λ (m : Control). IsReplayLine other m.activations another told) (sym same) line_too),
    )
