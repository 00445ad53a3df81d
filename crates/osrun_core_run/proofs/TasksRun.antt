-- What a run on the machine comes to is what the program's activations come to.
use Rattle.std.proofs.Common.{◌≡◌, ℕ, ℤ, List, All, Option, Some, length, slice_get, sym, ap, ◌∙◌, subst}
use Rattle.std.specs.Prelude.{IfOk, Result, Ok, Err}
use Rattle.std.specs.Option.{option_map_or}
use Rattle.std.proofs.lemmas.List.Elements.{All-get_or}
use Rattle.std.proofs.lemmas.Option.{get_or_from_slice_get, slice_get_within}
use Rattle.cddf_meaning.specs.Body.{body}
use Rattle.collector.specs.Written.{IsByteIfThere}
use Rattle.epoch_run.specs.declared.result.RunResult.{RunResult}
use Rattle.flow_core_laws.specs.Laws.{MeansTheStreams, SinkIsTheOutput}
use Rattle.flow_core_laws.specs.Outcome.{ends_of, over_budget}
use Rattle.flow_core_laws.specs.Plans.{plan_meaning, sink_elements}
use Rattle.flow_core_laws.specs.StandsFor.{StandsFor}
use Rattle.flow_core_laws.specs.Streams.{output_elements, stream_ends, stream_meaning}
use Rattle.flow_core_laws.specs.declared.activation.Activation.{Activation}
use Rattle.flow_core_laws.specs.declared.control.ControlEnd.{ControlEnd}
use Rattle.flow_core_laws.specs.declared.ends.Ends.{Ends}
use Rattle.flow_core_laws.specs.declared.plan.Plan.{Plan}
use Rattle.lowering.specs.Meanings.{RunsBodies}
use Rattle.os_ast.specs.Trees.{ProgramTree}
use Rattle.os_code.specs.IsValid.{IsValid}
use Rattle.os_code.specs.Outcomes as machine
use Rattle.os_code.specs.Tasks.{Fits, input_count}
use Rattle.os_code.specs.declared.parts.Parts.{Parts}
use Rattle.osrun_core_run.proofs.BodyBytes.{RunsKeep, body_gives}
use Rattle.osrun_core_run.specs.Code.{IsCodeOf}
use Rattle.osrun_core_run.specs.Run.{body_at, ends_over}
use Rattle.osrun_core_run.specs.RunOf.{IsRunOf, IsRunOfCode}
use Rattle.epoch_run_bodies.specs.Frames.{code_ends, frame_outcome}
use Rattle.epoch_run_bodies.specs.Laws.{Agree, AgreeingBodiesMeanOne}
use Rattle.osrun_core_run.specs.BodyLaws.{CodesGiveBytes, GivesBytes, OutputsAreBytes}
use Rattle.stream_match_layouts.specs.declared.layout.Layout.{Layout}
use Rattle.task_workers.specs.declared.logged.Logged.{Logged}

-- an activation of those that fit
fits_at : (code : Parts) (activations : List Activation) → All (Fits code) activations → (a : ℕ) (x : Activation) → slice_get activations a ≡ Some x → Fits code x
fits_at code activations fit a x at =
    subst (Fits code) (get_or_from_slice_get activations a x x at) (All-get_or (Fits code) activations a x (slice_get_within activations a x at) fit)

-- ---- a plan on the machine comes to what the activations of its code come to

module _ (code : Parts) (activations : List Activation) (budget : ℕ) where
  pub ends_are : MeansTheStreams → SinkIsTheOutput → (plan : Plan) (input : List ℕ) (ends : Ends) → StandsFor plan activations input
      → ends.ends ≡ ends_of (plan_meaning plan (frame_outcome code activations budget)) → ends.output ≡ sink_elements plan (plan_meaning plan (frame_outcome code activations budget))
      → ends ≡ code_ends code activations input budget
  ends_are means sink plan input ends stands of_ends of_output =
      let state = stream_meaning activations input (frame_outcome code activations budget) in
      let meant : plan_meaning plan (frame_outcome code activations budget) ≡ state = means plan activations input (frame_outcome code activations budget) stands in
      let es : ends.ends ≡ ends_of state = of_ends ∙ ap ends_of meant in
      let os : ends.output ≡ output_elements activations input state = of_output ∙ ap (sink_elements plan) meant ∙ sink plan activations input state stands in
      ap (λ xs. record { ends = xs; output = ends.output }) es ∙ ap (λ xs. record { ends = ends_of state; output = xs }) os

  pub logged_if : {E : Type 0} → MeansTheStreams → SinkIsTheOutput → (plan : Plan) (input : List ℕ) → StandsFor plan activations input → (r : Result Logged E)
      → IfOk r (λ (l : Logged). l.ends.ends ≡ ends_of (plan_meaning plan (frame_outcome code activations budget)))
      → IfOk r (λ (l : Logged). l.ends.output ≡ sink_elements plan (plan_meaning plan (frame_outcome code activations budget)))
      → IfOk r (λ (l : Logged). l.ends ≡ code_ends code activations input budget)
  logged_if means sink plan input stands (Ok logged) of_ends of_output = ends_are means sink plan input logged.ends stands of_ends of_output
  logged_if means sink plan input stands (Err error) of_ends of_output = tt

-- ---- a code of a program comes to what the program does

module _ (code : Parts) (p : ProgramTree) (activations : List Activation) (budget : ℕ) (runs : RunsBodies code p) (fit : All (Fits code) activations) where
  -- the machine makes of each activation what the body of its task does
  pub agree : Agree activations (frame_outcome code activations budget) (body_at p activations budget)
  agree a x inputs at long =
      ap (λ o. option_map_or (λ (y : Activation). machine.code_outcome code y inputs budget) o over_budget) at
      ∙ runs x inputs budget (fits_at code activations fit a x at) long
      ∙ sym (ap (λ o. option_map_or (λ (y : Activation). body p y inputs budget) o over_budget) at)

  -- so the activations mean the same
  pub same_meaning : AgreeingBodiesMeanOne → (input : List ℕ)
      → stream_meaning activations input (frame_outcome code activations budget) ≡ stream_meaning activations input (body_at p activations budget)
  same_meaning one input = one activations input (frame_outcome code activations budget) (body_at p activations budget) agree

  pub same_ends : AgreeingBodiesMeanOne → (input : List ℕ) → code_ends code activations input budget ≡ ends_over p activations input budget
  same_ends one input = ap (stream_ends activations input) (same_meaning one input)

-- so the run of a code of a program is a run of the program
pub run_of_code : AgreeingBodiesMeanOne → (code : Parts) (p : ProgramTree) → IsCodeOf code p → (task_budget control_budget : ℕ) (input output : List ℕ)
    (layout : Layout) (ends : Ends) (end : ControlEnd) → IsRunOfCode task_budget control_budget code input output layout ends end
    → IsRunOf task_budget control_budget p input output layout ends end
run_of_code one code p is task_budget control_budget input output layout ends end ran = record {
  made = ran.made;
  made_is = ran.made_is ∙ is.control (length input) control_budget;
  end_is = ran.end_is;
  whole = ran.whole;
  laid = ran.laid;
  over = ran.over;
  ends_are = ran.ends_are ∙ same_ends code p ran.made.activations task_budget is.bodies ran.fit one input;
  writes = ran.writes;
  few = ran.few;
}

-- ---- the output has only bytes

-- of a program
pub bytes_are : RunsKeep → OutputsAreBytes → (p : ProgramTree) (activations : List Activation) (input : List ℕ) (budget : ℕ) → All IsByteIfThere (ends_over p activations input budget).output
bytes_are keep bytes p activations input budget = bytes activations input (body_at p activations budget) gives
  where
    gives : (a : ℕ) (x : Activation) (inputs : List ℤ) → slice_get activations a ≡ Some x → length inputs ≡ input_count x → GivesBytes x (body_at p activations budget a inputs)
    gives a x inputs at long = subst (GivesBytes x) (sym (ap (λ o. option_map_or (λ (y : Activation). body p y inputs budget) o over_budget) at)) (body_gives keep p x inputs budget long)

-- and of a valid code
pub code_bytes_are : CodesGiveBytes → OutputsAreBytes → (code : Parts) → IsValid code → (activations : List Activation) → All (Fits code) activations
    → (input : List ℕ) (budget : ℕ) → All IsByteIfThere (code_ends code activations input budget).output
code_bytes_are codes bytes code valid activations fit input budget = bytes activations input (frame_outcome code activations budget) gives
  where
    gives : (a : ℕ) (x : Activation) (inputs : List ℤ) → slice_get activations a ≡ Some x → length inputs ≡ input_count x → GivesBytes x (frame_outcome code activations budget a inputs)
    gives a x inputs at long =
        subst (GivesBytes x) (sym (ap (λ (o : Option Activation). option_map_or (λ (y : Activation). machine.code_outcome code y inputs budget) o over_budget) at))
        (codes code x inputs budget valid (fits_at code activations fit a x at) long)

pub bytes_if : {E : Type 0} → CodesGiveBytes → OutputsAreBytes → (code : Parts) → IsValid code → (activations : List Activation)
    → (input : List ℕ) (budget : ℕ) (r : Result RunResult E) → IfOk r (λ (run : RunResult). All (Fits code) activations)
    → IfOk r (λ (run : RunResult). run.ends ≡ code_ends code activations input budget) → IfOk r (λ (run : RunResult). All IsByteIfThere run.ends.output)
bytes_if codes bytes code valid activations input budget (Ok run) fit is =
    subst (λ (e : Ends). All IsByteIfThere e.output) (sym is) (code_bytes_are codes bytes code valid activations fit input budget)
bytes_if codes bytes code valid activations input budget (Err error) fit is = tt

pub logged_bytes_if : {E : Type 0} → CodesGiveBytes → OutputsAreBytes → (code : Parts) → IsValid code → (activations : List Activation)
    → All (Fits code) activations → (input : List ℕ) (budget : ℕ) (r : Result Logged E)
    → IfOk r (λ (l : Logged). l.ends ≡ code_ends code activations input budget) → IfOk r (λ (l : Logged). All IsByteIfThere l.ends.output)
logged_bytes_if codes bytes code valid activations fit input budget (Ok logged) is =
    subst (λ (e : Ends). All IsByteIfThere e.output) (sym is) (code_bytes_are codes bytes code valid activations fit input budget)
logged_bytes_if codes bytes code valid activations fit input budget (Err error) is = tt
