-- The laws of bodies, as statements.
use Rattle.std.specs.Prelude.{◌≡◌, ℕ, ℤ, ◌≤◌, All, List, ◌++◌, Some, length, slice_get}
use Rattle.flow_core_epochs.specs.Epoch.{ServesAll}
use Rattle.flow_core_laws.specs.Limits.{budget_limit}
use Rattle.flow_core_laws.specs.Serves.{Serves}
use Rattle.flow_core_laws.specs.StandsFor.{StandsFor}
use Rattle.flow_core_laws.specs.Streams.{stream_meaning}
use Rattle.flow_core_laws.specs.declared.activation.Activation.{Activation}
use Rattle.flow_core_laws.specs.declared.outcome.Outcome.{Outcome}
use Rattle.flow_core_laws.specs.declared.plan.Plan.{Plan}
use Rattle.os_code.specs.IsValid.{IsValid}
use Rattle.os_code.specs.Tasks.{Fits, input_count}
use Rattle.os_code.specs.declared.parts.Parts.{Parts}
use Rattle.epoch_run_bodies.specs.Frames.{TakesFrame, frame_outcome}

-- the bodies of activations that fit a valid code serve each plan that stands for the activations
abbrev pub BodiesServe : Type 0
BodiesServe = (code : Parts) (activations : List Activation) (input : List ℕ) (budget : ℕ) (plan : Plan) → IsValid code → All (Fits code) activations
    → budget ≤ budget_limit → StandsFor plan activations input → Serves plan (frame_outcome code activations budget) (TakesFrame code activations budget)

-- such bodies serve the activations themselves, as a run in epochs asks
abbrev pub BodiesServeAll : Type 0
BodiesServeAll = (code : Parts) (activations : List Activation) (budget : ℕ) → IsValid code → All (Fits code) activations → budget ≤ budget_limit
    → ServesAll activations (frame_outcome code activations budget) (TakesFrame code activations budget)

-- for each activation two bodies have the same outcome, whatever inputs it reads
abbrev pub Agree : List Activation → (body other : ℕ → List ℤ → Outcome) → Type 0
Agree activations body other = (a : ℕ) (x : Activation) (inputs : List ℤ) → slice_get activations a ≡ Some x → length inputs ≡ input_count x
    → body a inputs ≡ other a inputs

-- bodies that agree have one meaning
abbrev pub AgreeingBodiesMeanOne : Type 0
AgreeingBodiesMeanOne = (activations : List Activation) (input : List ℕ) (body other : ℕ → List ℤ → Outcome) → Agree activations body other
    → stream_meaning activations input body ≡ stream_meaning activations input other

-- activations mean the same with the bodies of more activations
abbrev pub LaterActivationsChangeNothing : Type 0
LaterActivationsChangeNothing = (code : Parts) (activations more : List Activation) (input : List ℕ) (budget : ℕ)
    → stream_meaning activations input (frame_outcome code activations budget)
    ≡ stream_meaning activations input (frame_outcome code (activations ++ more) budget)
