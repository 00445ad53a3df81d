-- What batches are run on.
use Rattle.std.specs.Prelude.{◌≡◌, ℕ, ℤ, List, length}
use Rattle.flow_core_laws.specs.declared.activation.Activation.{Activation}
use Rattle.flow_core_laws.specs.declared.outcome.Outcome.{Outcome}
use Rattle.stream_match_layouts.specs.declared.layout.Layout.{Layout}
use Rattle.epoch_run_batches.specs.Meant.{HoldMeant, Run}
use Rattle.epoch_run_batches.specs.Workload.{IsWorkload}
use Rattle.epoch_run_batches.specs.declared.streams.Streams.{Streams}

-- the run of activations over an input, with what their bodies make of their inputs
abbrev pub run_of : List Activation → List ℕ → (ℕ → List ℤ → Outcome) → Run
run_of activations input body = record { activations = activations; input = input; body = body }

-- batches of a run may be run: layout, bodies and input are its, and all that the streams held before is meant
pub record MayRun (run : Run) (first : ℕ) (layout : Layout) (outcome : ℕ → List ℤ → Outcome) (takes : ℕ → ℕ → ℕ → Type 0) (input : List ℕ)
    (before : Streams) : Type 0 where
  pub workload : IsWorkload run first layout outcome takes
  pub input_is : input ≡ run.input
  pub as_many : length before.firsts ≡ length before.elements
  pub before_is_meant : HoldMeant run before
