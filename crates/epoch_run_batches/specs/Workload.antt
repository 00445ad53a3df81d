-- How an activation comes to its end.
use Rattle.std.specs.Prelude.{◌≡◌, ℕ, ℤ, ◌<◌, ◌≤◌, List, Some, length, map, sum_by}
use Rattle.flow_core_laws.specs.Limits.{positions_limit}
use Rattle.flow_core_laws.specs.Outcome.{outcome_at}
use Rattle.flow_core_laws.specs.Window.{windows_of}
use Rattle.flow_core_laws.specs.declared.outcome.Outcome.{Outcome}
use Rattle.flow_core_laws.specs.declared.task_end.TaskEnd.{TaskEnd}
use Rattle.flow_core_laws.specs.declared.task_end.TaskEnd.TheVariants.{Done}
use Rattle.flow_core_epochs.specs.Epoch.{ServesAll}
use Rattle.stream_match_layouts.specs.Layout.{IsLayout, IsLayoutOf, span_of}
use Rattle.stream_match_layouts.specs.declared.layout.Layout.{Layout}
use Rattle.stream_match_layouts.specs.declared.span.Span.{Span}
use Rattle.epoch_run_batches.specs.Meant.{Run, meant}

-- spans are those of an activation of a run
pub record AreSpansOf (run : Run) (number : ℕ) (spans : List Span) : Type 0 where
  pub exists : number < length run.activations
  pub are_theirs : spans ≡ map span_of (windows_of run.activations number)
  pub few : sum_by (λ (s : Span). s.count) spans ≤ positions_limit

-- an activation came to the outcome that it means: to its end, and where that is Done these are its outputs
pub record HasOutcome (run : Run) (number : ℕ) (end : TaskEnd) (outputs : List ℤ) : Type 0 where
  pub outcome : Outcome
  pub is_meant : outcome_at (meant run) number ≡ Some outcome
  pub end_is : end ≡ outcome.end
  pub outputs_are : end ≡ Done → outputs ≡ outcome.outputs

-- what bodies take of an activation that is among those from a number on; of an earlier one nothing is asked
abbrev pub takes_from : (first : ℕ) → (takes : ℕ → ℕ → ℕ → Type 0) → (number inputs outputs : ℕ) → Type 0
takes_from first takes number inputs outputs = first ≤ number → takes number inputs outputs

-- a layout is that of a run, and bodies are those of its activations from a number on
pub record IsWorkload (run : Run) (first : ℕ) (layout : Layout) (outcome : ℕ → List ℤ → Outcome) (takes : ℕ → ℕ → ℕ → Type 0) : Type 0 where
  pub is_layout : IsLayout layout
  pub is_of : IsLayoutOf layout run.activations
  pub runs : outcome ≡ run.body
  pub serves : ServesAll run.activations run.body (takes_from first takes)
