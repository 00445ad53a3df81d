-- What the report of a run tells, by the layout of its activations.
use Rattle.std.specs.Prelude.{◌≡◌, ℕ, List}
use Rattle.collector.specs.Report.{report}
use Rattle.flow_core_laws.specs.declared.activation.Activation.{Activation}
use Rattle.osrun_core_run.specs.declared.made.MadeRun.{MadeRun}
use Rattle.stream_match_layouts.specs.Layout.{IsLayout, IsLayoutOf}

-- the text is the report of the activations that the run's layout is of
pub record IsReportOf (run : MadeRun) (text : List ℕ) : Type 0 where
  pub whole : IsLayout run.layout
  pub activations : List Activation
  pub laid : IsLayoutOf run.layout activations
  pub is_report : text ≡ report activations run.layout.input_len run.ends run.control
