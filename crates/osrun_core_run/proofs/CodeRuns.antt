-- A run of a code, by what the machine creates and what its activations come to.
use Rattle.std.proofs.Common.{◌≡◌, ◌∙◌, ◌≤◌, ℕ, All, List, ap, length, subst, sym}
use Rattle.collector.specs.Written.{written}
use Rattle.epoch_run_bodies.specs.Frames.{code_ends, frame_outcome}
use Rattle.flow_core_laws.specs.Streams.{stream_meaning}
use Rattle.flow_core_laws.specs.declared.control.Control.{Control}
use Rattle.flow_core_laws.specs.declared.ends.Ends.{Ends}
use Rattle.os_code.specs.Outcomes.{main_control}
use Rattle.os_code.specs.Tasks.{Fits}
use Rattle.os_code.specs.declared.parts.Parts.{Parts}
use Rattle.osrun_core_run.proofs.FewWritten.{few_written}
use Rattle.osrun_core_run.specs.RunOf.{IsRunOfCode}
use Rattle.osrun_core_run.specs.declared.made.MadeRun.{MadeRun}
use Rattle.stream_match_layouts.specs.Lawful.{AreLawful}
use Rattle.stream_match_layouts.specs.Layout.{IsLayout, IsLayoutOf}
use Rattle.stream_match_layouts.specs.declared.layout.Layout.{Layout}

module _ (task_budget control_budget : ℕ) (code : Parts) (input : List ℕ) (made : Control) (made_is : made ≡ main_control code (length input) control_budget)
    (fit : All (Fits code) made.activations) (lawful : AreLawful code.streams made.activations) where
  -- a run with the layout and the ends of the activations
  pub run_of_ends : (run : MadeRun) (layout : Layout) (ends : Ends) → IsLayout layout → IsLayoutOf layout made.activations → layout.input_len ≡ length input
      → ends ≡ code_ends code made.activations input task_budget → run.output.items ≡ written ends.output → run.layout ≡ layout → run.ends ≡ ends
      → run.control ≡ made.end → IsRunOfCode task_budget control_budget code input run.output.items run.layout run.ends run.control
  run_of_ends run layout ends whole laid over meant output same_layout same_ends same_end =
      let activations = made.activations in
      let state = stream_meaning activations input (frame_outcome code activations task_budget) in
      let count = ap length output ∙ ap (λ (e : Ends). length (written e.output)) meant in
      record {
        made = made;
        made_is = made_is;
        end_is = same_end;
        fit = fit;
        whole = subst IsLayout (sym same_layout) whole;
        laid = subst (λ (l : Layout). IsLayoutOf l activations) (sym same_layout) laid;
        over = ap (λ (l : Layout). l.input_len) same_layout ∙ over;
        ends_are = same_ends ∙ meant;
        writes = output ∙ ap (λ (e : Ends). written e.output) (sym same_ends);
        few = subst (λ n. n ≤ 4194304) (sym count) (few_written _ activations input state lawful);
      }
