use Rattle.std.proofs.Common.{◌≡◌, ◌∙◌, List, Option, ap, length, map, subst, sym, ℕ}
use Rattle.collector.specs.Status.{status}
use Rattle.flow_core_laws.specs.declared.activation.Activation.{Activation}
use Rattle.flow_core_laws.specs.declared.control.Control.{Control}
use Rattle.flow_core_laws.specs.declared.ends.Ends.{Ends}
use Rattle.flow_core_laws.specs.declared.task_end.TaskEnd.{TaskEnd}
use Rattle.lowering_relation.specs.Tasks.{TaskTree, program_tasks}
use Rattle.os_ast.specs.Views.{program_tree}
use Rattle.os_ast.specs.Violations.{names, streams}
use Rattle.os_code.specs.Codes.{parts_of}
use Rattle.os_lexer.specs.Cover.{IsTokenCover}
use Rattle.osrun_core_run.proofs.TasksRun.{run_of_code}
use Rattle.osview_answer.proofs.TaskLines.{all_lines}
use Rattle.osview_answer.specs.StreamNames.{stream_names}
use Rattle.osview_graph.specs.Graph.{graph_of}
use Rattle.osview_graph.specs.DrawnRun.{DrawnRun}
use Rattle.osview_sentences.specs.declared.stream_name.StreamName.{StreamName}
use Rattle.stream_match_layouts.specs.Lawful.{AreLawful}
use Rattle.stream_match_layouts.specs.Layout.{IsLayoutOf}
use Rattle.osview_answer.proofs.graph_telling.tell_graph.Goals as goal

pub graph_text-requires : goal.graph_text-requires
graph_text-requires g c =
    let ran = c.in_ok-run.ensures.run in
    let same : ran.made ≡ c.in_ok-control.control = ran.made_is ∙ sym c.in_ok-control.ensures.exact in
    let acts = sym c.as_slice-2.ensures in
    record {
      layout = ran.whole;
      laid = subst (IsLayoutOf c.in_ok-run.run'.layout) (ap (λ (m : Control). m.activations) same ∙ acts) ran.laid;
      lawful = subst (AreLawful c.args.source.now.code.streams) acts c.in_ok-control.ensures.lawful;
    }

pub returns : goal.returns
returns g c =
    let source = c.args.source.now in
    let code = parts_of source.code in
    let p = program_tree source.checked.program in
    let is_source = c.requires.source in
    let input = c.args.input.now in
    let r = run_of_code c.agreeing_bodies_mean_one.ensures code p is_source.is_code _ _ _ _ _ _ _ c.in_ok-run.ensures.run in
    let run = c.in_ok-run.run' in
    let tokens = c.in_ok-tokens.tokens.items in
    let same_made : c.in_ok-control.control ≡ r.made =
    c.in_ok-control.ensures.exact ∙ is_source.is_code.control (length input) c.args.asked.now.job.terms.control_budget ∙ sym r.made_is in
    let view = c.args.asked.now.view in
    let drawn : List ℕ → List StreamName → List ℕ → ℕ → List Activation → ℕ → List (Option TaskEnd) → DrawnRun =
    λ text named lines count activations input_len ends.
    record { text = text; names = named; lines = lines; streams = count; activations = activations; input_len = input_len; ends = ends } in
    let same_names : c.deref-4.result.now ≡ stream_names tokens (names p) =
    c.deref-4.ensures.value ∙ c.in_ok-names.ensures ∙ ap (λ ts. stream_names ts c.as_slice.result.now) c.deref-2.ensures.value
    ∙ ap (stream_names tokens) (c.as_slice.ensures ∙ source.checked.named) in
    let same_lines : c.deref-5.result.now ≡ map (λ (t : TaskTree). t.mark.line) (program_tasks p) =
    c.deref-5.ensures.value ∙ c.in_ok-lines.ensures ∙ all_lines code p is_source.is_code.stands in
    let same_streams : source.code.streams ≡ streams p = is_source.is_code.stands.has.counted in
    let same_acts : c.as_slice-2.result.now ≡ r.made.activations = c.as_slice-2.ensures ∙ ap (λ (m : Control). m.activations) same_made in
    let lines = map (λ (t : TaskTree). t.mark.line) (program_tasks p) in
    record {
      program = p;
      is_program = is_source.accepted;
      tokens = tokens;
      cover = subst (λ text. IsTokenCover text tokens) c.deref.ensures.value c.in_ok-tokens.ensures;
      made = r.made;
      made_is = r.made_is;
      ends = run.ends;
      ends_are = r.ends_are;
      told_is = c.into_bytes.ensures ∙ c.in_ok-text.ensures ∙ ap (λ (r : DrawnRun). graph_of r view)
          (ap (λ text. drawn text c.deref-4.result.now c.deref-5.result.now source.code.streams c.as_slice-2.result.now run.layout.input_len c.as_slice-3.result.now) c.deref-3.ensures.value
          ∙ ap (λ named. drawn source.text.items named c.deref-5.result.now source.code.streams c.as_slice-2.result.now run.layout.input_len c.as_slice-3.result.now) same_names
          ∙ ap (λ at. drawn source.text.items (stream_names tokens (names p)) at source.code.streams c.as_slice-2.result.now run.layout.input_len c.as_slice-3.result.now) same_lines
          ∙ ap (λ n. drawn source.text.items (stream_names tokens (names p)) lines n c.as_slice-2.result.now run.layout.input_len c.as_slice-3.result.now) same_streams
          ∙ ap (λ acts. drawn source.text.items (stream_names tokens (names p)) lines (streams p) acts run.layout.input_len c.as_slice-3.result.now) same_acts
          ∙ ap (λ n. drawn source.text.items (stream_names tokens (names p)) lines (streams p) r.made.activations n c.as_slice-3.result.now) r.over
          ∙ ap (drawn source.text.items (stream_names tokens (names p)) lines (streams p) r.made.activations (length input)) c.as_slice-3.ensures);
      own_is = c.status.ensures ∙ ap (status run.ends.ends) r.end_is;
    }
