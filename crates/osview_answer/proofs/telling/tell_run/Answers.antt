use Rattle.std.proofs.Common.{◌≡◌, ◌∙◌, ap, length, map, subst, sym}
use Rattle.collector.specs.Status.{status}
use Rattle.flow_core_laws.specs.declared.control.Control.{Control}
use Rattle.os_ast.specs.Views.{program_tree}
use Rattle.os_ast.specs.Violations.{names}
use Rattle.os_lexer.specs.Cover.{IsTokenCover}
use Rattle.os_code.specs.Codes.{parts_of}
use Rattle.osrun_core_run.proofs.TasksRun.{run_of_code}
use Rattle.osview_answer.proofs.TaskLines.{same_lines}
use Rattle.osview_answer.specs.Source.{site_line}
use Rattle.osview_answer.specs.StreamNames.{stream_names}
use Rattle.osview_answer.specs.Told.{task_line}
use Rattle.stream_match_layouts.specs.Layout.{IsLayoutOf}
use Rattle.osview_sentences.specs.Report.{report}
use Rattle.osview_answer.proofs.telling.tell_run.Goals as goal

-- the layout is that of the activations of the control program that was run once more
pub report_text-requires : goal.report_text-requires
report_text-requires g c =
    let ran = c.in_ok-run.ensures.run in
    let same : ran.made ≡ c.in_ok-control.control = ran.made_is ∙ sym c.in_ok-control.ensures.exact in
    record {
      layout = ran.whole;
      laid = subst (IsLayoutOf c.in_ok-run.run'.layout) (ap (λ (m : Control). m.activations) same ∙ sym c.as_slice-3.ensures) ran.laid;
    }

pub returns : goal.returns
returns g c =
    let source = c.args.source.now in
    let code = parts_of source.code in
    let p = program_tree source.checked.program in
    let is_source = c.requires.source in
    let input = c.args.input.now in
    let budget = c.args.terms.control_budget in
    let r = run_of_code c.agreeing_bodies_mean_one.ensures code p is_source.is_code _ _ _ _ _ _ _ c.in_ok-run.ensures.run in
    let run = c.in_ok-run.run' in
    let tokens = c.in_ok-tokens.tokens.items in
    let layout = run.layout in
    let activations = r.made.activations in
    let same_made : c.in_ok-control.control ≡ r.made =
    c.in_ok-control.ensures.exact ∙ is_source.is_code.control (length input) budget ∙ sym r.made_is in
    let same_names : c.deref-4.result.now ≡ stream_names tokens (names p) =
    c.deref-4.ensures.value ∙ c.in_ok-names.ensures ∙ ap (λ ts. stream_names ts c.as_slice.result.now) c.deref-2.ensures.value
    ∙ ap (stream_names tokens) (c.as_slice.ensures ∙ source.checked.named) in
    let same_lines_of : c.deref-5.result.now ≡ map (task_line p) activations =
    c.deref-5.ensures.value ∙ c.in_ok-lines.ensures ∙ ap (map (site_line code)) c.as_slice-2.ensures
    ∙ ap (λ (m : Control). map (site_line code) m.activations) same_made ∙ same_lines code p is_source.is_code.stands activations in
    let same_acts : c.as_slice-3.result.now ≡ activations = c.as_slice-3.ensures ∙ ap (λ (m : Control). m.activations) same_made in
    record {
      program = p;
      is_program = is_source.accepted;
      tokens = tokens;
      cover = subst (λ text. IsTokenCover text tokens) c.deref.ensures.value c.in_ok-tokens.ensures;
      made = r.made;
      made_is = r.made_is;
      ends = run.ends;
      ends_are = r.ends_are;
      told_is = c.in_ok-text.ensures
          ∙ ap (λ text. report text c.deref-4.result.now c.deref-5.result.now c.as_slice-3.result.now layout.input_len run.ends run.control) c.deref-3.ensures.value
          ∙ ap (λ named. report source.text.items named c.deref-5.result.now c.as_slice-3.result.now layout.input_len run.ends run.control) same_names
          ∙ ap (λ lines. report source.text.items (stream_names tokens (names p)) lines c.as_slice-3.result.now layout.input_len run.ends run.control) same_lines_of
          ∙ ap (λ acts. report source.text.items (stream_names tokens (names p)) (map (task_line p) activations) acts layout.input_len run.ends run.control) same_acts
          ∙ ap (λ n. report source.text.items (stream_names tokens (names p)) (map (task_line p) activations) activations n run.ends run.control) r.over
          ∙ ap (report source.text.items (stream_names tokens (names p)) (map (task_line p) activations) activations (length input) run.ends) r.end_is;
      own_is = c.status.ensures ∙ ap (status run.ends.ends) r.end_is;
    }
