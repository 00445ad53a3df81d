use Rattle.std.proofs.Common.{◌≡◌, ◌∙◌, ap, length, map, subst, sym}
use Rattle.flow_core_laws.specs.declared.control.Control.{Control}
use Rattle.os_ast.specs.Views.{program_tree}
use Rattle.os_ast.specs.Violations.{names}
use Rattle.os_lexer.specs.Cover.{IsTokenCover}
use Rattle.os_code.specs.Codes.{parts_of}
use Rattle.osrun_core_run.proofs.TasksRun.{run_of_code}
use Rattle.osview_answer.proofs.TaskLines.{same_lines}
use Rattle.osview_answer.specs.Source.{site_line}
use Rattle.osview_answer.specs.StreamNames.{stream_names}
use Rattle.osview_answer.specs.Told.{task_line}
use Rattle.stream_match_layouts.specs.Layout.{IsLayoutOf}
use Rattle.osrun_core_jobs.specs.Status.{status_code}
use Rattle.osview_answer.specs.Explanation.{IsExplanation}
use Rattle.osview_answer.proofs.explain_telling.tell_explanation.Goals as goal

-- the layout is that of the activations of the control program that was run once more
pub explain-requires : goal.explain-requires
explain-requires g c =
    let ran = c.in_ok-run.ensures.run in
    let same : ran.made ≡ c.in_ok-control.control = ran.made_is ∙ sym c.in_ok-control.ensures.exact in
    record {
      layout = ran.whole;
      laid = subst (IsLayoutOf c.in_ok-run.run'.layout) (ap (λ (m : Control). m.activations) same ∙ sym c.as_slice-3.ensures) ran.laid;
    }

pub returns : goal.returns
returns g c =
    let source = c.args.source.now in
    let code = parts_of source.code in
    let p = program_tree source.checked.program in
    let is_source = c.requires.source in
    let input = c.args.input.now in
    let budget = c.args.asked.now.job.terms.control_budget in
    let r = run_of_code c.agreeing_bodies_mean_one.ensures code p is_source.is_code _ _ _ _ _ _ _ c.in_ok-run.ensures.run in
    let run = c.in_ok-run.run' in
    let tokens = c.in_ok-tokens.tokens.items in
    let layout = run.layout in
    let activations = r.made.activations in
    let same_made : c.in_ok-control.control ≡ r.made =
    c.in_ok-control.ensures.exact ∙ is_source.is_code.control (length input) budget ∙ sym r.made_is in
    let same_names : c.deref-4.result.now ≡ stream_names tokens (names p) =
    c.deref-4.ensures.value ∙ c.in_ok-names.ensures ∙ ap (λ ts. stream_names ts c.as_slice.result.now) c.deref-2.ensures.value
    ∙ ap (stream_names tokens) (c.as_slice.ensures ∙ source.checked.named) in
    let same_lines_of : c.deref-5.result.now ≡ map (task_line p) activations =
    c.deref-5.ensures.value ∙ c.in_ok-lines.ensures ∙ ap (map (site_line code)) c.as_slice-2.ensures
    ∙ ap (λ (m : Control). map (site_line code) m.activations) same_made ∙ same_lines code p is_source.is_code.stands activations in
    let same_acts : c.as_slice-3.result.now ≡ activations = c.as_slice-3.ensures ∙ ap (λ (m : Control). m.activations) same_made in
    let a = c.args.asked.now.activation in
    let told = c.in_ok-explained.explained.text.items in
    let own = status_code c.in_ok-explained.explained.status in
    record {
      program = p;
      is_program = is_source.accepted;
      tokens = tokens;
      cover = subst (λ text. IsTokenCover text tokens) c.deref.ensures.value c.in_ok-tokens.ensures;
      made = r.made;
      made_is = r.made_is;
      ends = run.ends;
      ends_are = r.ends_are;
      explains = subst (λ n. IsExplanation source.text.items (stream_names tokens (names p)) (map (task_line p) activations) activations n run.ends.ends a told own) r.over (subst (λ acts. IsExplanation source.text.items (stream_names tokens (names p)) (map (task_line p) activations) acts layout.input_len run.ends.ends a told own) same_acts
          (subst (λ lines. IsExplanation source.text.items (stream_names tokens (names p)) lines c.as_slice-3.result.now layout.input_len run.ends.ends a told own) same_lines_of
          (subst (λ named. IsExplanation source.text.items named c.deref-5.result.now c.as_slice-3.result.now layout.input_len run.ends.ends a told own) same_names
          (subst (λ text. IsExplanation text c.deref-4.result.now c.deref-5.result.now c.as_slice-3.result.now layout.input_len run.ends.ends a told own) c.deref-3.ensures.value
          c.in_ok-explained.ensures))));
    }
