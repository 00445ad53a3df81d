use Rattle.std.proofs.Common.{◌≡◌, ◌∙◌, All, List, ap, length, map, refl, subst, sym}
use Rattle.collector.specs.Status.{status}
use Rattle.epoch_run_bodies.specs.Frames.{frame_outcome}
use Rattle.flow_core_laws.specs.Outcome.{ends_of}
use Rattle.flow_core_laws.specs.Streams.{stream_meaning}
use Rattle.flow_core_laws.specs.declared.activation.Activation.{Activation}
use Rattle.flow_core_laws.specs.declared.control.Control.{Control}
use Rattle.flow_core_laws.specs.declared.ends.Ends.{Ends}
use Rattle.os_ast.specs.Views.{program_tree}
use Rattle.os_code.specs.Codes.{parts_of}
use Rattle.os_code.specs.Tasks.{Fits}
use Rattle.osrun_core_run.proofs.TasksRun.{run_of_code}
use Rattle.osrun_core_run.specs.Run.{body_at}
use Rattle.osrun_core_run.proofs.TasksRun.{same_meaning}
use Rattle.osview_answer.proofs.TaskLines.{same_lines}
use Rattle.osview_answer.specs.Source.{site_line}
use Rattle.osview_answer.specs.Told.{task_line}
use Rattle.osview_outcomes.specs.Outcomes.{AreOutcomesOf}
use Rattle.osview_stream.specs.Elements.{stream_lines}
use Rattle.stream_match_layouts.specs.Layout.{IsLayoutOf}
use Rattle.osview_answer.proofs.stream_telling.tell_elements.Goals as goal

pub task_outcomes-requires-clause-fit : goal.task_outcomes-requires-clause-fit
task_outcomes-requires-clause-fit g c =
    subst (λ (xs : List Activation). All (Fits (parts_of c.args.source.now.code)) xs) (sym c.as_slice-activations.ensures) c.in_ok-control.ensures.fit

pub task_outcomes-requires-clause-layout : goal.task_outcomes-requires-clause-layout
task_outcomes-requires-clause-layout g c = c.in_ok-run.ensures.run.whole

pub task_outcomes-requires-clause-laid : goal.task_outcomes-requires-clause-laid
task_outcomes-requires-clause-laid g c =
    let ran = c.in_ok-run.ensures.run in
    let same : ran.made ≡ c.in_ok-control.control = ran.made_is ∙ sym c.in_ok-control.ensures.exact in
    subst (IsLayoutOf c.in_ok-run.run'.layout) (ap (λ (m : Control). m.activations) same ∙ sym c.as_slice-activations.ensures) ran.laid

pub task_outcomes-requires-clause-input : goal.task_outcomes-requires-clause-input
task_outcomes-requires-clause-input g c = sym c.in_ok-run.ensures.run.over

pub elements_text-requires : goal.elements_text-requires
elements_text-requires g c = c.in_ok-run.ensures.run.whole

pub returns : goal.returns
returns g c =
    let source = c.args.source.now in
    let code = parts_of source.code in
    let p = program_tree source.checked.program in
    let is_source = c.requires.source in
    let input = c.args.input.now in
    let budget = c.args.asked.now.job.terms.task_budget in
    let r = run_of_code c.agreeing_bodies_mean_one.ensures code p is_source.is_code _ _ _ _ _ _ _ c.in_ok-run.ensures.run in
    let run = c.in_ok-run.run' in
    let made = r.made in
    let activations = made.activations in
    let acts = c.as_slice-activations.result.now in
    let meaning = stream_meaning activations input (body_at p activations budget) in
    let same_made : c.in_ok-control.control ≡ made =
    c.in_ok-control.ensures.exact ∙ is_source.is_code.control (length input) c.args.asked.now.job.terms.control_budget ∙ sym r.made_is in
    let same_acts : acts ≡ activations = c.as_slice-activations.ensures ∙ ap (λ (m : Control). m.activations) same_made in
    let fit = subst (λ (m : Control). All (Fits code) m.activations) same_made c.in_ok-control.ensures.fit in
    let same_state : stream_meaning acts input (frame_outcome code acts budget) ≡ meaning =
    ap (λ (xs : List Activation). stream_meaning xs input (frame_outcome code xs budget)) same_acts
    ∙ same_meaning code p activations budget is_source.is_code.bodies fit c.agreeing_bodies_mean_one.ensures input in
    let are : AreOutcomesOf c.in_ok-outcomes.outcomes meaning = subst (AreOutcomesOf c.in_ok-outcomes.outcomes) same_state c.in_ok-outcomes.ensures in
    let same_lines_of : c.deref.result.now ≡ map (task_line p) activations =
    c.deref.ensures.value ∙ c.in_ok-lines.ensures ∙ ap (map (site_line code)) same_acts ∙ same_lines code p is_source.is_code.stands activations in
    record {
      made = made;
      made_is = r.made_is;
      meaning = meaning;
      meaning_is = refl;
      told_is = c.into_bytes.ensures ∙ c.in_ok-text.ensures activations meaning r.laid are
          ∙ ap (λ lines. stream_lines lines activations input meaning c.args.stream c.args.asked.now.first c.args.asked.now.count) same_lines_of;
      own_is = c.status.ensures ∙ ap (λ (e : Ends). status e.ends run.control) r.ends_are ∙ ap (status (ends_of meaning)) r.end_is;
    }
