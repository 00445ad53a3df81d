use Rattle.std.proofs.Common.{◌≡◌, ◌∙◌, ◌<◌, ℕ, All, List, Option, Some, None, ap, arith, get_or, length, map, refl, slice_get, subst, sym}
use Rattle.std.proofs.lemmas.List.{length-map}
use Rattle.collector.specs.Status.{status}
use Rattle.epoch_run_bodies.specs.Frames.{frame_outcome}
use Rattle.flow_core_laws.specs.Outcome.{State, ends_of}
use Rattle.flow_core_laws.specs.Streams.{stream_meaning, stream_reads}
use Rattle.flow_core_laws.specs.declared.activation.Activation.{Activation}
use Rattle.flow_core_laws.specs.declared.control.Control.{Control}
use Rattle.flow_core_laws.specs.declared.ends.Ends.{Ends}
use Rattle.os_ast.specs.Views.{program_tree}
use Rattle.os_code.specs.Codes.{parts_of}
use Rattle.os_code.specs.Control.{ControlEnds}
use Rattle.os_code.specs.Outcomes as machine
use Rattle.os_code.specs.Tasks.{Fits}
use Rattle.os_code.specs.declared.site.Site.{Site}
use Rattle.osrun_core_run.proofs.TasksRun.{run_of_code}
use Rattle.osrun_core_run.specs.Run.{body_at}
use Rattle.osrun_core_run.proofs.TasksRun.{same_meaning}
use Rattle.osview_answer.proofs.TaskLines.{all_lines, tasks_are_sites}
use Rattle.osview_answer.specs.Steps.{pragma_lines}
use Rattle.osview_chains.specs.Chains.{IsLongest}
use Rattle.osview_steps.specs.Lines.{steps_lines}
use Rattle.osview_steps.specs.Steps.{AreRuns, steps_of_runs}
use Rattle.osview_steps.specs.declared.runs.TaskRun.{TaskRun}
use Rattle.stream_match_layouts.specs.Layout.{IsLayoutOf}
use Rattle.osview_answer.proofs.steps_telling.tell_steps.Goals as goal

pub measure-requires-clause-fit : goal.measure-requires-clause-fit
measure-requires-clause-fit g c =
    subst (λ (xs : List Activation). All (Fits (parts_of c.args.source.now.code)) xs) (sym c.as_slice-activations.ensures) c.in_ok-main.ensures.fit

pub measure-requires-clause-layout : goal.measure-requires-clause-layout
measure-requires-clause-layout g c = c.in_ok-run.ensures.run.whole

pub measure-requires-clause-laid : goal.measure-requires-clause-laid
measure-requires-clause-laid g c =
    let ran = c.in_ok-run.ensures.run in
    subst (IsLayoutOf c.in_ok-run.run'.layout) (ap (λ (m : Control). m.activations) ran.made_is ∙ sym c.in_ok-main.ensures.activations ∙ sym c.as_slice-activations.ensures) ran.laid

pub measure-requires-clause-input : goal.measure-requires-clause-input
measure-requires-clause-input g c = sym c.in_ok-run.ensures.run.over

pub steps_text-requires-clause-few : goal.steps_text-requires-clause-few
steps_text-requires-clause-few g c =
    let few = c.in_ok-measured.ensures.few in
    let same = ap length c.as_slice.ensures in
    omega (arith, few, same)

pub steps_text-requires-clause-tasks : goal.steps_text-requires-clause-tasks
steps_text-requires-clause-tasks g c =
    let code = parts_of c.args.source.now.code in
    let acts = c.as_slice-activations.result.now in
    let fit = subst (λ (xs : List Activation). All (Fits code) xs) (sym c.as_slice-activations.ensures) c.in_ok-main.ensures.fit in
    let lines : length c.deref.result.now ≡ length code.sites = ap length (c.deref.ensures.value ∙ c.in_ok-lines.ensures) ∙ length-map code.sites (λ (s : Site). s.line) in
    subst (λ (rs : List TaskRun). All (λ (r : TaskRun). r.task < length c.deref.result.now) rs) (sym c.as_slice.ensures)
    (subst (λ (n : ℕ). All (λ (r : TaskRun). r.task < n) c.in_ok-measured.measured.runs) (sym lines)
    (tasks_are_sites code acts c.args.input.now c.args.terms.task_budget _ c.in_ok-measured.measured.runs fit c.in_ok-measured.ensures.runs))

pub returns : goal.returns
returns g c =
    let source = c.args.source.now in
    let code = parts_of source.code in
    let p = program_tree source.checked.program in
    let is_source = c.requires.source in
    let input = c.args.input.now in
    let budget = c.args.terms.task_budget in
    let r = run_of_code c.agreeing_bodies_mean_one.ensures code p is_source.is_code _ _ _ _ _ _ _ c.in_ok-run.ensures.run in
    let run = c.in_ok-run.run' in
    let made = r.made in
    let activations = made.activations in
    let acts = c.as_slice-activations.result.now in
    let meaning = stream_meaning activations input (body_at p activations budget) in
    let measured = c.in_ok-measured.measured in
    let main = c.in_ok-main.main in
    let same_made : machine.main_control code (length input) c.args.terms.control_budget ≡ made =
    is_source.is_code.control (length input) c.args.terms.control_budget ∙ sym r.made_is in
    let created = c.in_ok-main.ensures.activations ∙ ap (λ (m : Control). m.activations) same_made in
    let same_acts : acts ≡ activations = c.as_slice-activations.ensures ∙ created in
    let fit = subst (λ (xs : List Activation). All (Fits code) xs) created c.in_ok-main.ensures.fit in
    let same_state : stream_meaning acts input (frame_outcome code acts budget) ≡ meaning =
    ap (λ (xs : List Activation). stream_meaning xs input (frame_outcome code xs budget)) same_acts
    ∙ same_meaning code p activations budget is_source.is_code.bodies fit c.agreeing_bodies_mean_one.ensures input in
    let same_lines : c.deref.result.now ≡ pragma_lines p = c.deref.ensures.value ∙ c.in_ok-lines.ensures ∙ all_lines code p is_source.is_code.stands in
    record {
      code = code;
      is_code = is_source.is_code;
      made = made;
      made_is = r.made_is;
      meaning = meaning;
      meaning_is = refl;
      runs = measured.runs;
      are_runs = subst (λ (xs : List Activation). AreRuns code xs input budget meaning measured.runs) same_acts
          (subst (λ (s : State). AreRuns code acts input budget s measured.runs) same_state c.in_ok-measured.ensures.runs);
      longest = measured.longest;
      is_longest = subst (λ (xs : List Activation). IsLongest (stream_reads xs input) (steps_of_runs measured.runs) measured.longest) same_acts c.in_ok-measured.ensures.longest;
      main = main.taken;
      main_steps = subst (λ (m : Control). ControlEnds code (length input) c.args.terms.control_budget m main.taken.steps) same_made c.in_ok-main.ensures.steps;
      main_turns = c.in_ok-main.ensures.turns;
      told_is = c.into_bytes.ensures ∙ c.in_ok-text.ensures
          ∙ ap (λ (lines : List ℕ). steps_lines lines c.as_slice.result.now main.taken measured.longest) same_lines
          ∙ ap (λ (rs : List TaskRun). steps_lines (pragma_lines p) rs main.taken measured.longest) c.as_slice.ensures;
      own_is = c.status.ensures ∙ ap (λ (e : Ends). status e.ends run.control) r.ends_are ∙ ap (status (ends_of meaning)) r.end_is;
    }
