-- The runs of programs and of codes are of lawful activations, which filled their outputs.
use Rattle.std.proofs.Common.{◌≡◌, ◌∙◌, All, Some, length, slice_get, sym, ap, subst}
use Rattle.std.specs.Option.{option_map_or}
use Rattle.std.proofs.lemmas.List.Elements.{All-get_or}
use Rattle.std.proofs.lemmas.Option.{get_or_from_slice_get, slice_get_within}
use Rattle.cddf_meaning.specs.Body.{body}
use Rattle.cddf_meaning.specs.Control.{control}
use Rattle.epoch_run_bodies.specs.Frames.{frame_outcome}
use Rattle.flow_core_laws.specs.Outcome.{over_budget}
use Rattle.flow_core_laws.specs.declared.activation.Activation.{Activation}
use Rattle.flow_core_laws.specs.declared.control.Control.{Control}
use Rattle.flow_core_laws.specs.declared.outcome.Outcome.{Outcome}
use Rattle.lowering_laws.specs.Laws.{ActivationsFit, CreatesLawful, OfAccepted, OfCodes}
use Rattle.lowering_relation.specs.Laws.{BodiesFill}
use Rattle.os_ast.specs.Violations.{streams}
use Rattle.os_code.specs.Laws.{TaskEndsAreProper, TasksEnd}
use Rattle.os_code.specs.Outcomes.{code_outcome}
use Rattle.os_code.specs.Tasks.{Fits}
use Rattle.stream_match_layouts.specs.Lawful.{AreLawful}
use Rattle.wait_certs_runs.proofs.Filling.{filled}
use Rattle.wait_certs_runs.specs.Meant.{OfCodeRuns, OfPrograms, body_at}
use Rattle.wait_certs_runs.specs.Starving.{AreOfLawful}

pub of_programs : OfAccepted CreatesLawful → BodiesFill → OfPrograms AreOfLawful
of_programs creates fill text p input task_budget control_budget made ends short accepted low made_is ends_are = record {
  streams = streams p;
  lawful = subst (λ (c : Control). AreLawful (streams p) c.activations) (sym made_is) (creates text p short accepted (length input) control_budget low);
  body = body_at p made.activations task_budget;
  ends_are = ends_are;
  filled = filled made.activations input (body_at p made.activations task_budget)
      (λ a x inputs at long done.
      let same : body_at p made.activations task_budget a inputs ≡ body p x inputs task_budget =
      ap (λ o. option_map_or (λ (y : Activation). body p y inputs task_budget) o over_budget) at in
      let here : slice_get (control p (length input) control_budget).activations a ≡ Some x = ap (λ (c : Control). slice_get c.activations a) (sym made_is) ∙ at in
      ap (λ (o : Outcome). length o.outputs) same
      ∙ fill p (length input) control_budget a x inputs task_budget here long (ap (λ (o : Outcome). o.end) (sym same) ∙ done));
}

pub of_codes : OfCodes ActivationsFit → TasksEnd → TaskEndsAreProper → OfCodeRuns AreOfLawful
of_codes fits ends_there proper code input task_budget control_budget made ends valid low made_is ends_are =
    let all = fits code valid (length input) control_budget low in
    let fit : All (Fits code) made.activations = subst (λ (c : Control). All (Fits code) c.activations) (sym made_is) all.fit in
    record {
      streams = code.streams;
      lawful = subst (λ (c : Control). AreLawful code.streams c.activations) (sym made_is) all.lawful;
      body = frame_outcome code made.activations task_budget;
      ends_are = ends_are;
      filled = filled made.activations input (frame_outcome code made.activations task_budget)
          (λ a x inputs at long done.
          let same : frame_outcome code made.activations task_budget a inputs ≡ code_outcome code x inputs task_budget =
          ap (λ o. option_map_or (λ (y : Activation). code_outcome code y inputs task_budget) o over_budget) at in
          let fits_here : Fits code x =
          subst (Fits code) (get_or_from_slice_get made.activations a x x at)
          (All-get_or (Fits code) made.activations a x (slice_get_within made.activations a x at) fit) in
          let ended = ends_there code x inputs task_budget valid fits_here in
          ap (λ (o : Outcome). length o.outputs) same
          ∙ (proper code x inputs task_budget (code_outcome code x inputs task_budget) ended.steps valid fits_here ended.ends).outputs
          (ap (λ (o : Outcome). o.end) (sym same) ∙ done));
    }
