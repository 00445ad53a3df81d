-- What a worker may do next with the frame that it runs.
use Rattle.std.proofs.Common.{◌≡◌, ℕ, ℤ, ◌+◌, ◌<◌, ◌≤◌, List, Some, length, get_or, refl, sym, ap, ◌∙◌, arith}
use Rattle.std.specs.Prelude.{slice_get}
use Rattle.std.specs.Option.{option_map}
use Rattle.std.proofs.lemmas.Option.{slice_get-get_or}
use Rattle.flow_core_laws.specs.declared.outcome.Outcome.{Outcome}
use Rattle.flow_core_laws.specs.declared.plan.FramePlan.{FramePlan}
use Rattle.flow_core_laws.specs.declared.plan.Plan.{Plan}
use Rattle.flow_core_laws.specs.declared.plan.Piece.{Piece}
use Rattle.flow_core_concurrent.specs.declared.known.Known.{Known}
use Rattle.flow_core_concurrent.specs.declared.view.View.{View}
use Rattle.flow_core_laws.specs.Outcome.{outcome_at}
use Rattle.flow_core_laws.specs.declared.elem.Elem.{Elem}
use Rattle.flow_core_laws.specs.Poisoning.{poisoning}
use Rattle.flow_core_laws.specs.Round.{inputs_in}
use Rattle.flow_core_laws.specs.Plans.{frame_at, number_at, plan_reads, plan_element, plan_meaning}
use Rattle.flow_core_concurrent.specs.Laws.{IsFit}
use Rattle.flow_core_laws.proofs.Rounds.{outcome_at-meaning}
use Rattle.flow_core_laws.proofs.Elements.{element_kept}
use Rattle.frame_table.specs.Seats.{MayDeliver, at}
use Rattle.task_workers_worker.proofs.Pieces.{pieces_are_few}

-- the next piece of the frame that a seat runs
pub next_piece : (known : Known) (v : View) (f n : ℕ) (o : Outcome) → IsFit known → f < length known.plan.frames → (frame_at known.plan f).piece ≤ n → n < (frame_at known.plan f).piece + (frame_at known.plan f).pieces → outcome_at known.meaning f ≡ Some o → v.run ≡ Some (at f n 0) → (p : Piece) × (slice_get known.plan.pieces n ≡ Some p) × MayDeliver known v n p o
next_piece known v f n o fit exists low high meant runs =
    let ends = fit.plan_is_sound.pieces_exist f (omega (arith, exists)) in
    let none : Piece = record { from = 0; to = 0; first = 0; count = 0; at = 0 } in
    let p : Piece = get_or known.plan.pieces n none in
    let here : slice_get known.plan.pieces n ≡ Some p = slice_get-get_or known.plan.pieces n none (omega (arith, ends, high)) in
    let from : p.from ≡ f = (fit.plan_is_sound.pieces_stand_together f n p (omega (arith, exists)) here).1 (low, high) in (
      p,
      here,
      record {
        runs = runs ∙ ap (λ g. Some (at g n 0)) (sym from);
        stands = record { has_number = here; is_its_own = refl };
        is_meant = ap (outcome_at known.meaning) from ∙ meant;
      },
    )

-- a frame whose inputs are there has the outcome of its body
pub meant_outcome : (known : Known) (outcome : ℕ → List ℤ → Outcome) (f : ℕ) (inputs : List Elem) → known.meaning ≡ plan_meaning known.plan outcome → f < length known.plan.frames → inputs_in (plan_element known.plan) (plan_reads known.plan) known.meaning f ≡ Some inputs → outcome_at known.meaning f ≡ Some (poisoning outcome f inputs)
meant_outcome known outcome f inputs meant exists there =
    ap (λ m. outcome_at m f) meant
    ∙ outcome_at-meaning (plan_element known.plan) (element_kept (number_at known.plan)) (plan_reads known.plan) (poisoning outcome) (length known.plan.frames) f exists
    ∙ ap (option_map (poisoning outcome f)) (ap (λ m. inputs_in (plan_element known.plan) (plan_reads known.plan) m f) (sym meant) ∙ there)

-- a frame's place as the code finds it
pub place_of : (known plan : Plan) (f : ℕ) (place : FramePlan) → known ≡ plan → place ≡ frame_at plan f → frame_at known f ≡ place
place_of known plan f place is found = ap (λ (p : Plan). frame_at p f) is ∙ sym found

-- a frame's pieces end within the limit of the cells
pub few_of : (known : Known) (plan : Plan) (f : ℕ) → IsFit known → known.plan ≡ plan → f < length plan.frames → (frame_at known.plan f).piece + (frame_at known.plan f).pieces ≤ 4194304
few_of known plan f fit is exists =
    let n : length known.plan.frames ≡ length plan.frames = ap (λ (p : Plan). length p.frames) is in
    let a = fit.plan_is_sound.pieces_exist f (omega (arith, n, exists)) in
    let b = pieces_are_few known.plan fit.plan_is_sound in
    let c = fit.plan_is_sound.cells_are_few in
    omega (arith, a, b, c)
