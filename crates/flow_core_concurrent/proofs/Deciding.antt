-- What a frame reads decides its end.
use Rattle.std.proofs.Common.{◌≡◌, ℕ, ℤ, List, Some, length, map, sym, ap, ◌∙◌, arith}
use Rattle.std.specs.Prelude.{slice_get, is_none}
use Rattle.std.specs.Option.{option_map}
use Rattle.flow_core_laws.specs.Outcome.{outcome_at}
use Rattle.flow_core_laws.specs.Round.{gathered, inputs_in}
use Rattle.flow_core_laws.proofs.Counting.{passing-none}
use Rattle.flow_core_laws.proofs.Gathering.{all_gathered, gathered-weaker}
use Rattle.flow_core_laws.proofs.Rounds.{outcome_at-meaning}
use Rattle.flow_core_concurrent.specs.declared.view.FrameRun.{FrameRun}
use Rattle.flow_core_laws.specs.declared.elem.Elem.{Elem}
use Rattle.flow_core_laws.specs.declared.outcome.Outcome.{Outcome}
use Rattle.flow_core_laws.specs.Poisoning.{poisoning}
use Rattle.flow_core_laws.specs.Plans.{frame_at, number_at, held_at, cells_of, cell_source, plan_reads, plan_element, plan_meaning}
use Rattle.flow_core_laws.proofs.Elements.{element_kept}
use Rattle.flow_core_laws.proofs.Sources.{map_map}
use Rattle.flow_core_concurrent.specs.declared.known.Known.{Known}
use Rattle.flow_core_concurrent.specs.declared.view.View.{View}
use Rattle.flow_core_concurrent.specs.Words.{word_at, amount}
use Rattle.flow_core_concurrent.specs.States.{CoreState}
use Rattle.flow_core_concurrent.specs.IsGood.{IsGood}
use Rattle.flow_core_concurrent.specs.Laws.{IsFit, IsMeant}
use Rattle.flow_core_concurrent.proofs.Cells.{full_value}
use Rattle.flow_core_concurrent.proofs.Runs.{running_is_taken}

pub reads_decide : (known : Known) (outcome : ℕ → List ℤ → Outcome) (s : CoreState) (i : ℕ) (v : View) (r : FrameRun) → IsFit known → IsMeant known outcome → IsGood known s → slice_get s.seats i ≡ Some v → v.run ≡ Some r → (inputs : List Elem) × (gathered (map (held_at s.cells) (cells_of known.plan r.frame)) ≡ Some inputs) × (outcome_at known.meaning r.frame ≡ Some (poisoning outcome r.frame inputs))
reads_decide known outcome s i v r fit is_meant g sees runs =
    let f : ℕ = r.frame in
    let exists = ((g.views_are_sound i v sees).runs_at_a_place r runs).of_a_frame in
    let none : amount (word_at s.words f) ≡ 0 = ap amount (running_is_taken known s i v r g sees runs) in
    let (inputs, held) = all_gathered (held_at s.cells) (cells_of known.plan f)
    (passing-none (λ c. is_none (held_at s.cells c)) (frame_at known.plan f).cell (frame_at known.plan f).inputs (λ c low high. ap is_none (full_value known s f c g (omega (arith, exists)) none (low, high)).1)) in
    let here : inputs_in (plan_element known.plan) (plan_reads known.plan) known.meaning f ≡ Some inputs =
    ap gathered (map_map (cell_source known.plan) (plan_element known.plan known.meaning) (cells_of known.plan f))
    ∙ gathered-weaker (held_at s.cells) (λ c. plan_element known.plan known.meaning (cell_source known.plan c)) g.cells_hold_the_meaning (cells_of known.plan f) inputs held in
    let there : inputs_in (plan_element known.plan) (plan_reads known.plan) (plan_meaning known.plan outcome) f ≡ Some inputs = ap (λ m. inputs_in (plan_element known.plan) (plan_reads known.plan) m f) (sym is_meant) ∙ here in
    (inputs, held, ap (λ m. outcome_at m f) is_meant ∙ outcome_at-meaning (plan_element known.plan) (element_kept (number_at known.plan)) (plan_reads known.plan) (poisoning outcome) (length known.plan.frames) f exists ∙ ap (option_map (poisoning outcome f)) there)
