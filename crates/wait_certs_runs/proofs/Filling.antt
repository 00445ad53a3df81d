-- Where all bodies fill their outputs, the outputs of a meaning are filled.
use Rattle.std.proofs.Common.{◌≡◌, ℕ, ℤ, List, [], Option, Some, None, map, length, slice_get, refl, sym, ap, ◌∙◌}
use Rattle.std.specs.Option.{option_map, option_map_or}
use Rattle.std.proofs.lemmas.List.{length-map}
use Rattle.std.proofs.lemmas.Option.{same_Some, slice_get_within}
use Rattle.flow_core_laws.proofs.Elements.{element_kept}
use Rattle.flow_core_laws.proofs.Gathering.{length-gathered}
use Rattle.flow_core_laws.proofs.OneMore.{length-values}
use Rattle.flow_core_laws.proofs.Rounds.{outcome_at-meaning}
use Rattle.flow_core_laws.specs.declared.elem.Elem.{Elem}
use Rattle.flow_core_laws.specs.declared.task_end.TaskEnd.TheVariants.{Done, Poisoned}
use Rattle.flow_core_laws.specs.Laws.{IsFilled}
use Rattle.flow_core_laws.specs.Outcome.{outcome_at, outcome_of}
use Rattle.flow_core_laws.specs.declared.activation.Activation.{Activation}
use Rattle.os_code.specs.Tasks.{input_count}
use Rattle.flow_core_laws.specs.Poisoning.{least_root, poisoning, values_of}
use Rattle.flow_core_laws.specs.Round.{inputs_in}
use Rattle.flow_core_laws.specs.Streams.{output_count, own_number, stream_element, stream_meaning, stream_reads}
use Rattle.flow_core_laws.specs.declared.outcome.Outcome.{Outcome}
use Rattle.epoch_run_bodies.proofs.Counts.{length-reads}

-- where all bodies that are done fill their output windows, the outputs of the meaning are filled
abbrev pub FilledBodiesFill : Type 0
FilledBodiesFill = (activations : List Activation) (input : List ℕ) (body : ℕ → List ℤ → Outcome)
    → ((a : ℕ) (x : Activation) (inputs : List ℤ) → slice_get activations a ≡ Some x → length inputs ≡ input_count x
    → (body a inputs).end ≡ Done → length (body a inputs).outputs ≡ output_count x)
    → IsFilled activations (stream_meaning activations input body)

pub filled : FilledBodiesFill
filled activations input body fills a x o at is done = by (inputs_in stream_element (stream_reads activations input) (stream_meaning activations input body) a) refl
  where
    here : outcome_at (stream_meaning activations input body) a
        ≡ option_map (poisoning body a) (inputs_in stream_element (stream_reads activations input) (stream_meaning activations input body) a)
    here = outcome_at-meaning stream_element (element_kept own_number) (stream_reads activations input) (poisoning body) (length activations) a (slice_get_within activations a x at)

    by_root : (es : List Elem) → length es ≡ length (stream_reads activations input a) → (root : Option ℕ) → least_root es ≡ root
        → (option_map_or (λ (r : ℕ). outcome_of (Poisoned r) []) root (body a (values_of es))).end ≡ Done
        → length (option_map_or (λ (r : ℕ). outcome_of (Poisoned r) []) root (body a (values_of es))).outputs ≡ output_count x
    by_root es long None none ends = fills a x (values_of es) at (length-values es none ∙ long ∙ length-reads activations input a x at) ends
    by_root es long (Some r) none ends = absurd (cc)

    by : (i : Option (List Elem)) → inputs_in stream_element (stream_reads activations input) (stream_meaning activations input body) a ≡ i → length o.outputs ≡ output_count x
    by None none = absurd (let never : Some o ≡ None = sym is ∙ here ∙ ap (option_map (poisoning body a)) none in cc)
    by (Some es) there =
        let long = length-gathered (map (stream_element (stream_meaning activations input body)) (stream_reads activations input a)) es there
        ∙ length-map (stream_reads activations input a) (stream_element (stream_meaning activations input body)) in
        let same : o ≡ poisoning body a es = same_Some o (poisoning body a es) (sym is ∙ here ∙ ap (option_map (poisoning body a)) there) in
        ap (λ (q : Outcome). length q.outputs) same ∙ by_root es long (least_root es) refl (ap (λ (q : Outcome). q.end) (sym same) ∙ done)
