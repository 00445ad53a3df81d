-- Where no activation writes anything but bytes to the output, the output has nothing but bytes.
use Rattle.std.proofs.Common.{◌≡◌, ℕ, ℤ, ◌+◌, ◌-◌, ◌<◌, List, [], ◌∷◌, All, Option, Some, None, map, length, get_or, slice_get, take, refl, sym, ap, ◌∙◌, arith}
use Rattle.std.specs.Prelude.{◌==◌, option_and_then}
use Rattle.std.specs.List.{range_with_len}
use Rattle.std.specs.Option.{option_map, option_map_or}
use Rattle.std.proofs.lemmas.Bool.{and_parts, eqb-true}
use Rattle.std.proofs.lemmas.List.{length-map}
use Rattle.std.proofs.lemmas.List.Elements.{All-cons, All-nil}
use Rattle.std.proofs.lemmas.Option.{slice_get-get_or}
use Rattle.flow_core_laws.proofs.Gathering.{length-gathered}
use Rattle.flow_core_laws.proofs.Elements.{element_kept}
use Rattle.flow_core_laws.proofs.OneMore.{length-values}
use Rattle.flow_core_laws.proofs.Rounds.{outcome_at-meaning}
use Rattle.flow_core_laws.proofs.Sources.{find_passes}
use Rattle.flow_core_laws.proofs.Windows.{Writes, is_window, written}
use Rattle.collector.specs.Written.{IsByteIfThere}
use Rattle.flow_core_laws.specs.declared.elem.Elem.{Elem}
use Rattle.flow_core_laws.specs.declared.elem.Elem.TheVariants.{Value, Poison}
use Rattle.flow_core_laws.specs.declared.task_end.TaskEnd.TheVariants.{Poisoned}
use Rattle.flow_core_laws.specs.Element as elements
use Rattle.flow_core_laws.specs.Element.{fed, nobody, output_element}
use Rattle.flow_core_laws.specs.Outcome.{State, outcome_at, outcome_of, root_of}
use Rattle.flow_core_laws.specs.Poisoning.{least_root, poisoning, values_of}
use Rattle.flow_core_laws.specs.Place.{written_count}
use Rattle.flow_core_laws.specs.Round.{inputs_in, meaning}
use Rattle.flow_core_laws.specs.Streams.{output_elements, own_number, stream_element, stream_meaning, stream_reads, stream_source}
use Rattle.flow_core_laws.specs.Window.{Window, claim_at, claims_at, is_written_by, no_claim, offset_after, producer, windows}
use Rattle.flow_core_laws.specs.declared.activation.Activation.{Activation}
use Rattle.flow_core_laws.specs.declared.claim.Claim.{Claim}
use Rattle.flow_core_laws.specs.declared.outcome.Outcome.{Outcome}
use Rattle.os_code.specs.Tasks.{input_count}
use Rattle.flow_core_laws.specs.Byte.{IsByte}
use Rattle.osrun_core_run.specs.BodyLaws.{GivesBytes}
use Rattle.epoch_run_bodies.proofs.Counts.{length-reads}
use Rattle.epoch_run_bodies.proofs.Serving.{no_activation}

-- a value that is there was written
value_written : (root : Option ℕ) (outputs : List ℤ) (place : ℕ) (v : ℤ) → output_element root outputs place ≡ Some (Value v) → slice_get outputs place ≡ Some v
value_written (Some r) outputs place v h = absurd (cc)
value_written None outputs place v h = by (slice_get outputs place) refl h
  where
    by : (o : Option ℤ) → slice_get outputs place ≡ o → option_map Value o ≡ Some (Value v) → slice_get outputs place ≡ Some v
    by None is e = absurd (cc)
    by (Some w) is e = let same : Some w ≡ Some v = cc in is ∙ same

-- by a body that ran on values alone
value_of_body : (body : ℕ → List ℤ → Outcome) (a : ℕ) (es : List Elem) (place : ℕ) (v : ℤ) → elements.element_written a (poisoning body a es) place ≡ Some (Value v)
    → (least_root es ≡ None) × (slice_get (body a (values_of es)).outputs place ≡ Some v)
value_of_body body a es place v h = by_root (least_root es) refl h
  where
    by_root : (root : Option ℕ) → least_root es ≡ root → elements.element_written a (option_map_or (λ (r : ℕ). outcome_of (Poisoned r) []) root (body a (values_of es))) place ≡ Some (Value v)
        → (least_root es ≡ None) × (slice_get (body a (values_of es)).outputs place ≡ Some v)
    by_root None none is = (none, value_written (root_of a (body a (values_of es)).end) (body a (values_of es)).outputs place v is)
    by_root (Some r) none is = absurd (cc)

module _ (activations : List Activation) (input : List ℕ) (body : ℕ → List ℤ → Outcome)
    (gives : (a : ℕ) (x : Activation) (inputs : List ℤ) → slice_get activations a ≡ Some x → length inputs ≡ input_count x → GivesBytes x (body a inputs)) where
  abbrev state : State
  state = stream_meaning activations input body

  -- a value that is there is an output element of an outcome that its body gave
  given : (a place : ℕ) (x : Activation) (value : ℤ) → slice_get activations a ≡ Some x → a < length activations → stream_element state (fed a place) ≡ Some (Value value)
      → (inputs : List ℤ) × (length inputs ≡ input_count x) × (slice_get (body a inputs).outputs place ≡ Some value)
  unfolding meaning
  given a place x value at lt is = by (inputs_in stream_element (stream_reads activations input) state a) refl
    where
      here : outcome_at state a ≡ option_map (poisoning body a) (inputs_in stream_element (stream_reads activations input) state a)
      here = outcome_at-meaning stream_element (element_kept own_number) (stream_reads activations input) (poisoning body) (length activations) a lt

      by : (o : Option (List Elem)) → inputs_in stream_element (stream_reads activations input) state a ≡ o → (inputs : List ℤ) × (length inputs ≡ input_count x) × (slice_get (body a inputs).outputs place ≡ Some value)
      by None none =
          let e : None ≡ Some (Value value) = sym (ap (option_and_then (λ (o : Outcome). elements.element_written a o place)) (here ∙ ap (option_map (poisoning body a)) none)) ∙ is in
          absurd (cc)
      by (Some es) there =
          let (none, wrote) = value_of_body body a es place value (sym (ap (option_and_then (λ (o : Outcome). elements.element_written a o place)) (here ∙ ap (option_map (poisoning body a)) there)) ∙ is) in (
            values_of es,
            length-values es none ∙ length-gathered (map (stream_element state) (stream_reads activations input a)) es there ∙ length-map (stream_reads activations input a) (stream_element state) ∙ length-reads activations input a x at,
            wrote,
          )

  -- a value at a position of the output
  at_position : (p : ℕ) (value : ℤ) → stream_element state (stream_source activations input (record { stream = 1; position = p })) ≡ Some (Value value) → IsByte value
  at_position p value is = by (producer activations 1 p) refl is
    where
      by : (o : Option Window) → producer activations 1 p ≡ o → stream_element state (option_map_or (λ (w : Window). fed w.activation (w.offset + (p - w.first))) o nobody) ≡ Some (Value value) → IsByte value
      by None none is = absurd (cc)
      by (Some w) found is =
          let (i, stands, passes) = find_passes (is_written_by 1 p) (windows activations) w found in
          let s = is_window activations i w stands in
          let writes : Writes 1 p w = written 1 p w passes in
          let x = get_or activations s.a no_activation in
          let at : slice_get activations s.a ≡ Some x = slice_get-get_or activations s.a no_activation s.exists in
          let cs = claims_at activations s.a in
          let claims : cs ≡ x.claims = ap (λ o. option_map_or (λ (y : Activation). y.claims) o []) at in
          let claim : w.claim ≡ claim_at cs s.k = ap (λ (v : Window). v.claim) s.is in
          let stands_at : slice_get x.claims s.k ≡ Some w.claim = ap (λ ds. slice_get ds s.k) (sym claims) ∙ slice_get-get_or cs s.k no_claim s.within ∙ ap (λ (c : Claim). Some c) (sym claim) in
          let offset : w.offset ≡ offset_after (take s.k x.claims) w.claim = ap (λ (v : Window). v.offset) s.is ∙ ap (offset_after (take s.k cs)) (sym claim) ∙ ap (λ ds. offset_after (take s.k ds) w.claim) claims in
          let is_there : stream_element state (fed s.a (w.offset + (p - w.first))) ≡ Some (Value value) = ap (λ a. stream_element state (fed a (w.offset + (p - w.first)))) (sym (ap (λ (v : Window). v.activation) s.is)) ∙ is in
          let (inputs, long, output) = given s.a (w.offset + (p - w.first)) x value at s.exists is_there in
          let on_stream = and_parts w.claim.write (w.claim.stream == 1) writes.on_stream in
          let from = writes.from in
          let to = writes.to in
          gives s.a x inputs at long s.k (p - w.first) w.claim value stands_at on_stream.0 (eqb-true w.claim.stream 1 on_stream.1) (omega arith)
          (ap (λ n. slice_get (body s.a inputs).outputs (n + (p - w.first))) (sym offset) ∙ output)

pub are_bytes : (activations : List Activation) (input : List ℕ) (body : ℕ → List ℤ → Outcome)
    → ((a : ℕ) (x : Activation) (inputs : List ℤ) → slice_get activations a ≡ Some x → length inputs ≡ input_count x → GivesBytes x (body a inputs))
    → All IsByteIfThere (output_elements activations input (stream_meaning activations input body))
unfolding meaning
are_bytes activations input body gives = positions (range_with_len 0 (written_count activations 1))
  where
    at : (p : ℕ) (e : Option Elem) → stream_element (stream_meaning activations input body) (stream_source activations input (record { stream = 1; position = p })) ≡ e → IsByteIfThere e
    at p None is = tt
    at p (Some (Value value)) is = at_position activations input body gives p value is
    at p (Some (Poison root)) is = tt

    positions : (ps : List ℕ) → All IsByteIfThere (map (stream_element (stream_meaning activations input body)) (map (stream_source activations input) (map (λ position. record { stream = 1; position = position }) ps)))
    positions [] = All-nil IsByteIfThere
    positions (p ∷ ps) = All-cons IsByteIfThere _ _ (at p _ refl) (positions ps)
