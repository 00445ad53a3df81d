-- What activations of a run mean by what they read, and what streams mean by what they write.
use Rattle.std.proofs.Common.{◌≡◌, ◌≢◌, ℕ, ◌+◌, ◌-◌, ◌<◌, List, Option, Some, true, false, cond, map, length, refl, ap, ◌∙◌, arith}
use Rattle.std.specs.Prelude.{slice_get, ◌==◌, nat_le, nat_lt, option_and_then}
use Rattle.std.specs.Option.{option_map, option_map_or}
use Rattle.std.proofs.lemmas.Bool.Decides.{nat_tests}
use mathlib.Core.List.{map-map}
use Rattle.flow_core_laws.specs.declared.activation.Activation.{Activation}
use Rattle.flow_core_laws.specs.declared.elem.Elem.{Elem}
use Rattle.flow_core_laws.specs.declared.outcome.Outcome.{Outcome}
use Rattle.flow_core_laws.specs.declared.place.Place.{Place}
use Rattle.flow_core_laws.specs.Element.{element_written, fed, nobody}
use Rattle.flow_core_laws.specs.Outcome.{outcome_at}
use Rattle.flow_core_laws.specs.Place.{input_places}
use Rattle.flow_core_laws.specs.Poisoning.{poisoning}
use Rattle.flow_core_laws.specs.Round.{gathered}
use Rattle.flow_core_laws.specs.Streams.{own_number, produced_source, stream_element, stream_reads, stream_source, input_source}
use Rattle.flow_core_laws.specs.Window.{Window, is_written_by, producer, windows, windows_of}
use Rattle.flow_core_laws.proofs.Elements.{element_kept}
use Rattle.flow_core_laws.proofs.Rounds.{outcome_at-meaning}
use Rattle.flow_core_laws.proofs.Stretches.{stands_at, parts_before}
use Rattle.flow_core_laws.proofs.Windows.{producer_of}
use Rattle.epoch_run_batches.specs.Meant.{Run, meant, element_meant}

module _ (run : Run) where
  -- the element that a place means
  abbrev pub place_meant : Place → Option Elem
  place_meant p = stream_element (meant run) (stream_source run.activations run.input p)

  -- Where all that an activation reads is there, it means what that poisons it or its body makes of the values.
  pub settles : (a : ℕ) (elements : List Elem) → a < length run.activations → gathered (map place_meant (input_places run.activations a)) ≡ Some elements
      → outcome_at (meant run) a ≡ Some (poisoning run.body a elements)
  settles a elements lt there =
      outcome_at-meaning stream_element (element_kept own_number) (stream_reads run.activations run.input) (poisoning run.body) (length run.activations) a lt
      ∙ ap (λ os. option_map (poisoning run.body a) (gathered os)) (map-map (stream_element (meant run)) (stream_source run.activations run.input) (input_places run.activations a))
      ∙ ap (option_map (poisoning run.body a)) there

  -- A stream means what the activation with the window there wrote.
  pub writes : (i k : ℕ) (w : Window) (o : Outcome) → slice_get (windows run.activations) i ≡ Some w → w.claim.write ≡ true → w.claim.stream ≢ 0
      → outcome_at (meant run) w.activation ≡ Some o → k < w.claim.horizon
      → element_meant run w.claim.stream (w.first + k) ≡ element_written w.activation o (w.offset + k)
  writes i k w o at write other ended lt =
      ap (λ b. stream_element (meant run) (cond b (input_source run.input (w.first + k)) (produced_source run.activations w.claim.stream (w.first + k)))) not_input
      ∙ ap (λ p. stream_element (meant run) (option_map_or (λ (v : Window). fed v.activation (v.offset + ((w.first + k) - v.first))) p nobody)) produced
      ∙ ap (λ n. stream_element (meant run) (fed w.activation (w.offset + n))) (let e : (w.first + k) - w.first ≡ k = omega arith in e)
      ∙ ap (λ p. option_and_then (λ (q : Outcome). element_written w.activation q (w.offset + k)) p) ended
    where
      not_input : (w.claim.stream == 0) ≡ false
      not_input = grind (arith, nat_tests)

      same : (w.claim.stream == w.claim.stream) ≡ true
      same = grind (arith, nat_tests)

      from : nat_le w.first (w.first + k) ≡ true
      from = grind (arith, nat_tests)

      to : nat_lt (w.first + k) (w.first + w.claim.horizon) ≡ true
      to = grind (arith, nat_tests)

      covers : is_written_by w.claim.stream (w.first + k) w ≡ true
      covers = rw (write, same, from, to) refl

      produced : producer run.activations w.claim.stream (w.first + k) ≡ Some w
      produced = producer_of run.activations w.claim.stream (w.first + k) i w at (rw covers refl)

  -- The windows of an activation are among all windows.
  pub among_windows : (acts : List Activation) (a j : ℕ) (w : Window) → a < length acts → slice_get (windows_of acts a) j ≡ Some w → (i : ℕ) × (slice_get (windows acts) i ≡ Some w)
  unfolding windows
  among_windows acts a j w lt at = (length (parts_before (windows_of acts) 0 a) + j, stands_at (windows_of acts) 0 (length acts) a j w (omega arith) (omega arith) at)
