-- A run writes no more bytes than an input may have.
use Rattle.std.proofs.Common.{◌≡◌, ◌∙◌, ◌≤◌, ℕ, not, List, [], ◌∷◌, Option, Some, None, filter, length, map, refl, arith}
use Rattle.std.specs.Prelude.{sum_by}
use Rattle.std.proofs.lemmas.List.{length-map}
use Rattle.std.proofs.lemmas.List.Filters.{sum_by-filter_both}
use Rattle.std.proofs.lemmas.List.FromFn.{length-map-range_with_len}
use Rattle.collector.specs.Written.{byte_of, complete_prefix, written}
use Rattle.flow_core_laws.specs.declared.activation.Activation.{Activation}
use Rattle.flow_core_laws.specs.declared.claim.Claim.{Claim}
use Rattle.flow_core_laws.specs.declared.elem.Elem.{Elem}
use Rattle.flow_core_laws.specs.declared.elem.Elem.TheVariants.{Value, Poison}
use Rattle.flow_core_laws.specs.FirstPosition.{is_write_to}
use Rattle.flow_core_laws.specs.Outcome.{State}
use Rattle.flow_core_laws.specs.Place.{output_places, written_count}
use Rattle.flow_core_laws.specs.Streams.{output_elements, stream_element, stream_source}
use Rattle.flow_core_laws.specs.Window.{claims_of}
use Rattle.stream_match_layouts.specs.Lawful.{AreLawful}

prefix_short : (xs : List (Option Elem)) → length (complete_prefix xs) ≤ length xs
prefix_short [] = omega arith
prefix_short (None ∷ xs) = omega arith
prefix_short (Some (Value x) ∷ xs) = omega (arith, prefix_short xs)
prefix_short (Some (Poison root) ∷ xs) = omega arith

written_short : (xs : List (Option Elem)) → length (written xs) ≤ length xs
written_short xs = omega (arith, length-map (complete_prefix xs) byte_of, prefix_short xs)

-- as many elements as positions are claimed
elements_count : (activations : List Activation) (input : List ℕ) (state : State)
    → length (output_elements activations input state) ≡ written_count activations 1
elements_count activations input state =
    let places = output_places activations in
    length-map (map (stream_source activations input) places) (stream_element state)
    ∙ length-map places (stream_source activations input)
    ∙ length-map-range_with_len (λ (position : ℕ). record { stream = 1; position = position }) 0 (written_count activations 1)

-- and no more of the output than of all streams
claimed_few : (cs : List Claim) → sum_by (λ (c : Claim). c.horizon) (filter (is_write_to 1) cs) ≤ sum_by (λ (c : Claim). c.horizon) cs
claimed_few cs = omega (arith, sum_by-filter_both (is_write_to 1) (λ c. not (is_write_to 1 c)) (λ _. refl) (λ (c : Claim). c.horizon) cs)

pub few_written : (streams : ℕ) (activations : List Activation) (input : List ℕ) (state : State) → AreLawful streams activations
    → length (written (output_elements activations input state)) ≤ 4194304
few_written streams activations input state lawful =
    let elements = output_elements activations input state in
    omega (arith, written_short elements, elements_count activations input state, claimed_few (claims_of activations), lawful.positions_are_few)
