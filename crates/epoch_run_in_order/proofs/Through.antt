-- What is written through a span, as a list.
use Rattle.std.proofs.Common.{◌≡◌, ℕ, zero, suc, ◌+◌, ◌<◌, ◌≤◌, ℤ, pos, Bool, true, false, List, [], ◌∷◌, ◌++◌, Option, Some, None, map, length, get_or, take, drop, refl, sym, ap, ◌∙◌, arith}
use Rattle.std.specs.Prelude.{if◌then◌else◌, replicate, slice_get, slice_index_or, slice_set}
use Rattle.std.specs.Option.{option_map}
use Rattle.std.specs.List.{range_with_len}
use Rattle.std.proofs.lemmas.List.{length-set}
use Rattle.std.proofs.lemmas.Option.{slice_get-get_or}
use Rattle.flow_core_laws.specs.Element.{output_element}
use Rattle.flow_core_laws.specs.declared.elem.Elem.{Elem}
use Rattle.flow_core_laws.specs.declared.elem.Elem.TheVariants.{Value, Poison}
use Rattle.stream_match_layouts.specs.declared.span.Span.{Span}
use Rattle.epoch_run_in_order.specs.Writing.{with_span, written_through}
use Rattle.epoch_run_in_order.proofs.Stretches.{map-stretch}

poison_stretch : (root : ℕ) (outputs : List ℤ) (first count : ℕ) → map (output_element (Some root) outputs) (range_with_len first count) ≡ replicate count (Some (Poison root))
poison_stretch root outputs first zero = refl
poison_stretch root outputs first (suc n) = ap (λ (l : List (Option Elem)). Some (Poison root) ∷ l) (poison_stretch root outputs (first + 1) n)

pub through_poison : (root : ℕ) (outputs : List ℤ) (span : Span) → written_through (Some root) outputs span ≡ replicate span.count (Some (Poison root))
through_poison root outputs span = poison_stretch root outputs span.offset span.count

pub through_values : (outputs : List ℤ) (span : Span) → span.offset + span.count ≤ length outputs → written_through None outputs span ≡ map (λ v. Some (Value v)) (take span.count (drop span.offset outputs))
through_values outputs span within =
    ap (λ (k : ℕ). map (output_element None outputs) (range_with_len k span.count)) (let e : span.offset ≡ 0 + span.offset = omega arith in e)
    ∙ map-stretch (output_element None outputs) (λ v. Some (Value v)) outputs (pos 0) 0 each span.offset span.count within
  where
    each : (k : ℕ) → k < length outputs → output_element None outputs (0 + k) ≡ Some (Value (get_or outputs k (pos 0)))
    each k lt =
        ap (λ (n : ℕ). option_map Value (slice_get outputs n)) (let z : 0 + k ≡ k = omega arith in z)
        ∙ ap (λ (o : Option ℤ). option_map Value o) (slice_get-get_or outputs k (pos 0) lt)

-- the same, by the bounds of the slice
pub through_slice : (root : Option ℕ) (outputs : List ℤ) (span : Span) (n : ℕ) → root ≡ None → span.offset + span.count ≤ length outputs → n ≡ span.count → map (λ value. Some (Value value)) (take n (drop span.offset outputs)) ≡ written_through root outputs span
through_slice root outputs span n none within is =
    ap (λ (k : ℕ). map (λ v. Some (Value v)) (take k (drop span.offset outputs))) is
    ∙ sym (through_values outputs span within)
    ∙ sym (ap (λ (o : Option ℕ). written_through o outputs span) none)

-- the streams stay as many
pub length-with_span : (root : Option ℕ) (outputs : List ℤ) (elements : List (List (Option Elem))) (span : Span) → length (with_span root outputs elements span) ≡ length elements
length-with_span root outputs elements span = by_kind span.write
  where
    by_kind : (write : Bool) → length (if write then slice_set elements span.stream (slice_index_or elements span.stream [] ++ written_through root outputs span) else elements) ≡ length elements
    by_kind true = length-set elements span.stream (slice_index_or elements span.stream [] ++ written_through root outputs span)
    by_kind false = refl
