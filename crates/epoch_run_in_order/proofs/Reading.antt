-- What was read so far, with one more element, and what a span covers, as a list.
use Rattle.std.proofs.Common.{◌≡◌, ℕ, ◌+◌, ◌-◌, ◌<◌, ◌≤◌, ℤ, pos, Bool, true, false, List, [], ◌∷◌, ◌++◌, Option, Some, None, map, length, get_or, take, drop, sym, ap, ◌∙◌, subst, append_assoc, arith}
use Rattle.std.specs.Prelude.{◌==◌, if◌then◌else◌, min, nat_le, slice_get, slice_index_or}
use Rattle.std.specs.Option.{option_map, option_map_or}
use Rattle.std.specs.List.{range_with_len}
use Rattle.std.proofs.lemmas.List.{append-nil, map-id}
use mathlib.Core.List.{map-map}
use Rattle.std.proofs.lemmas.Option.{slice_get-get_or}
use Rattle.std.proofs.lemmas.Bool.Decides.{nat_tests}
use Rattle.flow_core_laws.specs.declared.elem.Elem.{Elem}
use Rattle.flow_core_laws.specs.declared.elem.Elem.TheVariants.{Value, Poison}
use Rattle.flow_core_laws.specs.Poisoning.{least_root, values_of}
use Rattle.flow_core_laws.specs.Round.{gathered}
use Rattle.flow_core_laws.proofs.Gathering.{gathered-push}
use Rattle.flow_core_laws.proofs.OneMore.{values-value, values-poison, least_root-value, least_root-poison}
use Rattle.stream_match_layouts.specs.declared.span.Span.{Span}
use Rattle.epoch_run_in_order.specs.Reading.{AreRead, covered, values_in}
use Rattle.epoch_run_in_order.specs.Streams.{HasPlace, byte_element, elements_of, first_of, held_at, held_on, input_at}
use Rattle.epoch_run_in_order.specs.declared.inputs.Inputs.{Inputs}
use Rattle.epoch_run_in_order.specs.declared.streams.Streams.{Streams}
use Rattle.epoch_run_in_order.proofs.Stretches.{map-stretch}

pub AreRead-value : (cells : List (Option Elem)) (was now : Inputs) (v : ℤ) → now.root ≡ was.root → values_in now ≡ values_in was ++ v ∷ [] → AreRead cells was → AreRead (cells ++ Some (Value v) ∷ []) now
AreRead-value cells was now v root values r = record {
  elements = r.elements ++ Value v ∷ [];
  are_there = gathered-push cells r.elements (Value v) r.are_there;
  root_is = root ∙ r.root_is ∙ sym (least_root-value r.elements v);
  values_are = values ∙ ap (λ (l : List ℤ). l ++ v ∷ []) r.values_are ∙ sym (values-value r.elements v);
}

pub AreRead-poison : (cells : List (Option Elem)) (was now : Inputs) (root lesser : ℕ) → lesser ≡ option_map_or (λ (before : ℕ). min before root) was.root root → now.root ≡ Some lesser → values_in now ≡ values_in was → AreRead cells was → AreRead (cells ++ Some (Poison root) ∷ []) now
AreRead-poison cells was now root lesser is root_is values r = record {
  elements = r.elements ++ Poison root ∷ [];
  are_there = gathered-push cells r.elements (Poison root) r.are_there;
  root_is = root_is ∙ ap (λ (n : ℕ). Some n) (is ∙ ap (λ (o : Option ℕ). option_map_or (λ (before : ℕ). min before root) o root) r.root_is) ∙ sym (least_root-poison r.elements root);
  values_are = values ∙ r.values_are ∙ sym (values-poison r.elements root);
}

-- the same, by what the next element is
pub AreRead-as_value : (cells : List (Option Elem)) (was now : Inputs) (element : Option Elem) (v : ℤ) → element ≡ Some (Value v) → now.root ≡ was.root → values_in now ≡ values_in was ++ v ∷ [] → AreRead cells was → AreRead (cells ++ element ∷ []) now
AreRead-as_value cells was now element v is root values r = subst (λ (o : Option Elem). AreRead (cells ++ o ∷ []) now) (sym is) (AreRead-value cells was now v root values r)

pub AreRead-as_poison : (cells : List (Option Elem)) (was now : Inputs) (element : Option Elem) (root lesser : ℕ) → element ≡ Some (Poison root) → lesser ≡ option_map_or (λ (before : ℕ). min before root) was.root root → now.root ≡ Some lesser → values_in now ≡ values_in was → AreRead cells was → AreRead (cells ++ element ∷ []) now
AreRead-as_poison cells was now element root lesser is least root_is values r = subst (λ (o : Option Elem). AreRead (cells ++ o ∷ []) now) (sym is) (AreRead-poison cells was now root lesser least root_is values r)

-- more values
gathered-values : (cells : List (Option Elem)) (es : List Elem) (vs : List ℤ) → gathered cells ≡ Some es → gathered (cells ++ map (λ (v : ℤ). Some (Value v)) vs) ≡ Some (es ++ map Value vs)
gathered-values cells es [] h = ap gathered (append-nil cells) ∙ h ∙ ap (λ (l : List Elem). Some l) (sym (append-nil es))
gathered-values cells es (v ∷ vs) h =
    ap gathered (sym (append_assoc cells (Some (Value v) ∷ []) (map (λ (v : ℤ). Some (Value v)) vs)))
    ∙ gathered-values (cells ++ Some (Value v) ∷ []) (es ++ Value v ∷ []) vs (gathered-push cells es (Value v) h)
    ∙ ap (λ (l : List Elem). Some l) (append_assoc es (Value v ∷ []) (map Value vs))

least_root-values : (es : List Elem) (vs : List ℤ) → least_root (es ++ map Value vs) ≡ least_root es
least_root-values es [] = ap least_root (append-nil es)
least_root-values es (v ∷ vs) = ap least_root (sym (append_assoc es (Value v ∷ []) (map Value vs))) ∙ least_root-values (es ++ Value v ∷ []) vs ∙ least_root-value es v

values-values : (es : List Elem) (vs : List ℤ) → values_of (es ++ map Value vs) ≡ values_of es ++ vs
values-values es [] = ap values_of (append-nil es) ∙ sym (append-nil (values_of es))
values-values es (v ∷ vs) =
    ap values_of (sym (append_assoc es (Value v ∷ []) (map Value vs)))
    ∙ values-values (es ++ Value v ∷ []) vs
    ∙ ap (λ (l : List ℤ). l ++ vs) (values-value es v)
    ∙ append_assoc (values_of es) (v ∷ []) vs

-- more bytes
pub AreRead-bytes : (cells : List (Option Elem)) (bytes : List ℕ) (was now : Inputs) → now.root ≡ was.root → values_in now ≡ values_in was ++ map pos bytes → AreRead cells was → AreRead (cells ++ map byte_element bytes) now
AreRead-bytes cells bytes was now root values r = record {
  elements = r.elements ++ map Value (map pos bytes);
  are_there = ap (λ (cs : List (Option Elem)). gathered (cells ++ cs)) (sym (map-map (λ (v : ℤ). Some (Value v)) pos bytes)) ∙ gathered-values cells r.elements (map pos bytes) r.are_there;
  root_is = root ∙ r.root_is ∙ sym (least_root-values r.elements (map pos bytes));
  values_are = values ∙ ap (λ (l : List ℤ). l ++ map pos bytes) r.values_are ∙ sym (values-values r.elements (map pos bytes));
}

-- a span of the input covers a slice of its bytes
pub covered_input : (streams : Streams) (input : List ℕ) (span : Span) → span.stream ≡ 0 → span.first + span.count ≤ length input → covered streams input span ≡ map byte_element (take span.count (drop span.first input))
covered_input streams input span is within =
    ap (λ (s : ℕ). map (held_at streams input s) (range_with_len span.first span.count)) is
    ∙ ap (λ (k : ℕ). map (input_at input) (range_with_len k span.count)) (let e : span.first ≡ 0 + span.first = omega arith in e)
    ∙ map-stretch (input_at input) byte_element input 0 0 each span.first span.count within
  where
    each : (k : ℕ) → k < length input → input_at input (0 + k) ≡ byte_element (get_or input k 0)
    each k lt =
        ap (λ (n : ℕ). option_map (λ byte. Value (pos byte)) (slice_get input n)) (let z : 0 + k ≡ k = omega arith in z)
        ∙ ap (λ (o : Option ℕ). option_map (λ byte. Value (pos byte)) o) (slice_get-get_or input k 0 lt)

held_on_other : (streams : Streams) (input : List ℕ) (stream : ℕ) (positions : List ℕ) → 0 < stream → map (held_at streams input stream) positions ≡ map (held_on streams stream) positions
held_on_other streams input stream positions other =
    let z : (stream == 0) ≡ false = grind (arith, nat_tests) in
    ap (λ (b : Bool). map (λ position. if b then input_at input position else held_on streams stream position) positions) z

-- a span of another stream covers a slice of what is held of it
pub covered_held : (streams : Streams) (input : List ℕ) (span : Span) (at : ℕ) → 0 < span.stream → HasPlace streams span at → covered streams input span ≡ take span.count (drop at (elements_of streams span.stream))
covered_held streams input span at other place =
    held_on_other streams input span.stream (range_with_len span.first span.count) other
    ∙ ap (λ (k : ℕ). map (held_on streams span.stream) (range_with_len k span.count)) (sym place.from)
    ∙ map-stretch (held_on streams span.stream) (λ o. o) (elements_of streams span.stream) None (first_of streams span.stream) each at span.count place.within
    ∙ map-id (take span.count (drop at (elements_of streams span.stream)))
  where
    first : ℕ
    first = first_of streams span.stream

    each : (k : ℕ) → k < length (elements_of streams span.stream) → held_on streams span.stream (first + k) ≡ get_or (elements_of streams span.stream) k None
    each k lt =
        let low : nat_le first (first + k) ≡ true = grind (arith, nat_tests) in
        let e : first + k - first ≡ k = omega arith in
        rw low (ap (λ (n : ℕ). slice_index_or (elements_of streams span.stream) n None) e)

-- what was read of a slice was read of the span
pub read_of_input : (streams : Streams) (input : List ℕ) (span : Span) (inputs : Inputs) (cells : List (Option Elem)) (n : ℕ) → span.stream ≡ 0 → span.first + span.count ≤ length input → n ≡ span.count → AreRead (cells ++ map byte_element (take n (drop span.first input))) inputs → AreRead (cells ++ covered streams input span) inputs
read_of_input streams input span inputs cells n zeroth within is r =
    subst (λ (cs : List (Option Elem)). AreRead (cells ++ cs) inputs)
    (ap (λ (k : ℕ). map byte_element (take k (drop span.first input))) is ∙ sym (covered_input streams input span zeroth within))
    r

pub read_of_stream : (streams : Streams) (input : List ℕ) (span : Span) (inputs : Inputs) (cells : List (Option Elem)) (at n : ℕ) (elements : List (Option Elem)) → 0 < span.stream → HasPlace streams span at → elements ≡ elements_of streams span.stream → n ≡ span.count → AreRead (cells ++ take n (drop at elements)) inputs → AreRead (cells ++ covered streams input span) inputs
read_of_stream streams input span inputs cells at n elements other place are is r =
    subst (λ (cs : List (Option Elem)). AreRead (cells ++ cs) inputs)
    (ap (λ (k : ℕ). take k (drop at elements)) is ∙ ap (λ (es : List (Option Elem)). take span.count (drop at es)) are ∙ sym (covered_held streams input span at other place))
    r
