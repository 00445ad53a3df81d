-- What a slice of a list holds is what a span covers.
use Rattle.std.proofs.Common.{◌≡◌, ℕ, suc, ◌+◌, ◌-◌, ◌<◌, ◌≤◌, List, [], ◌∷◌, ◌++◌, Option, Some, None, true, map, length, get_or, take, drop, refl, sym, ap, ◌∙◌, ◌⊎◌, inl, inr, subst, append_assoc, arith}
use Rattle.std.specs.Prelude.{nat_le, slice_index, slice_index_or}
use Rattle.std.specs.List.{range_with_len}
use Rattle.std.proofs.lemmas.Bool.{cases_lt}
use Rattle.std.proofs.lemmas.Bool.Decides.{nat_tests}
use Rattle.std.proofs.lemmas.List.{append-nil, map-id, get_or-take, get_or_past, length-take-le}
use Rattle.std.proofs.lemmas.List.FromFn.{length-map-range_with_len}
use Rattle.std.proofs.lemmas.Option.{slice_get-get_or}
use Rattle.flow_core_laws.specs.Round.{gathered}
use Rattle.flow_core_laws.specs.declared.elem.Elem.{Elem}
use Rattle.flow_core_laws.proofs.Gathering.{gathered-cons}
use Rattle.stream_match_layouts.specs.declared.span.Span.{Span}
use Rattle.epoch_run_batches.specs.declared.inputs.Inputs.{Inputs}
use Rattle.epoch_run_batches.specs.declared.streams.Streams.{Streams}
use Rattle.epoch_run_batches.specs.Found.{AreAt, held_on, held_over}
use Rattle.epoch_run_batches.specs.Meant.{AreMeant, HoldMeant, Run, element_meant}
use Rattle.epoch_run_batches.specs.Reads.{AreFound, AreRead, AreReadTo, byte_element}
use Rattle.epoch_run_batches.proofs.Finding.{byte_is_meant, held_is_meant}
use Rattle.epoch_run_batches.proofs.Stretches.{map-stretch}
use Rattle.epoch_run_batches.proofs.Written.{each_held}

-- places of a stream's list that a span covers
pub held_at_places : (streams : Streams) (span : Span) (elements are : List (Option Elem)) (place : ℕ) → elements ≡ slice_index_or streams.elements span.stream [] → slice_index streams.firsts span.stream ≤ span.first
    → place ≡ span.first - slice_index streams.firsts span.stream → AreAt elements place span.count are → are ≡ held_over streams span
held_at_places streams span elements are place theirs low place_is at =
    at.are_theirs
    ∙ sym (map-id (take span.count (drop place elements)))
    ∙ sym (map-stretch (held_on streams span.stream) (λ o. o) elements None first each place span.count at.within)
    ∙ ap (λ (k : ℕ). map (held_on streams span.stream) (range_with_len k span.count)) (let e : first + place ≡ span.first = omega (arith, place_is, low) in e)
  where
    first : ℕ
    first = slice_index streams.firsts span.stream

    each : (k : ℕ) → k < length elements → held_on streams span.stream (first + k) ≡ get_or elements k None
    each k lt =
        let at_least : nat_le first (first + k) ≡ true = grind (arith, nat_tests) in
        let e : first + k - first ≡ k = omega arith in
        rw at_least (ap (λ (n : ℕ). slice_index_or (slice_index_or streams.elements span.stream []) n None) e ∙ ap (λ (xs : List (Option Elem)). get_or xs k None) (sym theirs))

-- what streams that are meant hold of a span is found
pub held_is_found : (run : Run) (streams : Streams) (span : Span) (elements : List (Option Elem)) → HoldMeant run streams → elements ≡ held_over streams span → AreFound run span elements
held_is_found run streams span elements holds is = record {
  as_many = ap length is ∙ length-map-range_with_len (held_on streams span.stream) span.first span.count;
  are_meant = subst (AreMeant run span.stream span.first) (sym is) (each_held run span.stream span.first span.count (held_on streams span.stream) (λ k e. held_is_meant run streams span.stream (span.first + k) e holds));
}

-- of elements that all are there and are meant each is the one that is meant
all_meant : (run : Run) (stream first : ℕ) (cells xs : List (Option Elem)) (es : List Elem) → AreMeant run stream first xs → gathered (cells ++ xs) ≡ Some es
    → cells ++ xs ≡ cells ++ map (element_meant run stream) (range_with_len first (length xs))
all_meant run stream first cells [] es are h = refl
all_meant run stream first cells (None ∷ xs) es are h = absurd (let no : None ≡ Some es = none cells es h in cc)
  where
    none : (cs : List (Option Elem)) (vs : List Elem) → gathered (cs ++ None ∷ xs) ≡ Some vs → None ≡ Some vs
    none [] vs p = p
    none (c ∷ cs) vs p = let (v, ws, at_c, at_cs, is) = gathered-cons c (cs ++ None ∷ xs) vs p in absurd (let no : None ≡ Some ws = none cs ws at_cs in cc)
all_meant run stream first cells (Some e ∷ xs) es are h =
    let f = element_meant run stream in
    let here : f first ≡ Some e = ap f (let s : first ≡ first + 0 = omega arith in s) ∙ are 0 e refl in
    let rest : AreMeant run stream (first + 1) xs = λ k v is. ap f (let s : first + 1 + k ≡ first + suc k = omega arith in s) ∙ are (suc k) v is in
    sym (append_assoc cells (Some e ∷ []) xs)
    ∙ all_meant run stream (first + 1) (cells ++ Some e ∷ []) xs es rest (ap gathered (append_assoc cells (Some e ∷ []) xs) ∙ h)
    ∙ append_assoc cells (Some e ∷ []) (map f (range_with_len (first + 1) (length xs)))
    ∙ ap (λ (o : Option Elem). cells ++ o ∷ map f (range_with_len (first + 1) (length xs))) (sym here)

-- the first elements that were found were read
pub read_of_found : (run : Run) (span : Span) (elements : List (Option Elem)) (done : ℕ) (cells : List (Option Elem)) (now : Inputs) → AreFound run span elements → done ≤ length elements
    → AreRead (cells ++ take done elements) now → AreRead (cells ++ map (element_meant run span.stream) (range_with_len span.first done)) now
read_of_found run span elements done cells now found few r =
    subst (λ (cs : List (Option Elem)). AreRead cs now)
    (all_meant run span.stream span.first cells (take done elements) r.elements front r.are_there
    ∙ ap (λ (n : ℕ). cells ++ map (element_meant run span.stream) (range_with_len span.first n)) (length-take-le done elements few))
    r
  where
    front : AreMeant run span.stream span.first (take done elements)
    front k e is = by (cases_lt k done)
      where
        by : (k < done) ⊎ (done ≤ k) → element_meant run span.stream (span.first + k) ≡ Some e
        by (inl lt) = found.are_meant k e (sym (get_or-take done elements k None lt) ∙ is)
        by (inr ge) = let h = get_or_past (take done elements) k None (omega (arith, length-take-le done elements few)) in absurd (cc)

-- nothing of a span was read
pub read_nothing : (run : Run) (span : Span) (now : Inputs) → AreReadTo run span 0 now now
read_nothing run span now cells r = subst (λ (cs : List (Option Elem)). AreRead cs now) (sym (append-nil cells)) r

-- a slice of the input was read
pub read_of_input : (run : Run) (input : List ℕ) (span : Span) (n : ℕ) (cells : List (Option Elem)) (now : Inputs) → input ≡ run.input → span.stream ≡ 0 → span.first + span.count ≤ length input → n ≡ span.count
    → AreRead (cells ++ map byte_element (take n (drop span.first input))) now → AreRead (cells ++ map (element_meant run span.stream) (range_with_len span.first span.count)) now
read_of_input run input span n cells now input_is zeroth within is r =
    subst (λ (cs : List (Option Elem)). AreRead (cells ++ cs) now)
    (ap (λ (k : ℕ). map byte_element (take k (drop span.first input))) is
    ∙ sym (map-stretch (element_meant run 0) byte_element input 0 0 each span.first span.count within)
    ∙ ap (λ (k : ℕ). map (element_meant run 0) (range_with_len k span.count)) (let e : 0 + span.first ≡ span.first = omega arith in e)
    ∙ ap (λ (s : ℕ). map (element_meant run s) (range_with_len span.first span.count)) (sym zeroth))
    r
  where
    each : (k : ℕ) → k < length input → element_meant run 0 (0 + k) ≡ byte_element (get_or input k 0)
    each k lt =
        ap (element_meant run 0) (let z : 0 + k ≡ k = omega arith in z)
        ∙ byte_is_meant run input k (get_or input k 0) input_is (slice_get-get_or input k 0 lt)
