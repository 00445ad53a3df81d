-- Round after round the values that are there are `int`s.
use Rattle.std.proofs.Common.{◌≡◌, ◌∙◌, ◌⊎◌, inl, inr, ◌^◌, ◌+◌, ◌-◌, ◌<◌, ◌≤◌, ℕ, zero, suc, ℤ, pos, Bool, true, false, cond, ◌==◌, List, [], ◌∷◌, All, Option, Some, None, map, length, slice_get, refl, sym, ap, subst, arith, lt-ltb}
use Rattle.std.specs.Prelude.{⊤, option_and_then}
use Rattle.std.specs.List.{list_all}
use Rattle.std.specs.Option.{option_map, option_map_or, option_or}
use Rattle.std.proofs.lemmas.Bool.{cases_lt}
use Rattle.std.proofs.lemmas.List.Elements.{All-cons, All-get_or, All-head, All-nil, All-tail}
use Rattle.std.proofs.lemmas.Option.{get_or_from_slice_get, same_Some, slice_get_within}
use Rattle.c_int.specs.Operators.{is_int}
use Rattle.cddf_meaning.proofs.Ints.{joined}
use Rattle.cddf_meaning.proofs.TypedValues.{both}
use Rattle.flow_core_laws.proofs.Rounds.{after, after-suc, length-after, length-round, outcome_at-round, outcome_at-start, outcome_at_past}
use Rattle.flow_core_laws.specs.Element as elements
use Rattle.flow_core_laws.specs.Element.{Source, fed, initial, output_element}
use Rattle.flow_core_laws.specs.Outcome.{State, outcome_at, outcome_of, root_of}
use Rattle.flow_core_laws.specs.Place.{input_places}
use Rattle.flow_core_laws.specs.Poisoning.{least_root, poisoning, values_of}
use Rattle.flow_core_laws.specs.Round.{gathered, inputs_in, meaning, round}
use Rattle.flow_core_laws.specs.Streams.{input_source, stream_element, stream_meaning, stream_reads, stream_source}
use Rattle.flow_core_laws.specs.Window.{Window, producer}
use Rattle.flow_core_laws.specs.declared.activation.Activation.{Activation}
use Rattle.flow_core_laws.specs.declared.elem.Elem.{Elem}
use Rattle.flow_core_laws.specs.declared.elem.Elem.TheVariants.{Value, Poison}
use Rattle.flow_core_laws.specs.declared.outcome.Outcome.{Outcome}
use Rattle.flow_core_laws.specs.declared.place.Place.{Place}
use Rattle.flow_core_laws.specs.declared.task_end.TaskEnd.TheVariants.{Poisoned}
use Rattle.cddf_meaning_laws.specs.Beginning.{AreInts}
use Rattle.cddf_meaning_laws.specs.Reading.{ReadsInts}

-- an element that is an `int` or poison
abbrev ElemFits : Elem → Type 0
ElemFits (Value v) = is_int v ≡ true
ElemFits (Poison root) = ⊤

abbrev SourceFits : Source → Type 0
SourceFits (initial e) = ElemFits e
SourceFits (fed a place) = ⊤
SourceFits elements.nobody = ⊤

-- an element that fits, or none
abbrev FitsIfThere : Option Elem → Type 0
FitsIfThere None = ⊤
FitsIfThere (Some e) = ElemFits e

-- the values of elements that are all there
one_more : (e : Elem) (es : List Elem) → ElemFits e → AreInts (values_of es) → AreInts (values_of (e ∷ es))
one_more (Value v) es h rest = joined (is_int v) (list_all is_int (values_of es)) h rest
one_more (Poison root) es h rest = rest

values-fit : (os : List (Option Elem)) (es : List Elem) → All FitsIfThere os → gathered os ≡ Some es → AreInts (values_of es)
values-fit [] es all is = subst (λ xs. AreInts (values_of xs)) (same_Some [] es is) refl
values-fit (None ∷ os) es all is = absurd (cc)
values-fit (Some e ∷ os) es all is = by (gathered os) (λ xs. values-fit os xs (All-tail FitsIfThere (Some e) os all)) is
  where
    by : (rest : Option (List Elem)) → ((xs : List Elem) → rest ≡ Some xs → AreInts (values_of xs)) → option_map (λ xs. e ∷ xs) rest ≡ Some es → AreInts (values_of es)
    by None more same = absurd (cc)
    by (Some xs) more same =
        subst (λ ys. AreInts (values_of ys)) (same_Some (e ∷ xs) es same) (one_more e xs (All-head FitsIfThere (Some e) os all) (more xs refl))

-- an `int` of a list of them
int_at : (vs : List ℤ) (k : ℕ) (v : ℤ) → AreInts vs → slice_get vs k ≡ Some v → is_int v ≡ true
int_at [] k v h at = absurd (cc)
int_at (w ∷ vs) zero v h at = let same : w ≡ v = cc in subst (λ x. is_int x ≡ true) same (both (is_int w) (list_all is_int vs) h).0
int_at (w ∷ vs) (suc k) v h at = int_at vs k v (both (is_int w) (list_all is_int vs) h).1 at

module _ (activations : List Activation) (input : List ℕ) (body : ℕ → List ℤ → Outcome) (bytes : All (λ byte. byte < 256) input)
    (gives : (a : ℕ) (inputs : List ℤ) → a < length activations → AreInts inputs → AreInts (body a inputs).outputs) where
  abbrev reads : ℕ → List Source
  reads = stream_reads activations input

  -- what each activation wrote by a state are `int`s
  abbrev StateInts : State → Type 0
  StateInts s = (a : ℕ) (o : Outcome) → outcome_at s a ≡ Some o → AreInts o.outputs

  source-fits : (place : Place) → SourceFits (stream_source activations input place)
  source-fits place = by (place.stream == 0)
    where
      from_input : (o : Option ℕ) → slice_get input place.position ≡ o → SourceFits (option_map_or (λ byte. initial (Value (pos byte))) o elements.nobody)
      from_input None is = tt
      from_input (Some byte) is =
          let small : byte < 256 =
          subst (λ b. b < 256) (get_or_from_slice_get input place.position byte byte is)
          (All-get_or (λ b. b < 256) input place.position byte (slice_get_within input place.position byte is) bytes) in
          lt-ltb byte (2 ^ 31) (omega (arith, small))

      from_writer : (o : Option Window) → SourceFits (option_map_or (λ (w : Window). fed w.activation (w.offset + (place.position - w.first))) o elements.nobody)
      from_writer None = tt
      from_writer (Some w) = tt

      by : (b : Bool) → SourceFits (cond b (input_source input place.position)
          (option_map_or (λ (w : Window). fed w.activation (w.offset + (place.position - w.first))) (producer activations place.stream place.position) elements.nobody))
      by true = from_input (slice_get input place.position) refl
      by false = from_writer (producer activations place.stream place.position)

  written-fits : (root : Option ℕ) (outputs : List ℤ) (place : ℕ) (e : Elem) → AreInts outputs → output_element root outputs place ≡ Some e → ElemFits e
  written-fits (Some root) outputs place (Value v) h is = absurd (cc)
  written-fits (Some root) outputs place (Poison r) h is = tt
  written-fits None outputs place (Poison r) h is = tt
  written-fits None outputs place (Value v) h is = by (slice_get outputs place) refl is
    where
      by : (o : Option ℤ) → slice_get outputs place ≡ o → option_map Value o ≡ Some (Value v) → is_int v ≡ true
      by None at same = absurd (cc)
      by (Some w) at same = let e : w ≡ v = cc in int_at outputs place v h (at ∙ ap Some e)

  element-fits : (s : State) → StateInts s → (source : Source) → SourceFits source → (e : Elem) → stream_element s source ≡ Some e → ElemFits e
  element-fits s h (initial d) fits e is = subst ElemFits (let same : d ≡ e = cc in same) fits
  element-fits s h elements.nobody fits e is = absurd (cc)
  element-fits s h (fed a place) fits e is = by (outcome_at s a) refl is
    where
      by : (o : Option Outcome) → outcome_at s a ≡ o → option_and_then (λ (q : Outcome). elements.element_written a q place) o ≡ Some e → ElemFits e
      by None at same = absurd (cc)
      by (Some o) at same = written-fits (root_of a o.end) o.outputs place e (h a o at) same

  gathered-fits : (s : State) → StateInts s → (places : List Place) (es : List Elem)
      → gathered (map (stream_element s) (map (stream_source activations input) places)) ≡ Some es → AreInts (values_of es)
  gathered-fits s h places es is = values-fit (map (stream_element s) (map (stream_source activations input) places)) es (all places) is
    where
      one : (place : Place) (o : Option Elem) → stream_element s (stream_source activations input place) ≡ o → FitsIfThere o
      one place None at = tt
      one place (Some e) at = element-fits s h (stream_source activations input place) (source-fits place) e at

      all : (ps : List Place) → All FitsIfThere (map (stream_element s) (map (stream_source activations input) ps))
      all [] = All-nil FitsIfThere
      all (p ∷ ps) =
          All-cons FitsIfThere (stream_element s (stream_source activations input p)) (map (stream_element s) (map (stream_source activations input) ps))
          (one p (stream_element s (stream_source activations input p)) refl) (all ps)

  -- what an activation comes to
  outcome-fits : (a : ℕ) (es : List Elem) → a < length activations → AreInts (values_of es) → AreInts (poisoning body a es).outputs
  outcome-fits a es lt h = by (least_root es)
    where
      by : (root : Option ℕ) → AreInts (option_map_or (λ (r : ℕ). outcome_of (Poisoned r) []) root (body a (values_of es))).outputs
      by None = gives a (values_of es) lt h
      by (Some r) = refl

  abbrev state : ℕ → State
  state n = after stream_element (stream_reads activations input) (poisoning body) (length activations) n

  -- after any number of rounds
  all_rounds : (n : ℕ) → StateInts (state n)
  all_rounds zero a o is =
      absurd (let never : None ≡ Some o = sym (outcome_at-start stream_element (stream_reads activations input) (poisoning body) (length activations) a) ∙ is in cc)
  all_rounds (suc n) a o is =
      step (state n) (all_rounds n) (length-after stream_element (stream_reads activations input) (poisoning body) (length activations) n) a o
      (ap (λ (t : State). outcome_at t a) (sym (after-suc stream_element (stream_reads activations input) (poisoning body) (length activations) n)) ∙ is)
    where
      step : (s : State) → StateInts s → length s ≡ length activations → (a : ℕ) (o : Outcome)
          → outcome_at (round stream_element (stream_reads activations input) (poisoning body) s) a ≡ Some o → AreInts o.outputs
      step s h long a o is = by_place (cases_lt a (length s))
        where
          by_inputs : (i : Option (List Elem)) → inputs_in stream_element (stream_reads activations input) s a ≡ i → a < length activations
              → option_map (poisoning body a) i ≡ Some o → AreInts o.outputs
          by_inputs None read lt same = absurd (cc)
          by_inputs (Some es) read lt same =
              subst (λ (q : Outcome). AreInts q.outputs) (same_Some (poisoning body a es) o same)
              (outcome-fits a es lt (gathered-fits s h (input_places activations a) es read))

          by_old : (old : Option Outcome) → outcome_at s a ≡ old → a < length activations
              → option_or old (option_map (poisoning body a) (inputs_in stream_element (stream_reads activations input) s a)) ≡ Some o → AreInts o.outputs
          by_old (Some q) at lt same = subst (λ (r : Outcome). AreInts r.outputs) (same_Some q o same) (h a q at)
          by_old None at lt same = by_inputs (inputs_in stream_element (stream_reads activations input) s a) refl lt same

          by_place : (a < length s) ⊎ (length s ≤ a) → AreInts o.outputs
          by_place (inl lt) =
              by_old (outcome_at s a) refl (omega (arith, lt, long))
              (sym (outcome_at-round stream_element (stream_reads activations input) (poisoning body) s a lt) ∙ is)
          by_place (inr ge) =
              absurd (let never : None ≡ Some o =
              sym (outcome_at_past (round stream_element (stream_reads activations input) (poisoning body) s) a
              (subst (λ n. n ≤ a) (sym (length-round stream_element (stream_reads activations input) (poisoning body) s)) ge)) ∙ is in cc)

  read_ints : (a : ℕ) (es : List Elem) → inputs_in stream_element (stream_reads activations input) (stream_meaning activations input body) a ≡ Some es
      → AreInts (values_of es)
  unfolding meaning
  read_ints a es is = gathered-fits (state (length activations)) (all_rounds (length activations)) (input_places activations a) es is

pub reads_ints : ReadsInts
reads_ints activations input body bytes gives a es is = read_ints activations input body bytes gives a es is
