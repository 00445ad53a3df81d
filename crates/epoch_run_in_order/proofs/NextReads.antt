-- What the next activation reads of what streams hold.
use Rattle.std.proofs.Common.{◌≡◌, ℕ, ◌+◌, ◌-◌, ◌<◌, ◌≤◌, List, [], ◌∷◌, ◌++◌, Option, Some, None, Bool, true, false, cond, map, length, get_or, drop, pos, refl, sym, ap, ◌∙◌, ◌⊎◌, inl, inr, arith}
use Rattle.std.specs.Prelude.{slice_get, filter, not, nat_le, ◌==◌}
use Rattle.std.specs.Option.{option_map, option_map_or}
use Rattle.std.specs.List.{flat_map, range_with_len}
use Rattle.std.proofs.lemmas.Bool.{cases_lt}
use Rattle.std.proofs.lemmas.Bool.Decides.{nat_tests}
use Rattle.std.proofs.lemmas.List.{get_or-drop, get_or_past, length-map, map-append}
use Rattle.std.proofs.lemmas.List.FromFn.{get_or-map-range_with_len, length-map-range_with_len}
use mathlib.Core.List.{map-map}
use Rattle.flow_core_laws.specs.declared.activation.Activation.{Activation}
use Rattle.flow_core_laws.specs.declared.elem.Elem.{Elem}
use Rattle.flow_core_laws.specs.declared.elem.Elem.TheVariants.{Value}
use Rattle.flow_core_laws.specs.declared.place.Place.{Place}
use Rattle.flow_core_laws.specs.Element.{initial, nobody}
use Rattle.flow_core_laws.specs.Outcome.{State}
use Rattle.flow_core_laws.specs.Place.{input_places, places_of, written_count}
use Rattle.flow_core_laws.specs.Poisoning.{values_of}
use Rattle.flow_core_laws.specs.Round.{gathered}
use Rattle.flow_core_laws.specs.Streams.{input_source, produced_source, stream_element, stream_source}
use Rattle.flow_core_laws.specs.Window.{Window, windows_of}
use Rattle.flow_core_laws.proofs.Gathering.{gathered-weaker, length-gathered}
use Rattle.flow_core_laws.proofs.Roots.{others_are_values}
use Rattle.epoch_run_in_order_laws.specs.InOrder.{elements_on, next_reads}
use Rattle.stream_match_layouts.specs.declared.span.Span.{Span}
use Rattle.stream_match_layouts.specs.Layout.{span_of}
use Rattle.epoch_run_in_order.specs.declared.inputs.Inputs.{Inputs}
use Rattle.epoch_run_in_order.specs.declared.streams.Streams.{Streams}
use Rattle.epoch_run_in_order.specs.Reading.{AreRead, covered, covered_by, values_in}
use Rattle.epoch_run_in_order.specs.Streams.{elements_of, first_of, held_at, input_at}

-- the element that is held at a place
abbrev pub held_in : Streams → List ℕ → Place → Option Elem
held_in streams input p = held_at streams input p.stream p.position

abbrev reads : Window → Bool
reads w = not w.claim.write

-- what spans read, place by place
read_places : (streams : Streams) (input : List ℕ) (ws : List Window) → covered_by streams input (map span_of ws) ≡ map (held_in streams input) (flat_map places_of (filter reads ws))
read_places streams input [] = refl
read_places streams input (w ∷ ws) = by w.claim.write (read_places streams input ws)
  where
    rest : List Place
    rest = flat_map places_of (filter reads ws)

    by : (b : Bool) → covered_by streams input (map span_of ws) ≡ map (held_in streams input) (flat_map places_of (filter reads ws))
        → flat_map (covered streams input) (cond (not b) (span_of w ∷ filter (λ (s : Span). not s.write) (map span_of ws)) (filter (λ (s : Span). not s.write) (map span_of ws)))
        ≡ map (held_in streams input) (flat_map places_of (cond (not b) (w ∷ filter reads ws) (filter reads ws)))
    by true h = h
    by false h =
        ap (λ xs. covered streams input (span_of w) ++ xs) h
        ∙ ap (λ xs. xs ++ map (held_in streams input) rest) (sym (map-map (held_in streams input) (λ position. record { stream = w.claim.stream; position = position }) (range_with_len w.first w.claim.horizon)))
        ∙ sym (map-append (held_in streams input) (places_of w) rest)

pub next_places : (streams : Streams) (input : List ℕ) (activations : List Activation) (a : ℕ) → covered_by streams input (map span_of (windows_of activations a)) ≡ map (held_in streams input) (input_places activations a)
unfolding input_places
next_places streams input activations a = read_places streams input (windows_of activations a)

-- an element at a place of a list that holds a stream from a position on
on_list : (f : Place → Option Elem) (xs : List (Option Elem)) (stream first count position : ℕ) (e : Elem)
    → xs ≡ drop first (map f (map (λ at. record { stream = stream; position = at }) (range_with_len 0 count)))
    → first ≤ position → get_or xs (position - first) None ≡ Some e → f (record { stream = stream; position = position }) ≡ Some e
on_list f xs stream first count position e is le at = by (cases_lt position count)
  where
    mk : ℕ → Place
    mk at = record { stream = stream; position = at }

    all : List (Option Elem)
    all = map f (map mk (range_with_len 0 count))

    there : get_or all position None ≡ Some e
    there = ap (λ n. get_or all n None) (let s : position ≡ first + (position - first) = omega arith in s) ∙ sym (get_or-drop first all (position - first) None) ∙ ap (λ ys. get_or ys (position - first) None) (sym is) ∙ at

    one : all ≡ map (λ n. f (mk n)) (range_with_len 0 count)
    one = map-map f mk (range_with_len 0 count)

    by : (position < count) ⊎ (count ≤ position) → f (mk position) ≡ Some e
    by (inl lt) = sym (get_or-map-range_with_len (λ n. f (mk n)) 0 count position position None lt (zero-plus position)) ∙ ap (λ ys. get_or ys position None) (sym one) ∙ there
      where
        zero-plus : (n : ℕ) → 0 + n ≡ n
        zero-plus n = omega arith
    by (inr ge) =
        let none : get_or all position None ≡ None = get_or_past all position None (omega (arith, ap length one, length-map-range_with_len (λ n. f (mk n)) 0 count)) in
        let some : get_or all position None ≡ Some e = there in
        absurd (cc)

module _ (streams : Streams) (before : List Activation) (input : List ℕ) (state : State)
    (are_theirs : (stream : ℕ) → 1 ≤ stream → stream < length streams.elements → elements_of streams stream ≡ drop (first_of streams stream) (elements_on before input state stream)) where
  abbrev here : Place → Option Elem
  here p = stream_element state (stream_source before input p)

  -- what is held is there
  held_is_there : (p : Place) (e : Elem) → held_in streams input p ≡ Some e → here p ≡ Some e
  held_is_there p e = by_stream (p.stream == 0) refl
    where
      by_byte : (o : Option ℕ) → option_map (λ byte. Value (pos byte)) o ≡ Some e → stream_element state (option_map_or (λ byte. initial (Value (pos byte))) o nobody) ≡ Some e
      by_byte None h = absurd (cc)
      by_byte (Some byte) h = h

      by_first : (b : Bool) → nat_le (first_of streams p.stream) p.position ≡ b → 1 ≤ p.stream → cond b (get_or (elements_of streams p.stream) (p.position - first_of streams p.stream) None) None ≡ Some e → here p ≡ Some e
      by_first false is some h = absurd (cc)
      by_first true is some h = by_list (cases_lt p.stream (length streams.elements))
        where
          by_list : (p.stream < length streams.elements) ⊎ (length streams.elements ≤ p.stream) → here p ≡ Some e
          by_list (inl lt) = on_list here (elements_of streams p.stream) p.stream (first_of streams p.stream) (written_count before p.stream) p.position e
              (are_theirs p.stream some lt ∙ ap (drop (first_of streams p.stream)) (sym (map-here p.stream (written_count before p.stream)))) (grind (arith, nat_tests)) h
            where
              map-here : (s n : ℕ) → map here (map (λ at. record { stream = s; position = at }) (range_with_len 0 n)) ≡ map (λ (q : Place). stream_element state (stream_source before input q)) (map (λ at. record { stream = s; position = at }) (range_with_len 0 n))
              map-here s n = refl
          by_list (inr ge) =
              let none : elements_of streams p.stream ≡ [] = get_or_past streams.elements p.stream [] ge in
              let no : get_or (elements_of streams p.stream) (p.position - first_of streams p.stream) None ≡ None = ap (λ xs. get_or xs (p.position - first_of streams p.stream) None) none in
              absurd (cc)

      by_stream : (b : Bool) → (p.stream == 0) ≡ b → cond b (input_at input p.position) (cond (nat_le (first_of streams p.stream) p.position) (get_or (elements_of streams p.stream) (p.position - first_of streams p.stream) None) None) ≡ Some e
          → here p ≡ Some e
      by_stream true is h = ap (λ b. stream_element state (cond b (input_source input p.position) (produced_source before p.stream p.position))) is ∙ by_byte (slice_get input p.position) h
      by_stream false is h = by_first (nat_le (first_of streams p.stream) p.position) refl (grind (arith, nat_tests)) h

  -- so what the next activation reads there is what it reads in the state
  pub next_reads_there : (next : Activation) (elements : List Elem) → gathered (covered_by streams input (map span_of (windows_of (before ++ next ∷ []) (length before)))) ≡ Some elements
      → gathered (next_reads before next input state) ≡ Some elements
  next_reads_there next elements h =
      gathered-weaker (held_in streams input) here held_is_there (input_places (before ++ next ∷ []) (length before)) elements (ap gathered (sym (next_places streams input (before ++ next ∷ []) (length before))) ∙ h)

-- where nothing that was read is poison there are as many values as elements
pub values_count : (cells : List (Option Elem)) (inputs : Inputs) → AreRead cells inputs → inputs.root ≡ None → length (values_in inputs) ≡ length cells
values_count cells inputs read none =
    let values : read.elements ≡ map Value (values_of read.elements) = others_are_values read.elements (sym read.root_is ∙ none) in
    ap length read.values_are ∙ sym (length-map (values_of read.elements) Value) ∙ sym (ap length values) ∙ length-gathered cells read.elements read.are_there
