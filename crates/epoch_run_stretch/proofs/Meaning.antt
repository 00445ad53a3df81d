-- What is held of the activations that ran is what all mean.
use Rattle.std.proofs.Common.{◌≡◌, ℕ, zero, suc, ◌+◌, ◌<◌, ◌≤◌, List, [], ◌++◌, Option, Some, None, take, drop, length, get_or, sym, ap, ◌∙◌, subst, ◌⊎◌, inl, inr, arith, ℤ}
use Rattle.std.specs.Prelude.{slice_index, slice_index_or}
use Rattle.std.proofs.lemmas.Bool.{cases_lt}
use Rattle.std.proofs.lemmas.List.{get_or-drop, get_or-map, get_or_past, take-append-drop}
use Rattle.std.proofs.lemmas.List.FromFn.{get_or-map-range_with_len, length-map-range_with_len}
use Rattle.flow_core_laws.specs.declared.activation.Activation.{Activation}
use Rattle.flow_core_laws.specs.declared.elem.Elem.{Elem}
use Rattle.flow_core_laws.specs.declared.outcome.Outcome.{Outcome}
use Rattle.flow_core_laws.specs.declared.place.Place.{Place}
use Rattle.flow_core_laws.specs.declared.task_end.TaskEnd.{TaskEnd}
use Rattle.flow_core_laws.specs.Outcome.{State}
use Rattle.flow_core_laws.specs.Place.{places_from, written_count}
use Rattle.flow_core_laws.specs.Streams.{own_number, stream_element, stream_meaning, stream_source}
use Rattle.flow_core_laws.proofs.Elements.{element_kept}
use Rattle.flow_core_epochs.proofs.Prefixes.{element_more, prefix_extends}
use Rattle.epoch_run_in_order_laws.specs.InOrder.{elements_on}
use Rattle.epoch_run_in_order_laws.proofs.Apart.{length-elements_on}
use Rattle.epoch_run_batches.specs.Meant.{HoldMeant, Run, element_meant}
use Rattle.epoch_run_batches.specs.declared.streams.Streams.{Streams}
use Rattle.epoch_run_stretch.specs.Gathered.{HoldAll, IsCleared}

-- the input has its bytes elsewhere
pub cleared_holds : (activations : List Activation) (input : List ℕ) (body : ℕ → List ℤ → Outcome) (ends : List (Option TaskEnd)) (before after : List (List (Option Elem))) (firsts : List ℕ)
    → IsCleared before after → HoldAll activations input body ends before firsts → HoldAll activations input body ends after firsts
cleared_holds activations input body ends before after firsts cleared held = record {
  ends_are = held.ends_are;
  have_ended = held.have_ended;
  hold = record {
    as_many = held.hold.as_many ∙ sym cleared.as_many;
    has_output = omega (arith, held.hold.has_output, cleared.as_many);
    are_theirs = λ s some lt. cleared.others s some ∙ held.hold.are_theirs s some (omega (arith, lt, cleared.as_many));
    are_claimed = λ s lt. held.hold.are_claimed s (omega (arith, lt, cleared.as_many));
    are_read_no_more = λ s lt. held.hold.are_read_no_more s (omega (arith, lt, cleared.as_many));
    output_is_whole = held.hold.output_is_whole;
  };
}

-- an element of the first activations is one of all
element_stays : (first_ones later : List Activation) (input : List ℕ) (body : ℕ → List ℤ → Outcome) (p : Place) (e : Elem)
    → stream_element (stream_meaning first_ones input body) (stream_source first_ones input p) ≡ Some e
    → stream_element (stream_meaning (first_ones ++ later) input body) (stream_source (first_ones ++ later) input p) ≡ Some e
element_stays first_ones later input body p e h =
    let earlier = stream_meaning first_ones input body in
    let whole = stream_meaning (first_ones ++ later) input body in
    element_kept own_number earlier whole (prefix_extends first_ones later input body).kept (stream_source (first_ones ++ later) input p) e
    (element_more first_ones later input earlier p e h)

module _ (run : Run) (m : ℕ) (ends : List (Option TaskEnd)) (streams : Streams)
    (held : HoldAll (take m run.activations) run.input run.body ends streams.elements streams.firsts) (cleared : slice_index_or streams.elements 0 [] ≡ []) where
  abbrev first_ones : List Activation
  first_ones = take m run.activations

  abbrev earlier : State
  earlier = stream_meaning first_ones run.input run.body

  abbrev place : ℕ → ℕ → Place
  place s position = record { stream = s; position = position }

  abbrev element_at : Place → Option Elem
  element_at p = stream_element earlier (stream_source first_ones run.input p)

  -- an element that is held
  held_at : (s k : ℕ) (e : Elem) → 1 ≤ s → s < length streams.elements → slice_index_or (slice_index_or streams.elements s []) k None ≡ Some e
      → element_at (place s (slice_index streams.firsts s + k)) ≡ Some e
  held_at s k e some lt is = by (cases_lt (first + k) n)
    where
      first : ℕ
      first = slice_index streams.firsts s

      n : ℕ
      n = written_count first_ones s

      all : List (Option Elem)
      all = elements_on first_ones run.input earlier s

      there : get_or all (first + k) None ≡ Some e
      there = sym (ap (λ (es : List (Option Elem)). get_or es k None) (held.hold.are_theirs s some lt) ∙ get_or-drop first all k None) ∙ is

      by : (first + k < n) ⊎ (n ≤ first + k) → element_at (place s (first + k)) ≡ Some e
      by (inl within) =
          sym (get_or-map element_at (places_from s 0 n) (first + k) (place s 0) None (omega (arith, within, length-map-range_with_len (place s) 0 n))
          ∙ ap element_at (get_or-map-range_with_len (place s) 0 n (first + k) (first + k) (place s 0) within (omega arith)))
          ∙ there
      by (inr past) =
          let none : get_or all (first + k) None ≡ None = get_or_past all (first + k) None (omega (arith, past, length-elements_on first_ones run.input earlier s)) in
          let no : None ≡ Some e = sym none ∙ there in
          absurd (cc)

  pub holds_meant : HoldMeant run streams
  holds_meant s k e is = by s is (cases_lt s (length streams.elements))
    where
      Goal : ℕ → Type 0
      Goal t = element_meant run t (slice_index streams.firsts t + k) ≡ Some e

      of_stream : (t : ℕ) → 1 ≤ t → t < length streams.elements → slice_index_or (slice_index_or streams.elements t []) k None ≡ Some e → Goal t
      of_stream t some lt at =
          subst (λ (xs : List Activation). stream_element (stream_meaning xs run.input run.body) (stream_source xs run.input (place t (slice_index streams.firsts t + k))) ≡ Some e)
          (take-append-drop m run.activations)
          (element_stays first_ones (drop m run.activations) run.input run.body (place t (slice_index streams.firsts t + k)) e (held_at t k e some lt at))

      by : (t : ℕ) → slice_index_or (slice_index_or streams.elements t []) k None ≡ Some e → (t < length streams.elements) ⊎ (length streams.elements ≤ t) → Goal t
      by t at (inr past) =
          let none : slice_index_or streams.elements t [] ≡ [] = get_or_past streams.elements t [] past in
          let no : None ≡ Some e = sym (ap (λ (es : List (Option Elem)). slice_index_or es k None) none) ∙ at in
          absurd (cc)
      by zero at (inl lt) =
          let no : None ≡ Some e = sym (ap (λ (es : List (Option Elem)). slice_index_or es k None) cleared) ∙ at in
          absurd (cc)
      by (suc t) at (inl lt) = of_stream (suc t) (omega arith) lt at
