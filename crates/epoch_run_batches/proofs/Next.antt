-- An activation whose inputs were read: what it takes, what it comes to, and what it writes.
use Rattle.std.proofs.Common.{◌≡◌, ℕ, ℤ, ◌+◌, ◌<◌, List, [], ◌∷◌, ◌++◌, Option, Some, None, Bool, true, false, cond, map, length, get_or, take, refl, sym, ap, ◌∙◌, subst, arith, zero-add}
use Rattle.std.specs.Prelude.{slice_get, filter, not, sum_by}
use Rattle.std.specs.Option.{option_map, option_map_or}
use Rattle.std.specs.List.{flat_map, range_with_len}
use Rattle.std.proofs.lemmas.List.{get_or-map, length-map, map-append}
use Rattle.std.proofs.lemmas.List.FromFn.{get_or-map-range_with_len}
use Rattle.std.proofs.lemmas.Option.{get_or_from_slice_get, slice_get-get_or, slice_get_within}
use mathlib.Core.List.{map-map}
use Rattle.flow_core_epochs.specs.Epoch.{ServesAll}
use Rattle.flow_core_laws.specs.declared.activation.Activation.{Activation}
use Rattle.flow_core_laws.specs.declared.claim.Claim.{Claim}
use Rattle.flow_core_laws.specs.declared.elem.Elem.TheVariants.{Value}
use Rattle.flow_core_laws.specs.declared.outcome.Outcome.{Outcome}
use Rattle.flow_core_laws.specs.declared.place.Place.{Place}
use Rattle.flow_core_laws.specs.declared.task_end.TaskEnd.{TaskEnd}
use Rattle.flow_core_laws.specs.declared.task_end.TaskEnd.TheVariants.{Done, Trapped, OverBudget, Poisoned}
use Rattle.flow_core_laws.specs.Element.{output_element}
use Rattle.flow_core_laws.specs.Outcome.{outcome_at, outcome_of, root_of}
use Rattle.flow_core_laws.specs.Place.{input_places, places_of}
use Rattle.flow_core_laws.specs.Poisoning.{poisoning, values_of}
use Rattle.flow_core_laws.specs.Round.{gathered}
use Rattle.flow_core_laws.specs.Streams.{output_count}
use Rattle.flow_core_laws.specs.Window.{Window, claim_at, claims_at, claims_of, window_of, windows_of}
use Rattle.flow_core_laws.proofs.Gathering.{length-gathered}
use Rattle.flow_core_laws.proofs.Roots.{others_are_values}
use Rattle.flow_core_laws.proofs.There.{offset_within}
use Rattle.flow_core_laws.proofs.Windows.{claims_at-slice_get, length-windows_behind}
use Rattle.stream_match_layouts.specs.declared.span.Span.{Span}
use Rattle.stream_match_layouts.specs.Layout.{span_of}
use Rattle.stream_match_layouts.specs.Spans.{write_count}
use Rattle.stream_match_layouts.proofs.FrameSpans.{claims_in-windows_of, written_spans}
use Rattle.epoch_run_batches.specs.declared.inputs.Inputs.{Inputs}
use Rattle.epoch_run_batches.specs.Meant.{Run, element_meant, meant}
use Rattle.epoch_run_batches.specs.Reads.{AreRead, covered, covered_by, values_in}
use Rattle.epoch_run_batches.specs.Workload.{AreSpansOf, HasOutcome}
use Rattle.epoch_run_batches.specs.Writes.{AreWritten, HaveOutputs}
use Rattle.epoch_run_batches.proofs.Meanings.{among_windows, place_meant, settles, writes}

abbrev reads : Window → Bool
reads w = not w.claim.write

-- what spans read, place by place
read_places : (run : Run) (ws : List Window) → covered_by run (map span_of ws) ≡ map (place_meant run) (flat_map places_of (filter reads ws))
read_places run [] = refl
read_places run (w ∷ ws) = by w.claim.write (read_places run ws)
  where
    rest : List Place
    rest = flat_map places_of (filter reads ws)

    by : (b : Bool) → covered_by run (map span_of ws) ≡ map (place_meant run) (flat_map places_of (filter reads ws))
        → flat_map (covered run) (cond (not b) (span_of w ∷ filter (λ (s : Span). not s.write) (map span_of ws)) (filter (λ (s : Span). not s.write) (map span_of ws)))
        ≡ map (place_meant run) (flat_map places_of (cond (not b) (w ∷ filter reads ws) (filter reads ws)))
    by true h = h
    by false h =
        ap (λ xs. covered run (span_of w) ++ xs) h
        ∙ ap (λ xs. xs ++ map (place_meant run) rest) (sym (map-map (place_meant run) (λ position. record { stream = w.claim.stream; position = position }) (range_with_len w.first w.claim.horizon)))
        ∙ sym (map-append (place_meant run) (places_of w) rest)

places_read : (run : Run) (a : ℕ) → covered_by run (map span_of (windows_of run.activations a)) ≡ map (place_meant run) (input_places run.activations a)
unfolding input_places
places_read run a = read_places run (windows_of run.activations a)

module _ (run : Run) (number : ℕ) (spans : List Span) (are : AreSpansOf run number spans) where
  covered_places : covered_by run spans ≡ map (place_meant run) (input_places run.activations number)
  covered_places = ap (covered_by run) are.are_theirs ∙ places_read run number

  -- it comes to what poison it reads, or its body makes of the values
  pub comes : (inputs : Inputs) (read : AreRead (covered_by run spans) inputs) → outcome_at (meant run) number ≡ Some (poisoning run.body number read.elements)
  comes inputs read = settles run number read.elements are.exists (ap gathered (sym covered_places) ∙ read.are_there)

  pub comes_poisoned : (inputs : Inputs) (read : AreRead (covered_by run spans) inputs) (root : ℕ) (outputs : List ℤ) → inputs.root ≡ Some root → HasOutcome run number (Poisoned root) outputs
  comes_poisoned inputs read root outputs is = record {
    outcome = outcome_of (Poisoned root) [];
    is_meant = comes inputs read ∙ ap (λ o. Some (option_map_or (λ (r : ℕ). outcome_of (Poisoned r) []) o (run.body number (values_of read.elements)))) (sym read.root_is ∙ is);
    end_is = refl;
    outputs_are = λ e. absurd (cc);
  }

  pub comes_by_body : (inputs : Inputs) (read : AreRead (covered_by run spans) inputs) (body : ℕ → List ℤ → Outcome) (end : TaskEnd) (outputs : List ℤ) → inputs.root ≡ None → body ≡ run.body
      → end ≡ (body number (values_in inputs)).end → (end ≡ Done → outputs ≡ (body number (values_in inputs)).outputs) → HasOutcome run number end outputs
  comes_by_body inputs read body end outputs none body_is end_is outputs_are = record {
    outcome = body number (values_in inputs);
    is_meant = comes inputs read
        ∙ ap (λ o. Some (option_map_or (λ (r : ℕ). outcome_of (Poisoned r) []) o (run.body number (values_of read.elements)))) (sym read.root_is ∙ none)
        ∙ ap (λ vs. Some (run.body number vs)) (sym read.values_are)
        ∙ ap (λ (b : ℕ → List ℤ → Outcome). Some (b number (values_in inputs))) (sym body_is);
    end_is = end_is;
    outputs_are = outputs_are;
  }

  -- where nothing is poison it reads as many values as it has inputs
  pub as_many_values : (inputs : Inputs) → AreRead (covered_by run spans) inputs → inputs.root ≡ None → length (values_in inputs) ≡ length (input_places run.activations number)
  as_many_values inputs read none =
      let values : read.elements ≡ map Value (values_of read.elements) = others_are_values read.elements (sym read.root_is ∙ none) in
      ap length read.values_are
      ∙ sym (length-map (values_of read.elements) Value)
      ∙ sym (ap length values)
      ∙ length-gathered (covered_by run spans) read.elements read.are_there
      ∙ ap length covered_places
      ∙ length-map (input_places run.activations number) (place_meant run)

  -- it writes as many elements as it has outputs
  all_written : sum_by write_count spans ≡ sum_by (λ (c : Claim). c.horizon) (filter (λ (c : Claim). c.write) (claims_at run.activations number))
  all_written =
      ap (sum_by write_count) are.are_theirs
      ∙ written_spans (windows_of run.activations number)
      ∙ ap (λ cs. sum_by (λ (c : Claim). c.horizon) (filter (λ (c : Claim). c.write) cs)) (claims_in-windows_of run.activations number)

  pub as_many_outputs : (x : Activation) → slice_get run.activations number ≡ Some x → sum_by write_count spans ≡ output_count x
  as_many_outputs x at = all_written ∙ ap (λ cs. sum_by (λ (c : Claim). c.horizon) (filter (λ (c : Claim). c.write) cs)) (claims_at-slice_get run.activations number x at)

  no_activation : Activation
  no_activation = record { site = 0; captured = []; claims = [] }

  -- its body takes it
  pub taken : (takes : ℕ → ℕ → ℕ → Type 0) (inputs : Inputs) (outputs : ℕ) → ServesAll run.activations run.body takes → AreRead (covered_by run spans) inputs → inputs.root ≡ None
      → outputs ≡ sum_by write_count spans → takes number (length (values_in inputs)) outputs
  taken takes inputs outputs serves read none outputs_are =
      let x = get_or run.activations number no_activation in
      let at : slice_get run.activations number ≡ Some x = slice_get-get_or run.activations number no_activation are.exists in
      subst (λ n. takes number n outputs) (sym (as_many_values inputs read none))
      (subst (takes number (length (input_places run.activations number))) (sym (outputs_are ∙ as_many_outputs x at)) (serves.takes_each number x at))

  -- the window of a span
  record HasWindow (j : ℕ) (s : Span) : Type 0 where
    window : Window
    at : slice_get (windows_of run.activations number) j ≡ Some window
    is : s ≡ span_of window
    same : window ≡ window_of number (claims_of (take number run.activations)) (claims_at run.activations number) j
    within : j < length (claims_at run.activations number)

  has_window : (j : ℕ) (s : Span) → slice_get spans j ≡ Some s → HasWindow j s
  has_window j s at =
      let ws = windows_of run.activations number in
      let cs = claims_at run.activations number in
      let lt : j < length spans = slice_get_within spans j s at in
      let size : length ws ≡ length cs = length-windows_behind number (claims_of (take number run.activations)) cs in
      let within : j < length ws = omega (arith, lt, ap length are.are_theirs, length-map ws span_of) in
      let w : Window = window_of number (claims_of (take number run.activations)) cs j in
      let here : get_or ws j w ≡ w = get_or-map-range_with_len (window_of number (claims_of (take number run.activations)) cs) 0 (length cs) j j w (omega (arith, within, size)) (zero-add j) in
      record {
        window = w;
        at = slice_get-get_or ws j w within ∙ ap Some here;
        is = sym (get_or_from_slice_get spans j s s at) ∙ ap (λ ss. get_or ss j s) are.are_theirs ∙ get_or-map span_of ws j w s within ∙ ap span_of here;
        same = refl;
        within = omega (arith, within, size);
      }

  -- an end without a root is Done
  no_root : (end : TaskEnd) → root_of number end ≡ None → end ≡ Done
  no_root Done e = refl
  no_root (Trapped code line) e = absurd (cc)
  no_root OverBudget e = absurd (cc)
  no_root (Poisoned root) e = absurd (cc)

  -- where nothing is poisoned its outputs have what it writes
  pub have_outputs : (end : TaskEnd) (root : Option ℕ) (outputs : List ℤ) → root ≡ root_of number end → (end ≡ Done → length outputs ≡ sum_by write_count spans) → HaveOutputs root outputs spans
  unfolding has_window
  have_outputs end root outputs root_is room j s at none write =
      let h = has_window j s at in
      let cs = claims_at run.activations number in
      let is_write : (claim_at cs j).write ≡ true = ap (λ (t : Span). t.write) (sym h.is) ∙ write in
      let fits = offset_within cs j h.within is_write in
      let o = ap (λ (t : Span). t.offset) h.is in
      let n = ap (λ (t : Span). t.count) h.is in
      omega (arith, fits, all_written, room (no_root end (sym root_is ∙ none)), o, n)

  -- what is written is the same where nothing is read of the outputs
  same_written : (end : TaskEnd) (xs ys : List ℤ) (place : ℕ) → (end ≡ Done → xs ≡ ys) → output_element (root_of number end) ys place ≡ output_element (root_of number end) xs place
  same_written Done xs ys place same = ap (λ (vs : List ℤ). output_element None vs place) (sym (same refl))
  same_written (Trapped code line) xs ys place same = refl
  same_written OverBudget xs ys place same = refl
  same_written (Poisoned root) xs ys place same = refl

  -- streams mean what it writes
  pub are_written : (end : TaskEnd) (root : Option ℕ) (outputs : List ℤ) → HasOutcome run number end outputs → root ≡ root_of number end → AreWritten run root outputs spans
  unfolding has_window
  are_written end root outputs come root_is j s at write other k lt =
      let h = has_window j s at in
      let w = h.window in
      let i = among_windows run run.activations number j w are.exists h.at in
      let stream = ap (λ (t : Span). t.stream) h.is in
      let first = ap (λ (t : Span). t.first) h.is in
      let offset = ap (λ (t : Span). t.offset) h.is in
      let count = ap (λ (t : Span). t.count) h.is in
      let theirs = writes run i.0 k w come.outcome i.1 (ap (λ (t : Span). t.write) (sym h.is) ∙ write) (λ e. other (stream ∙ e)) come.is_meant (omega (arith, count, lt)) in
      ap (λ (t : Span). element_meant run t.stream (t.first + k)) h.is
      ∙ theirs
      ∙ ap (λ e. output_element (root_of number e) come.outcome.outputs (w.offset + k)) (sym come.end_is)
      ∙ same_written end outputs come.outcome.outputs (w.offset + k) come.outputs_are
      ∙ ap (λ r. output_element r outputs (w.offset + k)) (sym root_is)
      ∙ ap (λ n. output_element root outputs (n + k)) (sym offset)

  pub ends : (end : TaskEnd) (outputs : List ℤ) → HasOutcome run number end outputs → option_map (λ (o : Outcome). o.end) (outcome_at (meant run) number) ≡ Some end
  ends end outputs come = ap (option_map (λ (o : Outcome). o.end)) come.is_meant ∙ ap Some (sym come.end_is)
