-- Where a run apart from the activations before it stands behind its next activation, and where it begins.
use Rattle.std.proofs.Common.{◌≡◌, ℕ, ℤ, ◌+◌, ◌-◌, ◌<◌, ◌≤◌, List, [], ◌∷◌, ◌++◌, Option, Some, None, IsSome, Bool, true, false, cond, map, length, get_or, take, drop, replicate, zero, suc, refl, sym, ap, ◌∙◌, subst, arith, rules}
use Rattle.std.specs.Prelude.{All, filter, slice_get, ◌==◌, ◌&&◌}
use Rattle.std.specs.List.{flat_map, range_with_len}
use Rattle.std.specs.Option.{option_map}
use Rattle.std.proofs.lemmas.List.{drop-map, drop_all, get_or-append_right, get_or-drop, length-append, length-drop, length-map, length-replicate, map-append, take_all}
use Rattle.std.proofs.lemmas.List.Elements.{All-append, All-map, All-nil, All-replicate, All-tail}
use Rattle.std.proofs.lemmas.List.FromFn.{get_or-map-range_with_len}
use Rattle.os_io.proofs.Repeated.{get_or-repeated}
use Rattle.flow_core_laws.specs.declared.activation.Activation.{Activation}
use Rattle.flow_core_laws.specs.declared.elem.Elem.TheVariants.{Value, Poison}
use Rattle.flow_core_laws.specs.declared.outcome.Outcome.{Outcome}
use Rattle.flow_core_laws.specs.declared.task_end.TaskEnd.{TaskEnd}
use Rattle.flow_core_laws.specs.declared.task_end.TaskEnd.TheVariants.{Done}
use Rattle.flow_core_laws.specs.Outcome.{State, ends_of, outcome_at, root_of}
use Rattle.flow_core_laws.specs.Place.{written_count}
use Rattle.flow_core_laws.specs.Poisoning.{poisoning}
use Rattle.flow_core_laws.specs.Round.{gathered}
use Rattle.flow_core_laws.specs.Streams.{stream_reads, stream_element}
use Rattle.flow_core_laws.specs.Window.{Window, windows_of}
use Rattle.flow_core_laws.proofs.Rounds.{length-meaning}
use Rattle.os_code.specs.declared.parts.Parts.{Parts}
use Rattle.epoch_run_bodies.specs.Frames.{frame_outcome}
use Rattle.epoch_run_in_order_laws.specs.Apart.{HoldWritten}
use Rattle.epoch_run_in_order_laws.specs.InOrder.{elements_on}
use Rattle.epoch_run_in_order_laws.specs.Laws.{GoesOnApart, WrittenGrow}
use Rattle.stream_match_layouts.specs.declared.span.Span.{Span}
use Rattle.stream_match_layouts.specs.Layout.{span_of}
use Rattle.epoch_run_in_order.specs.declared.in_order.InOrder.{InOrder}
use Rattle.epoch_run_in_order.specs.declared.inputs.Inputs.{Inputs}
use Rattle.epoch_run_in_order.specs.Reading.{AreRead, covered_by}
use Rattle.epoch_run_in_order.specs.Standing.{StandsApart, meaning_in, outcome_by}
use Rattle.epoch_run_in_order.specs.Writing.{HaveOutputs, with_spans, written_through}
use Rattle.epoch_run_in_order.proofs.Held.{length-elements_on}
use Rattle.epoch_run_in_order.proofs.Next.{outcome_is, outcome_next, windows_exist}
use Rattle.epoch_run_in_order.proofs.NextReads.{next_reads_there}
use Rattle.epoch_run_in_order.proofs.NextWrites.{added, length-with_spans, stream_grows, through, to_stream, with_all}
use Rattle.epoch_run_in_order.proofs.Through.{through_poison, through_values}

-- all that is written through a span is there
through_there : (root : Option ℕ) (outputs : List ℤ) (span : Span) → (root ≡ None → span.offset + span.count ≤ length outputs) → All IsSome (written_through root outputs span)
through_there (Some r) outputs span within = subst (All IsSome) (sym (through_poison r outputs span)) (All-replicate IsSome span.count (Some (Poison r)) refl)
through_there None outputs span within =
    subst (All IsSome) (sym (through_values outputs span (within refl))) (All-map IsSome (λ v. Some (Value v)) (take span.count (drop span.offset outputs)) (λ k d lt. refl))

-- and so all that is written to a stream
added_there : (root : Option ℕ) (outputs : List ℤ) (stream : ℕ) (ws : List Window) → HaveOutputs root outputs (map span_of ws) → All IsSome (added root outputs stream ws)
added_there root outputs stream [] have = All-nil IsSome
added_there root outputs stream (w ∷ ws) have =
    by w.claim.write (w.claim.stream == stream) refl
    (added_there root outputs stream ws (λ none. All-tail (λ (s : Span). s.write ≡ true → s.offset + s.count ≤ length outputs) (span_of w) (map span_of ws) (have none)))
  where
    by : (b t : Bool) → w.claim.write ≡ b → All IsSome (added root outputs stream ws)
        → All IsSome (flat_map (through root outputs stream) (cond (b && t) (w ∷ filter (to_stream root outputs stream) ws) (filter (to_stream root outputs stream) ws)))
    by false t is rest = rest
    by true false is rest = rest
    by true true is rest =
        All-append IsSome (through root outputs stream w) (added root outputs stream ws)
        (through_there root outputs (span_of w) (λ none. have none 0 (span_of w) (omega arith) is)) rest

-- the outcome of the next activation is the last one of those from a number on
last_outcome : (M more : State) (from n : ℕ) (o : Outcome) → length M ≡ n → from ≤ n → drop from more ≡ drop from M ++ Some o ∷ [] → outcome_at more n ≡ Some o
last_outcome M more from n o size within goes =
    ap (λ k. get_or more k None) (let e : n ≡ from + (n - from) = omega (arith, within) in e)
    ∙ sym (get_or-drop from more (n - from) None)
    ∙ ap (λ (s : State). get_or s (n - from) None) goes
    ∙ get_or-append_right (drop from M) (Some o ∷ []) (n - from) (n - from) None (length-drop from M ∙ ap (λ k. k - from) size) (omega arith)
    ∙ ap (λ k. get_or (Some o ∷ []) k None) (let e : (n - from) - (n - from) ≡ 0 = omega arith in e)

-- behind its next activation a run apart stands behind one activation more
pub next_stands_apart : (law : GoesOnApart) (grow : WrittenGrow) (code : Parts) (all before : List Activation) (from : ℕ) (next : Activation) (input : List ℕ) (budget : ℕ) (order after : InOrder) (inputs : Inputs) (end : TaskEnd) (root : Option ℕ) (outputs : List ℤ) (spans : List Span)
    → slice_get all (length before) ≡ Some next → spans ≡ map span_of (windows_of (before ++ next ∷ []) (length before))
    → All (λ (s : Span). s.stream < length order.streams.elements) spans → HaveOutputs root outputs spans → StandsApart code all from before input budget order
    → (read : AreRead (covered_by order.streams input spans) inputs)
    → end ≡ (outcome_by code next read.elements budget).end → (end ≡ Done → outputs ≡ (outcome_by code next read.elements budget).outputs)
    → root ≡ root_of (length before) end → after.ends ≡ order.ends ++ Some end ∷ []
    → after.streams.elements ≡ with_spans root outputs order.streams.elements spans → after.streams.firsts ≡ order.streams.firsts
    → StandsApart code all from (before ++ next ∷ []) input budget after
next_stands_apart law grow code all before from next input budget order after inputs end root outputs spans at spans_are exist have stands read end_is done root_is ends_are elements_are firsts_are = record {
  within = omega (arith, stands.within, length-append before (next ∷ []));
  ends_are = ends_are
      ∙ ap (λ es. es ++ Some end ∷ []) (stands.ends_are ∙ drop-map end_in from M)
      ∙ ap (λ e. map end_in (drop from M) ++ Some e ∷ []) end_o
      ∙ sym (map-append end_in (drop from M) (Some o ∷ []))
      ∙ ap (map end_in) (sym goes)
      ∙ sym (drop-map end_in from more);
  have_ended = subst (All IsSome) (sym goes) (All-append IsSome (drop from M) (Some o ∷ []) stands.have_ended one);
  hold = subst (λ fs. HoldWritten from (before ++ next ∷ []) input more after.streams.elements fs) (sym firsts_are)
      (grow from before next input (frame_outcome code all budget) o order.streams.elements after.streams.elements order.streams.firsts
      stands.within (last_outcome M more from (length before) o size stands.within goes) stands.hold as_many
      (λ s some lt. stream_grows before next o root outputs order.streams.elements after.streams.elements root_of_o done_o each elements_by s)
      there);
}
  where
    M : State
    M = meaning_in code all before input budget

    more : State
    more = meaning_in code all (before ++ next ∷ []) input budget

    o : Outcome
    o = outcome_next code all before read.elements budget

    end_in : Option Outcome → Option TaskEnd
    end_in = option_map (λ (q : Outcome). q.end)

    ws : List Window
    ws = windows_of (before ++ next ∷ []) (length before)

    o_is : o ≡ outcome_by code next read.elements budget
    o_is = outcome_is code all before next read.elements budget at

    end_o : end ≡ o.end
    end_o = end_is ∙ ap (λ (q : Outcome). q.end) (sym o_is)

    goes : drop from more ≡ drop from M ++ Some o ∷ []
    goes = law from before next input (frame_outcome code all budget) read.elements stands.within stands.have_ended
        (next_reads_there order.streams before input M stands.hold.are_theirs next read.elements (ap (λ ss. gathered (covered_by order.streams input ss)) (sym spans_are) ∙ read.are_there))

    size : length M ≡ length before
    size = length-meaning stream_element (stream_reads before input) (poisoning (frame_outcome code all budget)) (length before)

    root_of_o : root ≡ root_of (length before) o.end
    root_of_o = root_is ∙ ap (root_of (length before)) end_o

    done_o : o.end ≡ Done → outputs ≡ o.outputs
    done_o e = done (end_o ∙ e) ∙ ap (λ (q : Outcome). q.outputs) (sym o_is)

    one : All IsSome (Some o ∷ [])
    one zero d lt = search rules
    one (suc k) d lt = absurd (omega arith)

    each : (k : ℕ) (d : Window) → k < length ws → (get_or ws k d).claim.stream < length order.streams.elements
    each = windows_exist ws spans (length order.streams.elements) spans_are exist

    elements_by : after.streams.elements ≡ with_spans root outputs order.streams.elements (map span_of ws)
    elements_by = elements_are ∙ ap (with_spans root outputs order.streams.elements) spans_are

    as_many : length after.streams.elements ≡ length order.streams.elements
    as_many = ap length elements_are ∙ length-with_spans root outputs order.streams.elements spans

    there : (s : ℕ) → 1 ≤ s → s < length order.streams.elements → All IsSome (get_or after.streams.elements s [])
    there s some lt = subst (All IsSome) (sym (ap (λ es. get_or es s []) elements_by ∙ with_all root outputs s order.streams.elements ws each))
        (All-append IsSome (get_or order.streams.elements s []) (added root outputs s ws) (stands.hold.are_there s some lt)
        (added_there root outputs s ws (subst (HaveOutputs root outputs) spans_are have)))

-- a run apart begins without ends, and without elements from where it writes
pub begins_apart : (code : Parts) (all before : List Activation) (input : List ℕ) (budget first streams : ℕ) (writes : List ℕ) (order : InOrder)
    → length before ≡ first → length writes ≡ streams → writes ≡ map (written_count before) (range_with_len 0 streams)
    → order.ends ≡ [] → order.streams.elements ≡ replicate (length writes) [] → order.streams.firsts ≡ writes
    → StandsApart code all first before input budget order
begins_apart code all before input budget first streams writes order is many writes_are ends elements_are firsts_are = record {
  within = omega (arith, is);
  ends_are = ends ∙ sym (drop_all first (ends_of M) (omega (arith, is, size, length-map M (option_map (λ (q : Outcome). q.end)))));
  have_ended = subst (All IsSome) (sym (drop_all first M (omega (arith, is, size)))) (All-nil IsSome);
  hold = record {
    as_many = ap length firsts_are ∙ sym count;
    firsts_are = λ s lt. first_is s (omega (arith, lt, count, many)) ∙ ap (λ bs. written_count bs s) (sym (take_all first before (omega (arith, is))));
    are_theirs = λ s some lt.
        let f = first_is s (omega (arith, lt, count, many)) in
        blank s ∙ sym (drop_all (get_or order.streams.firsts s 0) (elements_on before input M s) (omega (arith, f, length-elements_on before input M s)));
    are_there = λ s some lt. subst (All IsSome) (sym (blank s)) (All-nil IsSome);
  };
}
  where
    M : State
    M = meaning_in code all before input budget

    size : length M ≡ length before
    size = length-meaning stream_element (stream_reads before input) (poisoning (frame_outcome code all budget)) (length before)

    count : length order.streams.elements ≡ length writes
    count = ap length elements_are ∙ length-replicate (length writes) []

    first_is : (s : ℕ) → s < streams → get_or order.streams.firsts s 0 ≡ written_count before s
    first_is s lt = ap (λ fs. get_or fs s 0) (firsts_are ∙ writes_are) ∙ get_or-map-range_with_len (written_count before) 0 streams s s 0 lt (omega arith)

    blank : (s : ℕ) → get_or order.streams.elements s [] ≡ []
    blank s = ap (λ es. get_or es s []) elements_are ∙ get_or-repeated (length writes) s []
