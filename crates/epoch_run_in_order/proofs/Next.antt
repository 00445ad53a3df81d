-- The next activation of a run in control order: how much it reads and writes, and where the run stands behind it.
use Rattle.std.proofs.Common.{◌≡◌, ℕ, ℤ, ◌+◌, ◌<◌, ◌≤◌, List, [], ◌∷◌, ◌++◌, Option, Some, None, IsSome, true, map, length, get_or, take, zero, suc, refl, sym, ap, ◌∙◌, subst, arith, zero-add, rules}
use Rattle.std.specs.Prelude.{slice_get, filter, sum_by, All}
use Rattle.std.specs.Option.{option_map, option_map_or}
use Rattle.std.proofs.lemmas.List.{get_or-map, length-map, map-append}
use Rattle.std.proofs.lemmas.List.Elements.{All-append}
use Rattle.flow_core_laws.specs.declared.activation.Activation.{Activation}
use Rattle.flow_core_laws.specs.declared.claim.Claim.{Claim}
use Rattle.flow_core_laws.specs.declared.elem.Elem.{Elem}
use Rattle.flow_core_laws.specs.declared.outcome.Outcome.{Outcome}
use Rattle.flow_core_laws.specs.declared.task_end.TaskEnd.{TaskEnd}
use Rattle.flow_core_laws.specs.declared.task_end.TaskEnd.TheVariants.{Done, Trapped, OverBudget, Poisoned}
use Rattle.flow_core_laws.specs.Outcome.{State, ends_of, outcome_of, root_of, over_budget}
use Rattle.flow_core_laws.specs.Round.{gathered}
use Rattle.flow_core_laws.proofs.Windows.{length-windows_behind}
use Rattle.std.proofs.lemmas.List.FromFn.{get_or-map-range_with_len}
use Rattle.epoch_run_in_order_laws.specs.InOrder.{HaveAllEnded, HoldElements}
use Rattle.flow_core_laws.specs.Place.{input_places}
use Rattle.flow_core_laws.specs.Poisoning.{least_root, poisoning, values_of}
use Rattle.flow_core_laws.specs.Streams.{output_count, stream_reads, stream_source, stream_element}
use Rattle.flow_core_laws.specs.Window.{Window, claim_at, claims_at, claims_of, window_of, windows_of}
use Rattle.flow_core_laws.proofs.Rounds.{length-meaning}
use Rattle.flow_core_laws.proofs.There.{offset_within}
use Rattle.os_code.specs.Outcomes.{code_outcome}
use Rattle.os_code.specs.Tasks.{input_count}
use Rattle.os_code.specs.declared.parts.Parts.{Parts}
use Rattle.epoch_run_bodies.proofs.Counts.{length-reads}
use Rattle.epoch_run_bodies.specs.Frames.{frame_outcome}
use Rattle.epoch_run_in_order_laws.proofs.OneMore.{goes_on}
use Rattle.stream_match_layouts.specs.declared.span.Span.{Span}
use Rattle.stream_match_layouts.specs.Layout.{span_of}
use Rattle.stream_match_layouts.specs.Spans.{write_count}
use Rattle.stream_match_layouts.proofs.FrameSpans.{claims_in-windows_of, written_spans}
use Rattle.epoch_run_in_order.specs.declared.in_order.InOrder.{InOrder}
use Rattle.epoch_run_in_order.specs.declared.inputs.Inputs.{Inputs}
use Rattle.epoch_run_in_order.specs.declared.streams.Streams.{Streams}
use Rattle.epoch_run_in_order.specs.Reading.{AreRead, covered_by}
use Rattle.epoch_run_in_order.specs.Standing.{AreNext, StandsBehind, meaning_in, outcome_by}
use Rattle.epoch_run_in_order.specs.Writing.{HaveOutputs, with_spans}
use Rattle.epoch_run_in_order.proofs.NextReads.{held_in, next_places, next_reads_there}
use Rattle.epoch_run_in_order.proofs.NextWrites.{hold_more}

pub no_activation : Activation
no_activation = record { site = 0; captured = []; claims = [] }

pub last_there : (before : List Activation) (next : Activation) → slice_get (before ++ next ∷ []) (length before) ≡ Some next
last_there [] next = refl
last_there (x ∷ before) next = last_there before next

claims_there : (before : List Activation) (next : Activation) → claims_at (before ++ next ∷ []) (length before) ≡ next.claims
claims_there before next = ap (λ o. option_map_or (λ (y : Activation). y.claims) o []) (last_there before next)

-- an end without a root is Done
pub no_root : (number : ℕ) (end : TaskEnd) → root_of number end ≡ None → end ≡ Done
no_root number Done e = refl
no_root number (Trapped code line) e = absurd (cc)
no_root number OverBudget e = absurd (cc)
no_root number (Poisoned root) e = absurd (cc)

-- it reads as many elements as it has inputs
pub next_inputs : (streams : Streams) (input : List ℕ) (count : ℕ) (next : Activation) (spans : List Span) → AreNext count next spans → length (covered_by streams input spans) ≡ input_count next
next_inputs streams input count next spans are =
    let acts = are.before ++ next ∷ [] in
    let n = length are.before in
    ap (λ ss. length (covered_by streams input ss)) (are.are_theirs ∙ ap (λ k. map span_of (windows_of acts k)) (sym are.as_many))
    ∙ ap length (next_places streams input acts n)
    ∙ length-map (input_places acts n) (held_in streams input)
    ∙ sym (length-map (input_places acts n) (stream_source acts []))
    ∙ length-reads acts [] n next (last_there are.before next)

pub next_outputs : (count : ℕ) (next : Activation) (spans : List Span) → AreNext count next spans → sum_by write_count spans ≡ output_count next
next_outputs count next spans are =
    let acts = are.before ++ next ∷ [] in
    let n = length are.before in
    ap (sum_by write_count) (are.are_theirs ∙ ap (λ k. map span_of (windows_of acts k)) (sym are.as_many))
    ∙ written_spans (windows_of acts n)
    ∙ ap (λ cs. sum_by (λ (c : Claim). c.horizon) (filter (λ (c : Claim). c.write) cs)) (claims_in-windows_of acts n ∙ claims_there are.before next)

-- where it writes, its outputs have room
pub next_room : (count : ℕ) (next : Activation) (spans : List Span) → AreNext count next spans → (outputs : List ℤ) → length outputs ≡ output_count next
    → (k : ℕ) (d : Span) → k < length spans → (get_or spans k d).write ≡ true → (get_or spans k d).offset + (get_or spans k d).count ≤ length outputs
next_room count next spans are outputs room k d lt writes =
    let acts = are.before ++ next ∷ [] in
    let n = length are.before in
    let cs = claims_at acts n in
    let ws = windows_of acts n in
    let theirs : spans ≡ map span_of ws = are.are_theirs ∙ ap (λ m. map span_of (windows_of acts m)) (sym are.as_many) in
    let size : length ws ≡ length cs = length-windows_behind n (claims_of (take n acts)) cs in
    let k_lt : k < length cs = omega (arith, ap length theirs, length-map ws span_of, size) in
    let w : Window = window_of n (claims_of (take n acts)) cs k in
    let here : get_or spans k d ≡ span_of w =
    ap (λ ss. get_or ss k d) theirs ∙ get_or-map span_of ws k w d (omega (arith, size, k_lt)) ∙ ap span_of (get_or-map-range_with_len (window_of n (claims_of (take n acts)) cs) 0 (length cs) k k w k_lt (zero-add k)) in
    let is_write : (claim_at cs k).write ≡ true = ap (λ (s : Span). s.write) (sym here) ∙ writes in
    let fits = offset_within cs k k_lt is_write in
    let all : sum_by (λ (c : Claim). c.horizon) (filter (λ (c : Claim). c.write) cs) ≡ output_count next = ap (λ ds. sum_by (λ (c : Claim). c.horizon) (filter (λ (c : Claim). c.write) ds)) (claims_there are.before next) in
    let o = ap (λ (s : Span). s.offset) here in
    let h = ap (λ (s : Span). s.count) here in
    omega (arith, fits, all, room, o, h)

abbrev pub outcome_next : Parts → (all before : List Activation) → List Elem → (budget : ℕ) → Outcome
outcome_next code all before elements budget = poisoning (frame_outcome code all budget) (length before) elements

-- it ends as it means by itself
pub outcome_is : (code : Parts) (all before : List Activation) (next : Activation) (elements : List Elem) (budget : ℕ) → slice_get all (length before) ≡ Some next
    → outcome_next code all before elements budget ≡ outcome_by code next elements budget
outcome_is code all before next elements budget at =
    ap (λ (x : Option Activation). option_map_or (λ r. outcome_of (Poisoned r) []) (least_root elements) (option_map_or (λ (a : Activation). code_outcome code a (values_of elements) budget) x over_budget)) at

-- the streams of its windows are among those of its spans
pub windows_exist : (ws : List Window) (spans : List Span) (n : ℕ) → spans ≡ map span_of ws → All (λ (s : Span). s.stream < n) spans → (k : ℕ) (d : Window) → k < length ws → (get_or ws k d).claim.stream < n
windows_exist ws spans n spans_are exist k d lt =
    let same = ap (λ ss. get_or ss k (span_of d)) spans_are ∙ get_or-map span_of ws k d (span_of d) lt in
    let h = exist k (span_of d) (omega (arith, ap length spans_are, length-map ws span_of, lt)) in
    let e = ap (λ (s : Span). s.stream) same in
    omega (arith, h, e)

-- where nothing is poisoned its outputs have room for what it writes
pub next_have : (count : ℕ) (next : Activation) (spans : List Span) → AreNext count next spans → (end : TaskEnd) (root : Option ℕ) (outputs : List ℤ)
    → root ≡ root_of count end → (end ≡ Done → length outputs ≡ output_count next) → HaveOutputs root outputs spans
next_have count next spans are end root outputs root_is room = λ none k d lt writes.
    next_room count next spans are outputs (room (no_root count end (sym root_is ∙ none))) k d lt writes

-- behind it the run stands behind one activation more
pub next_stands : (code : Parts) (all before : List Activation) (next : Activation) (input : List ℕ) (budget : ℕ) (order after : InOrder) (inputs : Inputs) (end : TaskEnd) (root : Option ℕ) (outputs : List ℤ) (spans : List Span)
    → slice_get all (length before) ≡ Some next → spans ≡ map span_of (windows_of (before ++ next ∷ []) (length before))
    → All (λ (s : Span). s.stream < length order.streams.elements) spans → StandsBehind code all before input budget order
    → (read : AreRead (covered_by order.streams input spans) inputs)
    → end ≡ (outcome_by code next read.elements budget).end → (end ≡ Done → outputs ≡ (outcome_by code next read.elements budget).outputs)
    → root ≡ root_of (length before) end → after.ends ≡ order.ends ++ Some end ∷ []
    → after.streams.elements ≡ with_spans root outputs order.streams.elements spans → after.streams.firsts ≡ order.streams.firsts
    → StandsBehind code all (before ++ next ∷ []) input budget after
next_stands code all before next input budget order after inputs end root outputs spans at spans_are exist stands read end_is done root_is ends_are elements_are firsts_are = record {
  ends_are = ends_are
      ∙ ap (λ es. es ++ Some end ∷ []) stands.ends_are
      ∙ ap (λ e. ends_of (meaning_in code all before input budget) ++ Some e ∷ []) (end_is ∙ ap (λ (q : Outcome). q.end) (sym o_is))
      ∙ sym (map-append (option_map (λ (q : Outcome). q.end)) (meaning_in code all before input budget) (Some (outcome_next code all before read.elements budget) ∷ []))
      ∙ ap ends_of (sym goes);
  have_ended = subst HaveAllEnded (sym goes) (All-append IsSome (meaning_in code all before input budget) (Some (outcome_next code all before read.elements budget) ∷ []) stands.have_ended one);
  hold = subst (λ (s : State). HoldElements (before ++ next ∷ []) input s after.streams.elements after.streams.firsts) (sym goes)
      (subst (λ fs. HoldElements (before ++ next ∷ []) input ((meaning_in code all before input budget) ++ Some (outcome_next code all before read.elements budget) ∷ []) after.streams.elements fs) (sym firsts_are)
      (hold_more before next input (meaning_in code all before input budget) (outcome_next code all before read.elements budget) root outputs order.streams.elements after.streams.elements order.streams.firsts stands.hold size root_of_o done_o each
      (elements_are ∙ ap (with_spans root outputs order.streams.elements) spans_are)));
}
  where
    o_is : (outcome_next code all before read.elements budget) ≡ outcome_by code next read.elements budget
    o_is = outcome_is code all before next read.elements budget at

    goes : meaning_in code all (before ++ next ∷ []) input budget ≡ (meaning_in code all before input budget) ++ Some (outcome_next code all before read.elements budget) ∷ []
    goes = goes_on before next input (frame_outcome code all budget) read.elements stands.have_ended
        (next_reads_there order.streams before input (meaning_in code all before input budget) stands.hold.are_theirs next read.elements (ap (λ ss. gathered (covered_by order.streams input ss)) (sym spans_are) ∙ read.are_there))

    size : length (meaning_in code all before input budget) ≡ length before
    size = length-meaning stream_element (stream_reads before input) (poisoning (frame_outcome code all budget)) (length before)

    root_of_o : root ≡ root_of (length before) (outcome_next code all before read.elements budget).end
    root_of_o = root_is ∙ ap (root_of (length before)) (end_is ∙ ap (λ (q : Outcome). q.end) (sym o_is))

    done_o : (outcome_next code all before read.elements budget).end ≡ Done → outputs ≡ (outcome_next code all before read.elements budget).outputs
    done_o e = done (end_is ∙ ap (λ (q : Outcome). q.end) (sym o_is) ∙ e) ∙ ap (λ (q : Outcome). q.outputs) (sym o_is)

    one : All IsSome (Some (outcome_next code all before read.elements budget) ∷ [])
    one zero d lt = search rules
    one (suc k) d lt = absurd (omega arith)

    each : (k : ℕ) (d : Window) → k < length (windows_of (before ++ next ∷ []) (length before)) → (get_or (windows_of (before ++ next ∷ []) (length before)) k d).claim.stream < length order.streams.elements
    each = windows_exist (windows_of (before ++ next ∷ []) (length before)) spans (length order.streams.elements) spans_are exist
