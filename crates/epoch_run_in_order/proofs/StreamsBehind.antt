-- The streams behind activations that all have ended, and what a run in control order goes on from.
use Rattle.std.proofs.Common.{◌≡◌, ℕ, zero, suc, ◌+◌, ◌-◌, ◌<◌, ◌≤◌, ◌∷◌, ◌++◌, [], List, Option, length, drop, get_or, map, min, cond, refl, sym, ap}
use Rattle.std.proofs.Common.{◌∙◌, subst, arith}
use Rattle.std.specs.List.{range_with_len}
use Rattle.std.proofs.lemmas.Bool.{le-ltb}
use Rattle.std.proofs.lemmas.List.FromFn.{get_or-map-range_with_len, length-map-range_with_len, map-range_with_len_more}
use Rattle.std.proofs.lemmas.List.{append_assoc, drop_more}
use Rattle.flow_core_epochs.specs.Epoch.{IsHeld, Kept, value_kept}
use Rattle.flow_core_laws.specs.declared.activation.Activation.{Activation}
use Rattle.flow_core_laws.specs.declared.elem.Elem.{Elem}
use Rattle.flow_core_laws.specs.declared.task_end.TaskEnd.{TaskEnd}
use Rattle.flow_core_laws.specs.FirstPosition.{read_cursor, write_cursor}
use Rattle.flow_core_laws.specs.Place.{places_from, written_count}
use Rattle.flow_core_laws.specs.Window.{claims_of, windows}
use Rattle.epoch_run_bodies.specs.Frames.{frame_outcome}
use Rattle.epoch_run_in_order_laws.specs.InOrder.{HaveAllEnded}
use Rattle.epoch_run_in_order_laws.specs.Laws.{RunsOnFromHeld}
use Rattle.os_code.specs.declared.parts.Parts.{Parts}
use Rattle.stream_match.specs.Kept.{kept_of}
use Rattle.stream_match.specs.declared.kept.Kept as code
use Rattle.stream_match_layouts.specs.Layout.{IsLayout, IsLayoutOf, claims_in}
use Rattle.stream_match_layouts.specs.declared.layout.Layout.{Layout}
use Rattle.stream_match_layouts.proofs.Windows.{claims_in-windows}
use Rattle.epoch_run_in_order.proofs.KeptPlaces.{HoldKept, hold_all, none_kept}
use Rattle.epoch_run_in_order.specs.Behind.{AreBehind, blank_on, first_on, with_all_kept, with_kept}
use Rattle.epoch_run_in_order.specs.Standing.{StandsBehind, meaning_in}
use Rattle.epoch_run_in_order.specs.declared.in_order.InOrder.{InOrder}
use Rattle.epoch_run_in_order.specs.declared.streams.Streams.{Streams}

-- streams of which nothing is kept yet
blanks_hold : (layout : Layout) (output : List (Option Elem)) (firsts : List ℕ) → 2 ≤ length layout.writers
    → ((stream : ℕ) → stream < length layout.writers → get_or firsts stream 0 ≡ first_on layout stream)
    → HoldKept (length layout.writers) firsts (λ stream. get_or layout.cursors.writes stream 0 - get_or firsts stream 0) output
    ([] ∷ output ∷ map (blank_on layout) (range_with_len 2 (length layout.writers - 2))) []
blanks_hold layout output firsts two are = record {
  as_many = let e = length-map-range_with_len (blank_on layout) 2 (length layout.writers - 2) in omega arith;
  output_is = refl;
  are_kept = on;
}
  where
    on : (stream : ℕ) → 2 ≤ stream → stream < length layout.writers
        → get_or ([] ∷ output ∷ map (blank_on layout) (range_with_len 2 (length layout.writers - 2))) stream []
        ≡ map (value_kept []) (places_from stream (get_or firsts stream 0) (get_or layout.cursors.writes stream 0 - get_or firsts stream 0))
    on zero low lt = absurd (omega arith)
    on (suc zero) low lt = absurd (omega arith)
    on (suc (suc j)) low lt =
        get_or-map-range_with_len (blank_on layout) 2 (length layout.writers - 2) j (suc (suc j)) [] (omega arith) (omega arith)
        ∙ none_kept (suc (suc j)) (get_or firsts (suc (suc j)) 0) (get_or layout.cursors.writes (suc (suc j)) 0 - first_on layout (suc (suc j)))
        ∙ ap (λ first. map (value_kept []) (places_from (suc (suc j)) (get_or firsts (suc (suc j)) 0) (get_or layout.cursors.writes (suc (suc j)) 0 - first)))
        (sym (are (suc (suc j)) lt))

-- with what is kept they are those behind the activations
pub are_behind : (layout : Layout) (output : List (Option Elem)) (kept : List Kept) (streams : Streams) (blanks : List (List (Option Elem))) → IsLayout layout
    → streams.firsts ≡ map (first_on layout) (range_with_len 0 (length layout.writers))
    → blanks ≡ [] ∷ output ∷ map (blank_on layout) (range_with_len 2 (length layout.writers - 2))
    → streams.elements ≡ with_all_kept streams.firsts blanks kept
    → AreBehind layout output kept streams
are_behind layout output kept streams blanks is firsts_are blanks_are elements_are = record {
  elements_as_many = hold.as_many;
  firsts_as_many = ap length firsts_are ∙ length-map-range_with_len (first_on layout) 0 n;
  output_is = hold.output_is;
  input_from_0 = first_is 0 (omega (arith, is.has_output));
  output_from_0 = first_is 1 (omega (arith, is.has_output));
  firsts_are = λ stream low lt.
      first_is stream (omega (arith, hold.as_many))
      ∙ ap (λ b. cond b 0 (min (get_or layout.cursors.reads stream 0) (get_or layout.cursors.writes stream 0))) (le-ltb stream 2 low);
  elements_are = λ stream low lt. hold.are_kept stream low (omega (arith, hold.as_many));
}
  where
    n : ℕ
    n = length layout.writers

    first_is : (stream : ℕ) → stream < n → get_or streams.firsts stream 0 ≡ first_on layout stream
    first_is stream lt = ap (λ fs. get_or fs stream 0) firsts_are ∙ get_or-map-range_with_len (first_on layout) 0 n stream stream 0 lt (omega arith)

    hold : HoldKept n streams.firsts (λ stream. get_or layout.cursors.writes stream 0 - get_or streams.firsts stream 0) output streams.elements kept
    hold = subst (λ es. HoldKept n streams.firsts (λ stream. get_or layout.cursors.writes stream 0 - get_or streams.firsts stream 0) output es kept) (sym elements_are)
        (hold_all n streams.firsts (λ stream. get_or layout.cursors.writes stream 0 - get_or streams.firsts stream 0) output blanks kept
        (subst (λ es. HoldKept n streams.firsts (λ stream. get_or layout.cursors.writes stream 0 - get_or streams.firsts stream 0) output es []) (sym blanks_are)
        (blanks_hold layout output streams.firsts is.has_output first_is)))

-- so a run in control order stands behind them
pub stands_behind : (law : RunsOnFromHeld) (code : Parts) (all before : List Activation) (input : List ℕ) (budget : ℕ) (layout : Layout)
    (ends : List (Option TaskEnd)) (kept : List Kept)
    (output : List (Option Elem)) (order : InOrder) → IsLayout layout → IsLayoutOf layout before → order.ends ≡ ends
    → AreBehind layout output kept order.streams
    → IsHeld before input (frame_outcome code all budget) ends kept output → HaveAllEnded (meaning_in code all before input budget)
    → StandsBehind code all before input budget order
stands_behind law code all before input budget layout ends kept output order whole is ends_are behind held ended = record {
  ends_are = ends_are ∙ held.ends_are_meant;
  have_ended = ended;
  hold = law before input (frame_outcome code all budget) ends kept output order.streams.elements order.streams.firsts held
      (behind.firsts_as_many ∙ sym behind.elements_as_many)
      (omega (arith, whole.has_output, behind.elements_as_many))
      behind.output_is behind.output_from_0 behind.input_from_0
      (λ stream low lt. behind.firsts_are stream low lt
      ∙ ap (λ r. min r (get_or layout.cursors.writes stream 0)) (reads_are stream (omega (arith, behind.elements_as_many)))
      ∙ ap (λ w. min (read_cursor stream (claims_of before)) w) (writes_are stream (omega (arith, behind.elements_as_many))))
      (λ stream low lt. behind.elements_are stream low lt
      ∙ ap (λ w. map (value_kept kept) (places_from stream (get_or order.streams.firsts stream 0) (w - get_or order.streams.firsts stream 0)))
      (writes_are stream (omega (arith, behind.elements_as_many))));
}
  where
    n : ℕ
    n = length layout.writers

    reads_are : (stream : ℕ) → stream < n → get_or layout.cursors.reads stream 0 ≡ read_cursor stream (claims_of before)
    reads_are stream lt =
        ap (λ cs. get_or cs stream 0) is.of_windows.reads
        ∙ get_or-map-range_with_len (λ s. read_cursor s (claims_in (windows before))) 0 n stream stream 0 lt (omega arith)
        ∙ ap (read_cursor stream) (claims_in-windows before)

    writes_are : (stream : ℕ) → stream < n → get_or layout.cursors.writes stream 0 ≡ written_count before stream
    writes_are stream lt =
        ap (λ cs. get_or cs stream 0) is.of_windows.writes
        ∙ get_or-map-range_with_len (λ s. write_cursor s (claims_in (windows before))) 0 n stream stream 0 lt (omega arith)
        ∙ ap (write_cursor stream) (claims_in-windows before)

-- one more stream of which nothing is kept yet
pub blank_more : (layout : Layout) (n : ℕ) (old mid new : List (List (Option Elem))) → 2 ≤ n
    → mid ≡ old ++ map (blank_on layout) (range_with_len 2 (n - 2)) → new ≡ mid ++ blank_on layout n ∷ []
    → new ≡ old ++ map (blank_on layout) (range_with_len 2 ((n + 1) - 2))
blank_more layout n old mid new low before step =
    step
    ∙ ap (λ xs. xs ++ blank_on layout n ∷ []) before
    ∙ append_assoc old (map (blank_on layout) (range_with_len 2 (n - 2))) (blank_on layout n ∷ [])
    ∙ ap (λ xs. old ++ xs) (sym (map-range_with_len_more (blank_on layout) 2 (n - 2) n (omega arith)))
    ∙ ap (λ k. old ++ map (blank_on layout) (range_with_len 2 k)) (let e : (n - 2) + 1 ≡ (n + 1) - 2 = omega arith in e)

-- one more that is kept, the last one first
pub put_more : (firsts : List ℕ) (base elements new : List (List (Option Elem))) (kept : List code.Kept) (at left : ℕ) (d : code.Kept)
    → at + 1 ≡ left → at < length kept
    → elements ≡ with_all_kept firsts base (map kept_of (drop left kept)) → new ≡ with_kept firsts elements (kept_of (get_or kept at d))
    → new ≡ with_all_kept firsts base (map kept_of (drop at kept))
put_more firsts base elements new kept at left d next lt before step =
    step
    ∙ ap (λ es. with_kept firsts es (kept_of (get_or kept at d))) before
    ∙ ap (λ n. with_all_kept firsts base (kept_of (get_or kept at d) ∷ map kept_of (drop n kept))) (sym next)
    ∙ sym (ap (λ ks. with_all_kept firsts base (map kept_of ks)) (drop_more kept at d lt))

-- one more first position
pub first_more : (layout : Layout) (n first : ℕ) (mid new : List ℕ) → mid ≡ map (first_on layout) (range_with_len 0 n) → first ≡ first_on layout n
    → new ≡ mid ++ first ∷ []
    → new ≡ map (first_on layout) (range_with_len 0 (n + 1))
first_more layout n first mid new before is step =
    step
    ∙ ap (λ fs. fs ++ first ∷ []) before
    ∙ ap (λ f. map (first_on layout) (range_with_len 0 n) ++ f ∷ []) is
    ∙ sym (map-range_with_len_more (first_on layout) 0 n n (omega arith))
