-- The parts of a report, one behind the other.
use Rattle.std.proofs.Common.{◌≡◌, ℕ, suc, ◌+◌, ◌-◌, ◌<◌, List, [], ◌++◌, length, get_or, sym, ap, ◌∙◌, append_assoc, append-nil, arith, zero-add}
use Rattle.std.specs.List.{flat_map, range_with_len}
use Rattle.flow_core_laws.specs.declared.activation.Activation.{Activation}
use Rattle.flow_core_laws.specs.declared.control.ControlEnd.{ControlEnd}
use Rattle.flow_core_laws.specs.declared.ends.Ends.{Ends}
use Rattle.flow_core_laws.specs.Place.{written_count}
use Rattle.stream_match_layouts.specs.declared.layout.Layout.{Layout}
use Rattle.stream_match_layouts.specs.Layout.{IsLayoutOf}
use Rattle.stream_match_layouts.specs.Spans.{frame_count}
use Rattle.stream_match_layouts.proofs.Tallies.{frame_count-is}
use Rattle.flow_core_laws.proofs.Stretches.{flat_map-range-add}
use Rattle.collector.specs.Report.{activation_lines, control_line, output_line, report}
use Rattle.collector.specs.Written.{written}
use Rattle.collector.proofs.ReadPlaces.{claimed_by}

-- the lines before one, that one, and the lines behind it
pub lines_at : (f : ℕ → List ℕ) (k n : ℕ) → k < n → flat_map f (range_with_len 0 n) ≡ flat_map f (range_with_len 0 k) ++ (f k ++ flat_map f (range_with_len (k + 1) (n - (k + 1))))
lines_at f k n lt =
    let m = n - (k + 1) in
    ap (λ j. flat_map f (range_with_len 0 j)) (let e : n ≡ k + suc m = omega arith in e)
    ∙ flat_map-range-add f 0 k (suc m)
    ∙ ap (λ j. flat_map f (range_with_len 0 k) ++ (f j ++ flat_map f (range_with_len (j + 1) m))) (zero-add k)

-- one more line
pub lines_more : (f : ℕ → List ℕ) (k : ℕ) → flat_map f (range_with_len 0 (k + 1)) ≡ flat_map f (range_with_len 0 k) ++ f k
lines_more f k =
    let none : k + 1 - (k + 1) ≡ 0 = omega arith in
    lines_at f k (k + 1) (omega arith) ∙ ap (λ m. flat_map f (range_with_len 0 k) ++ (f k ++ flat_map f (range_with_len (k + 1) m))) none ∙ ap (λ xs. flat_map f (range_with_len 0 k) ++ xs) (append-nil (f k))

-- the report by what the calls are given
pub report_is : (layout : Layout) (activations : List Activation) → IsLayoutOf layout activations → 1 < length layout.writers → (input_len : ℕ) (ends : Ends) (control : ControlEnd) (count claimed : ℕ)
    → count ≡ length (written ends.output) → claimed ≡ get_or layout.cursors.writes 1 0
    → report activations input_len ends control ≡ activation_lines activations input_len ends.ends (frame_count layout) ++ (control_line control ++ (output_line count claimed ++ []))
report_is layout activations of two input_len ends control count claimed count_is claimed_is =
    let lines = activation_lines activations input_len ends.ends (frame_count layout) in
    let last = output_line count claimed in
    ap (λ n. (activation_lines activations input_len ends.ends n ++ control_line control) ++ output_line (length (written ends.output)) (written_count activations 1)) (sym (frame_count-is layout activations of))
    ∙ ap (λ n. (lines ++ control_line control) ++ output_line n (written_count activations 1)) (sym count_is)
    ∙ ap (λ n. (lines ++ control_line control) ++ output_line count n) (sym (claimed_is ∙ claimed_by layout activations of two))
    ∙ append_assoc lines (control_line control) last
    ∙ ap (λ xs. lines ++ (control_line control ++ xs)) (sym (append-nil last))
