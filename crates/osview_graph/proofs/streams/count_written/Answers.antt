use Rattle.std.proofs.Common.{◌≡◌, ◌≢◌, ◌∙◌, inl, inr, Bool, cond, sym, ◌<◌, ◌+◌, ℕ, List, ap, arith, get_or, length, refl}
use Rattle.std.specs.Prelude.{slice_set}
use Rattle.std.proofs.lemmas.Bool.{cases_lt, ne_eqb}
use Rattle.std.proofs.lemmas.List.{set_past}
use Rattle.std.proofs.lemmas.List.FromFn.{length-map-range_with_len}
use Rattle.stream_match_layouts.proofs.Pushing.{map-range-same, map-range-set}
use Rattle.flow_core_laws.specs.Window.{windows}
use Rattle.osview_graph.specs.Drawing.{run_of}
use Rattle.osview_graph.specs.DrawnRun.{total}
use Rattle.osview_graph.specs.Streams.{stream_at, window_at, element_count, written_by}
use Rattle.osview_graph.specs.Tables.{table}
use Rattle.stream_match_layouts.specs.declared.span.Span.{Span}
use Rattle.osview_graph.proofs.Spans.{count, few, given-le, span_is}
use Rattle.osview_graph.proofs.Totals.{raised, row_small, zeros_are}
use Rattle.osview_graph.proofs.streams.count_written.Goals as goal

-- the first row is that of the input
with_input : (f g : ℕ → ℕ) (n v : ℕ) → g 0 ≡ v → ((j : ℕ) → j ≢ 0 → g j ≡ f j) → slice_set (table f n) 0 v ≡ table g n
with_input f g n v here others = elim (cases_lt 0 n) [
  | inl some ↦ map-range-set f g n 0 v some here others
  | inr none ↦
      set_past (table f n) 0 v (let long = length-map-range_with_len f 0 n in omega (arith, long, none))
      ∙ map-range-same f g 0 n (λ j low lt. absurd (omega (arith, lt, none)))
]

pub loop-span-init : goal.loop-span-init
loop-span-init c =
    c.in_ok-counts.ensures
    ∙ zeros_are (total (stream_at (run_of c.args.drawn.now)) (λ j. written_by (run_of c.args.drawn.now) (window_at (run_of c.args.drawn.now) j)) 0) (c.args.drawn.now.streams) (λ t. refl)

pub raise-requires : goal.raise-requires
raise-requires c =
    let rows = ap (λ (xs : List ℕ). get_or xs c.from.result 0) c.loop-span.invariant in
    let small = row_small (stream_at (run_of c.args.drawn.now)) (λ j. written_by (run_of c.args.drawn.now) (window_at (run_of c.args.drawn.now) j)) 65536 (c.args.drawn.now.streams) c.loop-span.span-index c.from.result (given-le c.args.drawn.now c.requires) in
    let long = ap length c.as_slice-span-items.ensures in
    let k = c.loop-span.span-index in
    let w = window_at (run_of c.args.drawn.now) k in
    let lt : k < length c.args.drawn.now.layout.now.spans = omega (arith, long, c.loop-span-test.true) in
    let is = ap (λ (xs : List Span). get_or xs k _) c.as_slice-span-items.ensures ∙ span_is c.args.drawn.now c.requires k _ lt in
    let by : c.written_by.result ≡ written_by (run_of c.args.drawn.now) w = c.written_by.ensures w is in
    let by_here = given-le c.args.drawn.now c.requires k in
    omega (arith, by, rows, small, long, few c.args.drawn.now c.requires, by_here)

pub loop-span-preserved : goal.loop-span-preserved
loop-span-preserved c =
    let run = run_of c.args.drawn.now in
    let k = c.loop-span.span-index in
    let n = c.args.drawn.now.streams in
    let long = ap length c.as_slice-span-items.ensures in
    let lt : k < length c.args.drawn.now.layout.now.spans = omega (arith, long, c.loop-span-test.true) in
    let at : c.from.result ≡ stream_at run k =
    c.from.ensures ∙ ap (λ (xs : List Span). (get_or xs k _).stream) c.as_slice-span-items.ensures ∙ ap (λ (s : Span). s.stream) (span_is c.args.drawn.now c.requires k _ lt) in
    let is = ap (λ (xs : List Span). get_or xs k _) c.as_slice-span-items.ensures ∙ span_is c.args.drawn.now c.requires k _ lt in
    let by : c.written_by.result ≡ written_by run (window_at run k) = c.written_by.ensures (window_at run k) is in
    c.raise.ensures
    ∙ ap (λ (xs : List ℕ). slice_set xs c.from.result (get_or xs c.from.result 0 + c.written_by.result)) c.loop-span.invariant
    ∙ ap (λ (i : ℕ). slice_set (table (total (stream_at run) (λ j. written_by run (window_at run j)) k) n) i (get_or (table (total (stream_at run) (λ j. written_by run (window_at run j)) k) n) i 0 + c.written_by.result)) at
    ∙ ap (λ (m : ℕ). slice_set (table (total (stream_at run) (λ j. written_by run (window_at run j)) k) n) (stream_at run k) (get_or (table (total (stream_at run) (λ j. written_by run (window_at run j)) k) n) (stream_at run k) 0 + m)) by
    ∙ raised (stream_at run) (λ j. written_by run (window_at run j)) n k

pub returns : goal.returns
returns c =
    let run = run_of c.args.drawn.now in
    let n = c.args.drawn.now.streams in
    let amount : ℕ → ℕ = λ j. written_by run (window_at run j) in
    let long = ap length c.as_slice-span-items.ensures in
    let reached : c.loop-span.span-index ≡ length (windows c.args.drawn.now.activations.now) =
    omega (arith, long, count c.args.drawn.now c.requires, c.loop-span-test.false, c.loop-span.auto.span-index-end) in
    c.set_row.ensures ∙ ap (λ (xs : List ℕ). slice_set xs 0 c.from-2.result) c.loop-span.invariant
    ∙ with_input (total (stream_at run) amount c.loop-span.span-index) (element_count run) n c.from-2.result (sym c.from-2.ensures)
    (λ j other. ap (λ (b : Bool). cond b run.input_len (total (stream_at run) amount (length (windows c.args.drawn.now.activations.now)) j)) (ne_eqb j 0 other) ∙ ap (λ (k : ℕ). total (stream_at run) amount k j) (sym reached))
