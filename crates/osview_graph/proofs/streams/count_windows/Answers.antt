use Rattle.std.proofs.Common.{◌≡◌, ◌∙◌, ◌<◌, ◌≤◌, ◌+◌, ℕ, List, ap, arith, get_or, length, refl}
use Rattle.std.specs.Prelude.{slice_set}
use Rattle.flow_core_laws.specs.Window.{windows}
use Rattle.osview_graph.specs.Drawing.{run_of}
use Rattle.osview_graph.specs.DrawnRun.{total}
use Rattle.osview_graph.specs.Streams.{stream_at}
use Rattle.osview_graph.specs.Tables.{table}
use Rattle.stream_match_layouts.specs.declared.span.Span.{Span}
use Rattle.osview_graph.proofs.Spans.{count, few, span_is}
use Rattle.osview_graph.proofs.Totals.{raised, row_small, zeros_are}
use Rattle.osview_graph.proofs.streams.count_windows.Goals as goal

pub loop-span-init : goal.loop-span-init
loop-span-init c =
    c.in_ok-counts.ensures
    ∙ zeros_are (total (stream_at (run_of c.args.drawn.now)) (λ k. 1) 0) (c.args.drawn.now.streams) (λ t. refl)

pub raise-requires : goal.raise-requires
raise-requires c =
    let rows = ap (λ (xs : List ℕ). get_or xs c.from.result 0) c.loop-span.invariant in
    let small = row_small (stream_at (run_of c.args.drawn.now)) (λ k. 1) 1 (c.args.drawn.now.streams) c.loop-span.span-index c.from.result (λ j. let one : 1 ≤ 1 = omega arith in one) in
    let long = ap length c.as_slice-span-items.ensures in
    omega (arith, rows, small, long, few c.args.drawn.now c.requires)

pub loop-span-preserved : goal.loop-span-preserved
loop-span-preserved c =
    let run = run_of c.args.drawn.now in
    let k = c.loop-span.span-index in
    let n = c.args.drawn.now.streams in
    let long = ap length c.as_slice-span-items.ensures in
    let lt : k < length c.args.drawn.now.layout.now.spans = omega (arith, long, c.loop-span-test.true) in
    let at : c.from.result ≡ stream_at run k =
    c.from.ensures ∙ ap (λ (xs : List Span). (get_or xs k _).stream) c.as_slice-span-items.ensures ∙ ap (λ (s : Span). s.stream) (span_is c.args.drawn.now c.requires k _ lt) in
    c.raise.ensures
    ∙ ap (λ (xs : List ℕ). slice_set xs c.from.result (get_or xs c.from.result 0 + 1)) c.loop-span.invariant
    ∙ ap (λ (i : ℕ). slice_set (table (total (stream_at run) (λ k. 1) k) n) i (get_or (table (total (stream_at run) (λ k. 1) k) n) i 0 + 1)) at
    ∙ raised (stream_at run) (λ k. 1) n k

pub returns : goal.returns
returns c =
    let run = run_of c.args.drawn.now in
    let long = ap length c.as_slice-span-items.ensures in
    let reached : c.loop-span.span-index ≡ length (windows c.args.drawn.now.activations.now) =
    omega (arith, long, count c.args.drawn.now c.requires, c.loop-span-test.false, c.loop-span.auto.span-index-end) in
    c.loop-span.invariant ∙ ap (λ (k : ℕ). table (total (stream_at run) (λ j. 1) k) (c.args.drawn.now.streams)) reached
