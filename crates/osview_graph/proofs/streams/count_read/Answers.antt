use Rattle.std.proofs.Common.{◌≡◌, ◌∙◌, ◌<◌, ◌+◌, ℕ, List, ap, arith, get_or, length, refl, subst, sym}
use Rattle.std.specs.Prelude.{slice_set}
use Rattle.flow_core_laws.specs.Window.{windows}
use Rattle.osview_graph.specs.Drawing.{run_of}
use Rattle.osview_graph.specs.DrawnRun.{total}
use Rattle.osview_graph.specs.Streams.{stream_at, window_at}
use Rattle.osview_graph.specs.Tables.{newly_behind, read_to, table}
use Rattle.stream_match_layouts.specs.Layout.{span_of}
use Rattle.stream_match_layouts.specs.Writers.{no_span}
use Rattle.stream_match_layouts.specs.declared.span.Span.{Span}
use Rattle.osview_graph.proofs.Reading.{Reached, newly, newly-le, newly_at, none_reached, reached}
use Rattle.osview_graph.proofs.Spans.{begins_small, count, few, largest, span_is, stream_small}
use Rattle.osview_graph.proofs.Totals.{raised, row_small, zeros_are}
use Rattle.osview_graph.proofs.streams.count_read.Goals as goal

pub loop-span-init : goal.loop-span-init
loop-span-init c =
    let run = run_of c.args.drawn.now in
    let n = c.args.drawn.now.streams in
    record {
      counted = c.in_ok-counts.ensures ∙ zeros_are (total (stream_at run) (newly_at run) 0) n (λ t. refl);
      so_far = subst (λ (xs : List ℕ). Reached run n xs 0) (sym c.in_ok-reached.ensures) (none_reached run n);
    }

pub newly_read-newly-requires : goal.newly_read-newly-requires
newly_read-newly-requires c =
    let drawn = c.args.drawn.now in
    let k = c.loop-span.span-index in
    let long = ap length c.as_slice-span-items.ensures in
    let lt : k < length drawn.layout.now.spans = omega (arith, long, c.loop-span-test.true) in
    let is : get_or c.as_slice-span-items.result.now k no_span ≡ span_of (window_at (run_of drawn) k) = ap (λ (xs : List Span). get_or xs k no_span) c.as_slice-span-items.ensures ∙ span_is drawn c.requires k no_span lt in
    let first = ap (λ (s : Span). s.first) is in
    let horizon = ap (λ (s : Span). s.count) is in
    omega (arith, first, horizon, begins_small drawn c.requires k lt, largest drawn c.requires k)

pub read_to-to-requires : goal.read_to-to-requires
read_to-to-requires c =
    let drawn = c.args.drawn.now in
    let k = c.loop-span.span-index in
    let long = ap length c.as_slice-span-items.ensures in
    let lt : k < length drawn.layout.now.spans = omega (arith, long, c.loop-span-test.true) in
    let is : get_or c.as_slice-span-items.result.now k no_span ≡ span_of (window_at (run_of drawn) k) = ap (λ (xs : List Span). get_or xs k no_span) c.as_slice-span-items.ensures ∙ span_is drawn c.requires k no_span lt in
    let first = ap (λ (s : Span). s.first) is in
    let horizon = ap (λ (s : Span). s.count) is in
    omega (arith, first, horizon, begins_small drawn c.requires k lt, largest drawn c.requires k)

pub raise-requires : goal.raise-requires
raise-requires c =
    let drawn = c.args.drawn.now in
    let run = run_of drawn in
    let k = c.loop-span.span-index in
    let n = drawn.streams in
    let w = window_at run k in
    let long = ap length c.as_slice-span-items.ensures in
    let lt : k < length drawn.layout.now.spans = omega (arith, long, c.loop-span-test.true) in
    let exists : k < length (windows drawn.activations.now) = omega (arith, lt, count drawn c.requires) in
    let is : get_or c.as_slice-span-items.result.now k no_span ≡ span_of w = ap (λ (xs : List Span). get_or xs k no_span) c.as_slice-span-items.ensures ∙ span_is drawn c.requires k no_span lt in
    let at : c.from-stream.result ≡ stream_at run k = c.from-stream.ensures ∙ ap (λ (s : Span). s.stream) is in
    let before : c.row-before.result ≡ get_or c.loop-span.reached.items (stream_at run k) 0 =
    c.row-before.ensures ∙ ap (λ (xs : List ℕ). get_or xs c.from-stream.result 0) c.deref.ensures.value ∙ ap (λ (i : ℕ). get_or c.loop-span.reached.items i 0) at in
    let by : c.newly_read-newly.result ≡ newly_at run k =
    c.newly_read-newly.ensures w is ∙ ap (newly_behind run w) before ∙ newly run k exists n c.loop-span.reached.items c.loop-span.invariant.so_far (stream_small drawn c.requires k lt) in
    let rows = ap (λ (xs : List ℕ). get_or xs c.from-stream.result 0) c.loop-span.invariant.counted in
    let small = row_small (stream_at run) (newly_at run) 65536 n k c.from-stream.result (λ j. omega (arith, newly-le run j, largest drawn c.requires j)) in
    omega (arith, by, rows, small, few drawn c.requires, newly-le run k, largest drawn c.requires k, lt)

pub loop-span-preserved : goal.loop-span-preserved
loop-span-preserved c =
    let drawn = c.args.drawn.now in
    let run = run_of drawn in
    let k = c.loop-span.span-index in
    let n = drawn.streams in
    let w = window_at run k in
    let long = ap length c.as_slice-span-items.ensures in
    let lt : k < length drawn.layout.now.spans = omega (arith, long, c.loop-span-test.true) in
    let exists : k < length (windows drawn.activations.now) = omega (arith, lt, count drawn c.requires) in
    let is : get_or c.as_slice-span-items.result.now k no_span ≡ span_of w = ap (λ (xs : List Span). get_or xs k no_span) c.as_slice-span-items.ensures ∙ span_is drawn c.requires k no_span lt in
    let at : c.from-stream.result ≡ stream_at run k = c.from-stream.ensures ∙ ap (λ (s : Span). s.stream) is in
    let before : c.row-before.result ≡ get_or c.loop-span.reached.items (stream_at run k) 0 =
    c.row-before.ensures ∙ ap (λ (xs : List ℕ). get_or xs c.from-stream.result 0) c.deref.ensures.value ∙ ap (λ (i : ℕ). get_or c.loop-span.reached.items i 0) at in
    let by : c.newly_read-newly.result ≡ newly_at run k =
    c.newly_read-newly.ensures w is ∙ ap (newly_behind run w) before ∙ newly run k exists n c.loop-span.reached.items c.loop-span.invariant.so_far (stream_small drawn c.requires k lt) in
    let to : c.read_to-to.result ≡ read_to run w (get_or c.loop-span.reached.items (stream_at run k) 0) = c.read_to-to.ensures w is ∙ ap (read_to run w) before in
    record {
      counted =
          c.raise.ensures
          ∙ ap (λ (xs : List ℕ). slice_set xs c.from-stream.result (get_or xs c.from-stream.result 0 + c.newly_read-newly.result)) c.loop-span.invariant.counted
          ∙ ap (λ (i : ℕ). slice_set (table (total (stream_at run) (newly_at run) k) n) i (get_or (table (total (stream_at run) (newly_at run) k) n) i 0 + c.newly_read-newly.result)) at
          ∙ ap (λ (m : ℕ). slice_set (table (total (stream_at run) (newly_at run) k) n) (stream_at run k) (get_or (table (total (stream_at run) (newly_at run) k) n) (stream_at run k) 0 + m)) by
          ∙ raised (stream_at run) (newly_at run) n k;
      so_far = subst (λ (xs : List ℕ). Reached run n xs (k + 1))
          (sym (c.set_row.ensures ∙ ap (λ (i : ℕ). slice_set c.loop-span.reached.items i c.read_to-to.result) at ∙ ap (λ (m : ℕ). slice_set c.loop-span.reached.items (stream_at run k) m) to))
          (reached run k exists n c.loop-span.reached.items c.loop-span.invariant.so_far (stream_small drawn c.requires k lt));
    }

pub returns : goal.returns
returns c =
    let run = run_of c.args.drawn.now in
    let long = ap length c.as_slice-span-items.ensures in
    let reached : c.loop-span.span-index ≡ length (windows c.args.drawn.now.activations.now) =
    omega (arith, long, count c.args.drawn.now c.requires, c.loop-span-test.false, c.loop-span.auto.span-index-end) in
    c.loop-span.invariant.counted ∙ ap (λ (k : ℕ). table (total (stream_at run) (newly_at run) k) (c.args.drawn.now.streams)) reached
