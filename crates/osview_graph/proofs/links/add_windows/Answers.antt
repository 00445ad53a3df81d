use Rattle.std.proofs.Common.{◌≡◌, ◌∙◌, ◌+◌, ◌-◌, ◌++◌, ◌≤◌, ◌<◌, ap, arith, length, sym, ℕ}
use Rattle.std.specs.List.{flat_map, range_with_len}
use Rattle.osview_graph.specs.Drawing.{run_of, shown_of}
use Rattle.osview_graph.specs.Links.{links_of}
use Rattle.osview_graph.specs.Streams.{window_at}
use Rattle.stream_match_layouts.specs.Layout.{span_of}
use Rattle.stream_match_layouts.specs.Writers.{no_span}
use Rattle.stream_match_layouts.specs.declared.span.Span.{Span}
use Rattle.osview_graph.proofs.Joined.{one_more}
use Rattle.osview_graph.proofs.Spans.{begins_small, largest, span_is, writer_exists}
use Rattle.osview_graph.proofs.links.add_windows.Goals as goal

pub add_links-requires-clause-exists : goal.add_links-requires-clause-exists
add_links-requires-clause-exists c =
    let drawn = c.args.drawn.now in
    let k = c.loop-number.number in
    let few = c.requires.exist in
    let below : k < c.args.end = c.loop-number-test.true in
    let lt : k < length drawn.layout.now.spans = omega (arith, below, few) in
    let is : c.span.result ≡ span_of (window_at (run_of drawn) k) = c.span.ensures ∙ span_is drawn c.requires.drawn k no_span lt in
    omega (arith, ap (λ (s : Span). s.stream) is, writer_exists drawn c.requires.drawn k lt)

pub add_links-requires-clause-small : goal.add_links-requires-clause-small
add_links-requires-clause-small c =
    let drawn = c.args.drawn.now in
    let k = c.loop-number.number in
    let few = c.requires.exist in
    let below : k < c.args.end = c.loop-number-test.true in
    let lt : k < length drawn.layout.now.spans = omega (arith, below, few) in
    let is : c.span.result ≡ span_of (window_at (run_of drawn) k) = c.span.ensures ∙ span_is drawn c.requires.drawn k no_span lt in
    omega (arith, ap (λ (s : Span). s.first) is, ap (λ (s : Span). s.count) is, begins_small drawn c.requires.drawn k lt, largest drawn c.requires.drawn k)

pub loop-number-preserved : goal.loop-number-preserved
loop-number-preserved c =
    let drawn = c.args.drawn.now in
    let run = run_of drawn in
    let f = links_of run (shown_of c.args.shown) in
    let first = c.args.first in
    let k = c.loop-number.number in
    let few = c.requires.exist in
    let below : k < c.args.end = c.loop-number-test.true in
    let lt : k < length drawn.layout.now.spans = omega (arith, below, few) in
    let is : c.span.result ≡ span_of (window_at run k) = c.span.ensures ∙ span_is drawn c.requires.drawn k no_span lt in
    let low : first ≤ k = let ordered = c.requires.ordered in let l = c.loop-number.auto.number in omega (arith, ordered, l) in
    let at : first + (k - first) ≡ k = omega (arith, low) in
    let more : k + 1 - first ≡ k - first + 1 = omega (arith, low) in
    c.in_ok-add_links.ensures (window_at run k) is ∙ ap (λ (j : ℕ). c.loop-number.told ++ f j) (sym at)
    ∙ one_more f first (k - first) c.args.told.now c.loop-number.told c.loop-number.invariant
    ∙ ap (λ (m : ℕ). c.args.told.now ++ flat_map f (range_with_len first m)) (sym more)
