use Rattle.std.proofs.Common.{◌≡◌, ◌∙◌, ◌+◌, ◌-◌, ◌++◌, ◌≤◌, ap, arith, sym, ℕ}
use Rattle.std.specs.List.{flat_map, range_with_len}
use Rattle.osview_graph.specs.Drawing.{run_of, shown_of}
use Rattle.osview_graph.specs.Links.{link_at}
use Rattle.osview_graph.proofs.Joined.{one_more}
use Rattle.osview_graph.proofs.links.add_writers.Goals as goal

pub loop-position-preserved : goal.loop-position-preserved
loop-position-preserved c = λ r is.
    let f = link_at (run_of c.args.drawn.now) (shown_of c.args.shown) r in
    let first = c.args.reader.first in
    let p = c.loop-position.position in
    let low : first ≤ p = c.loop-position.auto.position in
    let n = p - first in
    let at : first + (p - first) ≡ p = omega (arith, low) in
    let more : p + 1 - first ≡ p - first + 1 = omega (arith, low) in
    c.in_ok-add_link_at.ensures r is ∙ ap (λ (j : ℕ). c.loop-position.told ++ f j) (sym at)
    ∙ one_more f first n c.args.told.now c.loop-position.told (c.loop-position.invariant r is)
    ∙ ap (λ (m : ℕ). c.args.told.now ++ flat_map f (range_with_len first m)) (sym more)
