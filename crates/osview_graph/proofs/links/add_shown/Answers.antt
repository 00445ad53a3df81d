use Rattle.std.proofs.Common.{◌≡◌, ◌∙◌, ◌+◌, ◌-◌, ◌++◌, ◌≤◌, ap, arith, sym, ℕ}
use Rattle.std.specs.List.{flat_map, range_with_len}
use Rattle.osview_graph.specs.Drawing.{run_of, shown_of}
use Rattle.osview_graph.specs.Links.{activation_text}
use Rattle.osview_graph.proofs.Joined.{one_more}
use Rattle.osview_graph.proofs.links.add_shown.Goals as goal

pub loop-activation-preserved : goal.loop-activation-preserved
loop-activation-preserved c =
    let f = activation_text (run_of c.args.drawn.now) (shown_of c.args.shown) in
    let first = c.args.shown.first in
    let k = c.loop-activation.activation in
    let low : first ≤ k = c.loop-activation.auto.activation in
    let at : first + (k - first) ≡ k = omega (arith, low) in
    let more : k + 1 - first ≡ k - first + 1 = omega (arith, low) in
    c.in_ok-add_activation.ensures ∙ ap (λ (j : ℕ). c.loop-activation.told ++ f j) (sym at)
    ∙ one_more f first (k - first) c.args.told.now c.loop-activation.told c.loop-activation.invariant
    ∙ ap (λ (m : ℕ). c.args.told.now ++ flat_map f (range_with_len first m)) (sym more)
