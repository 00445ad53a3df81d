use Rattle.std.proofs.Common.{◌≡◌, ◌∙◌, ◌++◌, Bool, List, OnOk, [], ap, arith, cond, false, subst, sym, true, ℕ}
use Rattle.std.specs.Prelude.{◌==◌}
use Rattle.std.specs.List.{flat_map, range_with_len}
use Rattle.std.proofs.lemmas.Bool.Decides.{nat_tests}
use Rattle.flow_core_laws.specs.Window.{Window}
use Rattle.osview_graph.specs.Drawing.{run_of, shown_of}
use Rattle.osview_graph.specs.Links.{Shown, input_link, link_at, links, window_links}
use Rattle.osview_graph.specs.DrawnRun.{DrawnRun}
use Rattle.stream_match_layouts.specs.declared.span.Span.{Span}
use Rattle.osview_graph.proofs.links.add_links.Goals as goal

from_input : (run : DrawnRun) (shown : Shown) (w : Window) → w.claim.write ≡ false → w.claim.stream ≡ 0 → input_link run w ≡ window_links run shown w
from_input run shown w reads input =
    let same : (w.claim.stream == 0) ≡ true = grind (arith, nat_tests) in
    sym (ap (λ (b : Bool). cond b [] (links run shown w)) reads
    ∙ ap (λ (b : Bool). cond b (input_link run w) (flat_map (link_at run shown w) (range_with_len w.first w.claim.horizon))) same)

pub returns-then-span-eq0 : goal.returns-then-span-eq0
returns-then-span-eq0 c = λ w is.
    subst (λ (x : List ℕ). OnOk c.add_input_link.result (c.add_input_link.new.told ≡ c.args.told.now ++ x))
    (from_input (run_of c.args.drawn.now) (shown_of c.args.shown) w (sym (ap (λ (s : Span). s.write) is) ∙ c.if-span.false) (sym (ap (λ (s : Span). s.stream) is) ∙ c.if-span-eq0.true))
    (c.add_input_link.ensures w is)
