use Rattle.std.proofs.Common.{◌≡◌, ◌∙◌, ◌++◌, List, OnOk, ap, max, subst, sym, ℕ}
use Rattle.flow_core_laws.specs.Window.{producer}
use Rattle.osview_graph.specs.Drawing.{run_of, shown_of}
use Rattle.stream_match_layouts.specs.declared.span.Span.{Span}
use Rattle.osview_graph.proofs.Linked.{found, linked}
use Rattle.osview_graph.proofs.links.add_link_at.Goals as goal

pub returns-then-position-max : goal.returns-then-position-max
returns-then-position-max c = λ r is.
    let run = run_of c.args.drawn.now in
    let shown = shown_of c.args.shown in
    let acts = c.args.drawn.now.activations.now in
    let p = c.args.position in
    let f = found (producer acts c.args.reader.stream p) c.in-Some.writer (c.in-Some.ensures.writer acts c.requires.drawn.laid) in
    let w = f.window in
    let stream : c.args.reader.stream ≡ r.claim.stream = ap (λ (s : Span). s.stream) is in
    let gives = sym (ap (λ (s : ℕ). producer acts s p) stream) ∙ f.is in
    let first : p ≡ max r.first w.first =
    c.if-position-max.true ∙ c.max.ensures ∙ ap (λ (s : Span). max s.first c.in-Some.writer.first) is ∙ ap (λ (s : Span). max r.first s.first) f.span in
    subst (λ (x : List ℕ). OnOk c.add_link.result (c.add_link.new.told ≡ c.args.told.now ++ x)) (linked run shown r w p gives first) (c.add_link.ensures r w is f.span)
