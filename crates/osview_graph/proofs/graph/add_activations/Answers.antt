use Rattle.std.proofs.Common.{◌≡◌, ◌∙◌, ◌++◌, List, OnOk, codes, subst, ℕ}
use Rattle.osview_graph.specs.Drawing.{run_of, shown_of}
use Rattle.osview_graph.specs.Links.{shown_text}
use Rattle.osview_graph.proofs.Joined.{more}
use Rattle.osview_graph.proofs.graph.add_activations.Goals as goal

pub returns : goal.returns
returns c =
    let old = c.args.told.now in
    let head = codes "digraph activations {\n  node [shape=box, fontname=\"sans-serif\"];\n" in
    let input = codes "  input [shape=ellipse];\n" in
    let shown = shown_text (run_of c.args.drawn.now) (shown_of c.args.shown) in
    let s2 : c.add-2.new.self ≡ old ++ (head ++ input) = c.in_ok-add-2.ensures ∙ more old head input c.in_ok-add.ensures in
    let s3 : c.add_shown.new.told ≡ old ++ (head ++ input ++ shown) = c.in_ok-add_shown.ensures ∙ more old (head ++ input) shown s2 in
    subst (λ (x : List ℕ). OnOk c.add-3.result (c.add-3.new.self ≡ x)) (more old (head ++ input ++ shown) (codes "}\n") s3) c.add-3.ensures
