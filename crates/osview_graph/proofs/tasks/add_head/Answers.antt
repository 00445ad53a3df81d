use Rattle.std.proofs.Common.{◌≡◌, ◌∙◌, ◌++◌, List, OnOk, ap, codes, get_or, subst, ℕ}
use Rattle.std.specs.Fmt.{decimal}
use Rattle.osview_graph.proofs.Joined.{more, two_more}
use Rattle.osview_graph.proofs.tasks.add_head.Goals as goal

pub returns : goal.returns
returns c =
    let old = c.args.told.now in
    let line = get_or c.args.drawn.now.lines.now c.args.task 0 in
    let is : c.from.result ≡ line = c.from.ensures ∙ c.line_at.ensures in
    let first = codes "  task" ++ decimal c.args.task in
    let head = codes " [shape=box, label=\"task in line " in
    let second : c.field-2.new.self ≡ old ++ ((first ++ head) ++ decimal line) =
    c.in_ok-field-2.ensures ∙ ap (λ (n : ℕ). c.field.new.self ++ (head ++ decimal n)) is ∙ two_more old first head (decimal line) c.in_ok-field.ensures in
    subst (λ (x : List ℕ). OnOk c.add.result (c.add.new.self ≡ x)) (more old ((first ++ head) ++ decimal line) (codes "\\n") second) c.add.ensures
