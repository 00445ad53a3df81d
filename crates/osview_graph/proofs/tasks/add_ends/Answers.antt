use Rattle.std.proofs.Common.{◌≡◌, ◌∙◌, ◌++◌, List, OnOk, ap, codes, get_or, subst, ℕ}
use Rattle.std.specs.Fmt.{decimal}
use Rattle.osview_graph.specs.Tasks.{ends_text, part_text}
use Rattle.osview_graph.proofs.Joined.{more}
use Rattle.osview_graph.proofs.tasks.add_ends.Goals as goal

pub returns : goal.returns
returns c =
    let old = c.args.told.now in
    let t = c.args.task in
    let row : List ℕ → ℕ = λ (xs : List ℕ). get_or xs t 0 in
    let done : c.row.result ≡ row c.args.counts.now.done.items = c.row.ensures ∙ ap row c.deref.ensures.value in
    let trapped : c.row-2.result ≡ row c.args.counts.now.trapped.items = c.row-2.ensures ∙ ap row c.deref-2.ensures.value in
    let over : c.row-3.result ≡ row c.args.counts.now.over_budget.items = c.row-3.ensures ∙ ap row c.deref-3.ensures.value in
    let poisoned : c.row-4.result ≡ row c.args.counts.now.poisoned.items = c.row-4.ensures ∙ ap row c.deref-4.ensures.value in
    let starved : c.row-5.result ≡ row c.args.counts.now.starved.items = c.row-5.ensures ∙ ap row c.deref-5.ensures.value in
    let a1 = decimal c.row.result ++ codes " done" in
    let s1 : c.add.new.self ≡ old ++ a1 = c.in_ok-add.ensures ∙ more old (decimal c.row.result) (codes " done") c.in_ok-number.ensures in
    let p2 = part_text c.row-2.result (codes " trapped") in
    let s2 : c.add_part.new.told ≡ old ++ (a1 ++ p2) = c.in_ok-add_part.ensures ∙ more old a1 p2 s1 in
    let p3 = part_text c.row-3.result (codes " out of turns") in
    let s3 : c.add_part-2.new.told ≡ old ++ (a1 ++ p2 ++ p3) = c.in_ok-add_part-2.ensures ∙ more old (a1 ++ p2) p3 s2 in
    let p4 = part_text c.row-4.result (codes " poisoned") in
    let s4 : c.add_part-3.new.told ≡ old ++ (a1 ++ p2 ++ p3 ++ p4) = c.in_ok-add_part-3.ensures ∙ more old (a1 ++ p2 ++ p3) p4 s3 in
    let p5 = part_text c.row-5.result (codes " starved") in
    let all : c.add_part-3.new.told ++ p5 ≡ old ++ ends_text c.row.result c.row-2.result c.row-3.result c.row-4.result c.row-5.result = more old (a1 ++ p2 ++ p3 ++ p4) p5 s4 in
    subst (λ (x : List ℕ). OnOk c.add_part-4.result (c.add_part-4.new.told ≡ x))
    (all ∙ ap (λ (n : ℕ). old ++ ends_text n c.row-2.result c.row-3.result c.row-4.result c.row-5.result) done
    ∙ ap (λ (n : ℕ). old ++ ends_text (row c.args.counts.now.done.items) n c.row-3.result c.row-4.result c.row-5.result) trapped
    ∙ ap (λ (n : ℕ). old ++ ends_text (row c.args.counts.now.done.items) (row c.args.counts.now.trapped.items) n c.row-4.result c.row-5.result) over
    ∙ ap (λ (n : ℕ). old ++ ends_text (row c.args.counts.now.done.items) (row c.args.counts.now.trapped.items) (row c.args.counts.now.over_budget.items) n c.row-5.result) poisoned
    ∙ ap (λ (n : ℕ). old ++ ends_text (row c.args.counts.now.done.items) (row c.args.counts.now.trapped.items) (row c.args.counts.now.over_budget.items) (row c.args.counts.now.poisoned.items) n) starved)
    c.add_part-4.ensures
