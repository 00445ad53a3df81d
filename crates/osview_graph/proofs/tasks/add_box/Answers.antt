use Rattle.std.proofs.Common.{◌≡◌, ◌∙◌, ◌++◌, List, OnOk, ap, codes, get_or, length, subst, true, ℕ}
use Rattle.osview_graph.specs.Drawing.{run_of}
use Rattle.collector.specs.Status.{has_done}
use Rattle.osview_graph.specs.DrawnRun.{ended_so, is_over_budget, is_poisoned, is_starved, is_trapped}
use Rattle.osview_graph.specs.Tasks.{activations_text, ends_text, task_ends, task_head}
use Rattle.osview_graph.proofs.Joined.{more, row_of}
use Rattle.osview_graph.proofs.tasks.add_box.Goals as goal

pub returns : goal.returns
returns c =
    let old = c.args.told.now in
    let t = c.args.task in
    let run = run_of c.args.drawn.now in
    let n = length c.args.drawn.now.lines.now in
    let counts = c.args.counts.now in
    let are = c.requires.counted in
    let lt = c.requires.exists in
    let all : c.row.result ≡ ended_so run (λ _. true) t = c.row.ensures ∙ ap (λ (xs : List ℕ). get_or xs t 0) c.deref.ensures.value ∙ row_of (ended_so run (λ _. true)) n t counts.all.items are.all lt in
    let a1 = task_head run t in
    let a2 = activations_text (ended_so run (λ _. true) t) in
    let s2 : c.add_activations.new.told ≡ old ++ (a1 ++ a2) =
    c.in_ok-add_activations.ensures ∙ ap (λ (m : ℕ). c.add_head.new.told ++ activations_text m) all ∙ more old a1 a2 c.in_ok-add_head.ensures in
    let s3 : c.add.new.self ≡ old ++ (a1 ++ a2 ++ codes "\\n") = c.in_ok-add.ensures ∙ more old (a1 ++ a2) (codes "\\n") s2 in
    let ends : ends_text (get_or counts.done.items t 0) (get_or counts.trapped.items t 0) (get_or counts.over_budget.items t 0) (get_or counts.poisoned.items t 0) (get_or counts.starved.items t 0) ≡ task_ends run t =
    ap (λ (m : ℕ). ends_text m (get_or counts.trapped.items t 0) (get_or counts.over_budget.items t 0) (get_or counts.poisoned.items t 0) (get_or counts.starved.items t 0)) (row_of (ended_so run has_done) n t counts.done.items are.done lt)
    ∙ ap (λ (m : ℕ). ends_text (ended_so run has_done t) m (get_or counts.over_budget.items t 0) (get_or counts.poisoned.items t 0) (get_or counts.starved.items t 0)) (row_of (ended_so run is_trapped) n t counts.trapped.items are.trapped lt)
    ∙ ap (λ (m : ℕ). ends_text (ended_so run has_done t) (ended_so run is_trapped t) m (get_or counts.poisoned.items t 0) (get_or counts.starved.items t 0)) (row_of (ended_so run is_over_budget) n t counts.over_budget.items are.over_budget lt)
    ∙ ap (λ (m : ℕ). ends_text (ended_so run has_done t) (ended_so run is_trapped t) (ended_so run is_over_budget t) m (get_or counts.starved.items t 0)) (row_of (ended_so run is_poisoned) n t counts.poisoned.items are.poisoned lt)
    ∙ ap (λ (m : ℕ). ends_text (ended_so run has_done t) (ended_so run is_trapped t) (ended_so run is_over_budget t) (ended_so run is_poisoned t) m) (row_of (ended_so run is_starved) n t counts.starved.items are.starved lt) in
    let s4 : c.add_ends.new.told ≡ old ++ (a1 ++ a2 ++ codes "\\n" ++ task_ends run t) =
    c.in_ok-add_ends.ensures ∙ ap (λ (x : List ℕ). c.add.new.self ++ x) ends ∙ more old (a1 ++ a2 ++ codes "\\n") (task_ends run t) s3 in
    subst (λ (x : List ℕ). OnOk c.add-2.result (c.add-2.new.self ≡ x)) (more old (a1 ++ a2 ++ codes "\\n" ++ task_ends run t) (codes "\"];\n") s4) c.add-2.ensures
