use Rattle.std.proofs.Common.{◌≡◌, ◌∙◌, ◌+◌, ◌++◌, [], ℕ, List, ap, append-nil, append_assoc, arith, get_or, sym}
use Rattle.std.specs.List.{flat_map, range_with_len}
use Rattle.flow_core_laws.proofs.Stretches.{flat_map-range-add}
use Rattle.osview_steps.specs.Counting.{nothing_counted}
use Rattle.osview_steps.specs.Lines.{main_line, run_steps, task_line}
use Rattle.osview_steps.specs.Told.{tally_line}
use Rattle.osview_steps.specs.declared.tally.Tally.{Tally}
use Rattle.osview_steps.proofs.Told.{line_is}
use Rattle.osview_steps.proofs.telling.steps_text.Goals as goal

pub loop-task-init : goal.loop-task-init
loop-task-init c =
    let main = c.args.main in
    let all : c.plus-all.result ≡ run_steps c.args.runs.now main = c.plus-all.ensures.sum ∙ ap (λ (n : ℕ). n + main.steps) c.total-tasks.ensures.exact in
    c.in_ok-add_main.ensures ∙ ap (λ (x : List ℕ). x ++ main_line main c.plus-all.result) c.new-told.ensures ∙ ap (main_line main) all
    ∙ sym (append-nil (main_line main (run_steps c.args.runs.now main)))

pub loop-task-preserved : goal.loop-task-preserved
loop-task-preserved c =
    let lines = c.args.lines.now in
    let runs = c.args.runs.now in
    let main = c.args.main in
    let f = task_line lines runs main in
    let t = c.loop-task.task in
    let front = main_line main (run_steps runs main) in
    let all : c.plus-all.result ≡ run_steps runs main = c.plus-all.ensures.sum ∙ ap (λ (n : ℕ). n + main.steps) c.total-tasks.ensures.exact in
    let here : c.add_task.new.told ≡ c.loop-task.told ++ f t =
    c.in_ok-add_task.ensures
    ∙ ap (λ (ts : List Tally). c.loop-task.told ++ tally_line (get_or lines t 0) (get_or ts t nothing_counted) c.plus-all.result) c.as_slice.ensures
    ∙ ap (λ (x : List ℕ). c.loop-task.told ++ x)
    (line_is lines runs main t (get_or c.in_ok-tallies.tallies t nothing_counted) c.plus-all.result (c.in_ok-tallies.ensures.exact t c.loop-task-test.true) all) in
    here ∙ ap (λ (x : List ℕ). x ++ f t) c.loop-task.invariant
    ∙ append_assoc front (flat_map f (range_with_len 0 t)) (f t)
    ∙ ap (λ (x : List ℕ). front ++ x)
    (ap (λ (x : List ℕ). flat_map f (range_with_len 0 t) ++ x) (sym (append-nil (f t)) ∙ ap (λ (k : ℕ). f k ++ []) (let e : t ≡ 0 + t = omega arith in e))
    ∙ sym (flat_map-range-add f 0 t 1))
