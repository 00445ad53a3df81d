use Rattle.std.proofs.Common.{◌≡◌, ◌∙◌, ◌≤◌, ◌+◌, ℕ, Bool, true, false, cond, List, ap, arith, get_or, length, refl}
use Rattle.std.specs.Prelude.{slice_set}
use Rattle.osview_graph.specs.Drawing.{is_so, run_of}
use Rattle.osview_graph.specs.DrawnRun.{end_at, task_at, total}
use Rattle.osview_graph.specs.Tables.{table}
use Rattle.osview_graph.proofs.Totals.{raised, row_small, zeros_are}
use Rattle.osview_graph.proofs.tasks.counts.Goals as goal

one_at_most : (b : Bool) → cond {A = ℕ} b 1 0 ≤ 1
one_at_most true = omega arith
one_at_most false = omega arith

pub loop-activation-init : goal.loop-activation-init
loop-activation-init c =
    let run = run_of c.args.drawn.now in
    c.in_ok-counts.ensures ∙ zeros_are (total (task_at run) (λ a. cond (is_so c.args.ending (end_at run a)) 1 0) 0) (length c.args.drawn.now.lines.now) (λ t. refl)

pub raise-requires : goal.raise-requires
raise-requires c =
    let run = run_of c.args.drawn.now in
    let amount : ℕ → ℕ = λ a. cond (is_so c.args.ending (end_at run a)) 1 0 in
    let k = c.loop-activation.activation in
    let rows = ap (λ (xs : List ℕ). get_or xs c.from.result 0) c.loop-activation.invariant in
    let small = row_small (task_at run) amount 1 (length c.args.drawn.now.lines.now) k c.from.result (λ j. one_at_most (is_so c.args.ending (end_at run j))) in
    let one = one_at_most c.is.result in
    omega (arith, rows, small, one, c.one_if-amount.ensures)

pub loop-activation-preserved : goal.loop-activation-preserved
loop-activation-preserved c =
    let run = run_of c.args.drawn.now in
    let amount : ℕ → ℕ = λ a. cond (is_so c.args.ending (end_at run a)) 1 0 in
    let k = c.loop-activation.activation in
    let n = length c.args.drawn.now.lines.now in
    let at : c.from.result ≡ task_at run k = c.from.ensures ∙ c.task_at.ensures in
    let by : c.one_if-amount.result ≡ amount k = c.one_if-amount.ensures ∙ ap (λ (b : Bool). cond {A = ℕ} b 1 0) (c.is.ensures ∙ ap (is_so c.args.ending) c.end_at.ensures) in
    c.raise.ensures
    ∙ ap (λ (xs : List ℕ). slice_set xs c.from.result (get_or xs c.from.result 0 + c.one_if-amount.result)) c.loop-activation.invariant
    ∙ ap (λ (i : ℕ). slice_set (table (total (task_at run) amount k) n) i (get_or (table (total (task_at run) amount k) n) i 0 + c.one_if-amount.result)) at
    ∙ ap (λ (m : ℕ). slice_set (table (total (task_at run) amount k) n) (task_at run k) (get_or (table (total (task_at run) amount k) n) (task_at run k) 0 + m)) by
    ∙ raised (task_at run) amount n k
