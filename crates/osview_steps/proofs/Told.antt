-- The line of a task by what is counted of it.
use Rattle.std.proofs.Common.{◌≡◌, ◌∙◌, ◌++◌, ℕ, List, ap, append_assoc, get_or, length}
use Rattle.std.specs.Prelude.{sum}
use Rattle.osview_steps.specs.Counting.{IsTallyOf}
use Rattle.osview_steps.specs.Lines.{numbers_line, run_steps, task_line}
use Rattle.osview_steps.specs.Tallies.{activation_count, most, steps_in, taken_by, turns_in}
use Rattle.osview_steps.specs.Told.{tally_line}
use Rattle.osview_steps.specs.declared.runs.Taken.{Taken}
use Rattle.osview_steps.specs.declared.runs.TaskRun.{TaskRun}
use Rattle.osview_steps.specs.declared.tally.Tally.{Tally}
use Rattle.osview_text.specs.Numbers.{least}

-- one text behind another
pub told_behind : (old a b : List ℕ) {mid new : List ℕ} → mid ≡ old ++ a → new ≡ mid ++ b → new ≡ old ++ (a ++ b)
told_behind old a b first last = last ∙ ap (λ x. x ++ b) first ∙ append_assoc old a b

pub line_is : (lines : List ℕ) (runs : List TaskRun) (main : Taken) (t : ℕ) (tally : Tally) (all : ℕ) → IsTallyOf t runs tally → all ≡ run_steps runs main
    → tally_line (get_or lines t 0) tally all ≡ task_line lines runs main t
line_is lines runs main t tally all is all_is =
    let at = get_or lines t 0 in
    let taken = taken_by t runs in
    ap (λ (n : ℕ). numbers_line at n tally.ran tally.least tally.most tally.sum tally.turns all) is.activations
    ∙ ap (λ (n : ℕ). numbers_line at (activation_count t runs) n tally.least tally.most tally.sum tally.turns all) is.ran
    ∙ ap (λ (n : ℕ). numbers_line at (activation_count t runs) (length taken) n tally.most tally.sum tally.turns all) is.least
    ∙ ap (λ (n : ℕ). numbers_line at (activation_count t runs) (length taken) (least (steps_in taken)) n tally.sum tally.turns all) is.most
    ∙ ap (λ (n : ℕ). numbers_line at (activation_count t runs) (length taken) (least (steps_in taken)) (most (steps_in taken)) n tally.turns all) is.sum
    ∙ ap (λ (n : ℕ). numbers_line at (activation_count t runs) (length taken) (least (steps_in taken)) (most (steps_in taken)) (sum (steps_in taken)) n all) is.turns
    ∙ ap (λ (n : ℕ). numbers_line at (activation_count t runs) (length taken) (least (steps_in taken)) (most (steps_in taken)) (sum (steps_in taken)) (most (turns_in taken)) n) all_is

-- three parts behind a text
pub joined : (old a t b mid more : List ℕ) → mid ≡ old ++ a → more ≡ mid ++ t → more ++ b ≡ old ++ (a ++ t ++ b)
joined old a t b mid more first second =
    ap (λ (x : List ℕ). x ++ b) (second ∙ ap (λ (x : List ℕ). x ++ t) first ∙ append_assoc old a t) ∙ append_assoc old (a ++ t) b
