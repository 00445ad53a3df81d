-- A line by what is counted of a task.
use Rattle.std.specs.Prelude.{ℕ, ◌==◌, List, [], if◌then◌else◌}
use Rattle.osview_steps.specs.Lines.{numbers_line, taken_text}
use Rattle.osview_steps.specs.Tallies.{mean, share}
use Rattle.osview_steps.specs.declared.tally.Tally.{Tally}

abbrev pub tally_text : Tally → (all : ℕ) → List ℕ
tally_text t all = if t.ran == 0 then [] else taken_text t.least t.most (mean t.sum t.ran) t.sum (share t.sum all) t.turns

abbrev pub tally_line : (at : ℕ) → Tally → (all : ℕ) → List ℕ
tally_line at t all = numbers_line at t.activations t.ran t.least t.most t.sum t.turns all
