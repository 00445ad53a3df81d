-- What is counted on the way.
use Rattle.std.specs.Prelude.{◌≡◌, ℕ, ◌+◌, ◌*◌, ◌≤◌, ◌==◌, min, max, List, None, Option, Some, length, if◌then◌else◌, sum}
use Rattle.osview_steps.specs.Tallies.{activation_count, most, steps_in, taken_by, turns_in}
use Rattle.osview_steps.specs.declared.runs.Taken.{Taken}
use Rattle.osview_steps.specs.declared.runs.TaskRun.{TaskRun}
use Rattle.osview_steps.specs.declared.tally.Tally.{Tally}
use Rattle.osview_text.specs.Numbers.{least}

abbrev pub nothing_counted : Tally
nothing_counted = record { activations = 0; ran = 0; least = 0; most = 0; sum = 0; turns = 0 }

-- a tally with one more activation in it, and with the steps and turns that it took if it ran
abbrev pub counted : Tally → Option Taken → Tally
counted t None = record { activations = t.activations + 1; ran = t.ran; least = t.least; most = t.most; sum = t.sum; turns = t.turns }
counted t (Some taken) = record {
  activations = t.activations + 1;
  ran = t.ran + 1;
  least = if t.ran == 0 then taken.steps else min t.least taken.steps;
  most = max t.most taken.steps;
  sum = t.sum + taken.steps;
  turns = max t.turns taken.turns;
}

-- at most `n` activations are counted
pub record IsSmall (n : ℕ) (t : Tally) : Type 0 where
  pub activations : t.activations ≤ n
  pub ran : t.ran ≤ n
  pub sum : t.sum ≤ n * 18446744073709551615

-- a tally is what is counted of a task
pub record IsTallyOf (task : ℕ) (runs : List TaskRun) (t : Tally) : Type 0 where
  pub activations : t.activations ≡ activation_count task runs
  pub ran : t.ran ≡ length (taken_by task runs)
  pub turns : t.turns ≡ most (turns_in (taken_by task runs))
  pub least : t.least ≡ least (steps_in (taken_by task runs))
  pub most : t.most ≡ most (steps_in (taken_by task runs))
  pub sum : t.sum ≡ sum (steps_in (taken_by task runs))
