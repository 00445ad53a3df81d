-- The activations of a code, and the budgets of its run.
use Rattle.std.specs.Prelude.{ℕ, ◌≤◌, List, length}
use Rattle.flow_core_laws.specs.Limits.{budget_limit}
use Rattle.flow_core_laws.specs.declared.activation.Activation.{Activation}
use Rattle.os_code.specs.Outcomes.{main_control}
use Rattle.os_code.specs.declared.parts.Parts.{Parts}
use Rattle.epoch_run.specs.declared.result.Budgets.{Budgets}

-- budgets within their bounds
pub record AreBudgets (budgets : Budgets) : Type 0 where
  pub task_turns : budgets.task ≤ budget_limit
  pub control_turns : budgets.control ≤ budget_limit

-- The activations that `main` of a code creates over an input.
abbrev pub created : Parts → (input : List ℕ) → Budgets → List Activation
created code input budgets = (main_control code (length input) budgets.control).activations
