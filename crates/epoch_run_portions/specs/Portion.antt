-- A worker's portion of a run.
use Rattle.std.specs.Prelude.{◌≡◌, ℕ, ◌+◌, ◌≤◌, List, length, take}
use Rattle.epoch_run_in_order.specs.Standing.{StandsApart}
use Rattle.epoch_run_in_order.specs.declared.apart.Apart.{Apart}
use Rattle.flow_core_laws.specs.declared.activation.Activation.{Activation}
use Rattle.os_code.specs.Outcomes.{main_control}
use Rattle.os_code.specs.declared.parts.Parts.{Parts}

-- the activations that `main` of a code creates over an input
abbrev pub created : Parts → (input : List ℕ) → (budget : ℕ) → List Activation
created code input budget = (main_control code (length input) budget).activations

-- Activations from a number on, among those that the control program creates, have the ends that they have among all, whether or not those before
-- them have ended.
pub record IsPortion (code : Parts) (input : List ℕ) (control_budget task_budget : ℕ) (apart : Apart) : Type 0 where
  pub count : ℕ
  pub within : count ≤ length (created code input control_budget)
  pub ran_to : apart.first + length apart.order.ends ≡ count
  pub stands : StandsApart code (created code input control_budget) apart.first (take count (created code input control_budget)) input task_budget apart.order
