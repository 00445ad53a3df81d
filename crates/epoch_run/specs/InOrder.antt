-- Where a run stands that goes in control order.
use Rattle.std.specs.Prelude.{◌≡◌, ℕ, ◌≤◌, All, List, drop, length, take}
use Rattle.control_run.specs.Stretches.{RunSoFar, created_so_far}
use Rattle.epoch_run_in_order.specs.Standing.{IsReady, StandsBehind}
use Rattle.epoch_run_in_order.specs.declared.in_order.InOrder.{InOrder}
use Rattle.os_code.specs.Codes.{parts_of}
use Rattle.os_code.specs.Tasks.{Fits}
use Rattle.os_code.specs.declared.code.Code.{Code}
use Rattle.stream_match_layouts.specs.Lawful.{AreLawful}
use Rattle.stream_match_layouts.specs.Layout.{IsLayoutOf}
use Rattle.stream_match_layouts.specs.declared.layout.Layout.{Layout}
use Rattle.epoch_run.specs.Run.{created}
use Rattle.epoch_run.specs.declared.result.Budgets.{Budgets}
use Rattle.epoch_run.specs.declared.standing.Standing.{Standing}

-- The activations so far are those that the control program of a code has created, they fit it, and they are laid out.
pub record AreLaidOut (code : Code) (input : List ℕ) (budgets : Budgets) (so_far : RunSoFar) (layout : Layout) : Type 0 where
  pub code_is : so_far.code ≡ parts_of code
  pub input_is : so_far.input_len ≡ length input
  pub budget_is : so_far.budget ≡ budgets.control
  pub fit : All (Fits (parts_of code)) (created_so_far so_far)
  pub lawful : AreLawful code.streams (created_so_far so_far)
  pub has_output : 2 ≤ code.streams
  pub streams : length layout.writers ≡ code.streams
  pub over : layout.input_len ≡ length input
  pub laid : IsLayoutOf layout (created_so_far so_far)

-- Some of the activations so far have run in control order, the first ones, with the bodies of all that will come. The list has all from
-- a number on, and those before it have run.
pub record GoesInOrder (code : Code) (input : List ℕ) (budgets : Budgets) (standing : Standing) (order : InOrder) : Type 0 where
  pub laid_out : AreLaidOut code input budgets standing.control standing.layout
  pub are_last : standing.activations ≡ drop standing.first (created_so_far standing.control)
  pub have_run : standing.first ≤ length order.ends
  pub within : length order.ends ≤ length (created_so_far standing.control)
  pub ready : IsReady code order
  pub behind : StandsBehind (parts_of code) (created (parts_of code) input budgets) (take (length order.ends) (created_so_far standing.control)) input
      budgets.task order

-- all activations so far have run in control order
pub record HaveRunInOrder (code : Code) (input : List ℕ) (budgets : Budgets) (standing : Standing) (order : InOrder) : Type 0 where
  pub goes : GoesInOrder code input budgets standing order
  pub all : length order.ends ≡ length (created_so_far standing.control)
