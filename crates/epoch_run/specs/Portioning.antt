-- Where a run stands that is portioned out.
use Rattle.std.specs.Prelude.{◌≡◌, ℕ, ◌≤◌, true, List, length, take}
use Rattle.control_run.specs.Stretches.{RunSoFar, created_so_far}
use Rattle.epoch_run_in_order.specs.Standing.{IsReady, StandsBehind}
use Rattle.epoch_run_in_order.specs.declared.in_order.InOrder.{InOrder}
use Rattle.os_code.specs.Codes.{parts_of}
use Rattle.os_code.specs.declared.code.Code.{Code}
use Rattle.stream_match_layouts.specs.declared.layout.Layout.{Layout}
use Rattle.epoch_run.specs.InOrder.{AreLaidOut}
use Rattle.epoch_run.specs.Run.{created}
use Rattle.epoch_run.specs.declared.result.Budgets.{Budgets}
use Rattle.epoch_run.specs.declared.standing.Standing.{Standing}

-- The activations so far are those that the control program of some code has created over some input, and they are laid out.
pub record IsLaidOut (so_far : RunSoFar) (layout : Layout) : Type 0 where
  pub code : Code
  pub input : List ℕ
  pub budgets : Budgets
  pub are : AreLaidOut code input budgets so_far layout

-- The first ones of all activations of a run have run in control order.
pub record FirstOnesRan (code : Code) (input : List ℕ) (budgets : Budgets) (order : InOrder) : Type 0 where
  pub ready : IsReady code order
  pub within : length order.ends ≤ length (created (parts_of code) input budgets)
  pub behind : StandsBehind (parts_of code) (created (parts_of code) input budgets) (take (length order.ends) (created (parts_of code) input budgets))
      input budgets.task order

-- All activations of a run are created and laid out, and the first ones have run.
pub record ArePortionedOut (code : Code) (input : List ℕ) (budgets : Budgets) (so_far : RunSoFar) (layout : Layout) (order : InOrder) : Type 0 where
  pub laid_out : AreLaidOut code input budgets so_far layout
  pub ended : so_far.has_ended ≡ true
  pub all : created_so_far so_far ≡ created (parts_of code) input budgets
  pub ran : FirstOnesRan code input budgets order

-- What portions leave that were run: all activations are created and laid out, the first ones have run, and no fewer than before.
pub record PortionsOut (code : Code) (input : List ℕ) (budgets : Budgets) (standing : Standing) (before after : InOrder) : Type 0 where
  pub portioned : ArePortionedOut code input budgets standing.control standing.layout after
  pub no_fewer : length before.ends ≤ length after.ends
