use Rattle.std.proofs.Common.{◌≡◌, ◌≤◌, ◌-◌, ℕ, List, length}
use Rattle.control_run.specs.Stretches.{created_so_far}
use Rattle.os_code.specs.declared.code.Code.{Code}
use Rattle.epoch_run.specs.InOrder.{AreLaidOut}
use Rattle.epoch_run.specs.Portioning.{IsLaidOut}
use Rattle.epoch_run.specs.declared.result.Budgets.{Budgets}
use Rattle.epoch_run.proofs.portions.lay_out_rest.Given as goal

abbrev pub invariant-stretches : goal.invariant-stretches
invariant-stretches l = record {
  laid : IsLaidOut l.standing.control l.standing.layout;
  keeps : (code : Code) (input : List ℕ) (budgets : Budgets) → AreLaidOut code input budgets l.fn.standing.control l.fn.standing.layout → AreLaidOut code input budgets l.standing.control l.standing.layout;
}

abbrev pub decreases-stretches : goal.decreases-stretches
decreases-stretches l = 65536 - length (created_so_far l.standing.control)
