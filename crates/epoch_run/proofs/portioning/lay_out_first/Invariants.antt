use Rattle.std.proofs.Common.{◌≡◌, ◌+◌, ◌≤◌, ℕ, List, length}
use Rattle.control_run.specs.Stretches.{created_so_far, whole}
use Rattle.os_code.specs.declared.code.Code.{Code}
use Rattle.epoch_run.specs.InOrder.{AreLaidOut}
use Rattle.epoch_run.specs.Portioning.{IsLaidOut}
use Rattle.epoch_run.specs.declared.result.Budgets.{Budgets}
use Rattle.epoch_run.proofs.portioning.lay_out_first.Given as goal

abbrev pub invariant-stretches : goal.invariant-stretches
invariant-stretches l = record {
  laid : IsLaidOut l.standing.control l.standing.layout;
  keeps : (code : Code) (input : List ℕ) (budgets : Budgets) → AreLaidOut code input budgets l.fn.standing.control l.fn.standing.layout → AreLaidOut code input budgets l.standing.control l.standing.layout;
  counted : length (created_so_far l.standing.control) + l.left ≡ l.count;
  within : l.count ≤ length (whole l.standing.control).activations;
}

abbrev pub decreases-stretches : goal.decreases-stretches
decreases-stretches l = l.left
