-- Where a run stands between two epochs.
use Rattle.std.specs.Prelude.{◌≡◌, ℕ, ◌<◌, ◌≤◌, true, nat_lt, All, List, [], ◌++◌, drop, length, take}
use Rattle.control_run.specs.Stretches.{RunSoFar, advanced, created_so_far, remaining, whole}
use Rattle.flow_core_laws.specs.Outcome.{has_end_at}
use Rattle.flow_core_laws.specs.declared.activation.Activation.{Activation}
use Rattle.os_code.specs.Codes.{parts_of}
use Rattle.os_code.specs.Tasks.{Fits}
use Rattle.os_code.specs.declared.code.Code.{Code}
use Rattle.stream_match_layouts.specs.Lawful.{AreLawful}
use Rattle.stream_match_layouts.specs.Layout.{IsLayoutOf}
use Rattle.stream_match_layouts.specs.declared.layout.Layout.{Layout}
use Rattle.epoch_run.specs.Held.{IsHeldBefore, IsHeldOf}
use Rattle.epoch_run.specs.declared.result.Budgets.{Budgets}
use Rattle.epoch_run.specs.declared.standing.Standing.{Standing}

-- the control program has created the next `count` activations, or all where fewer remained, and they stand behind those
-- of a list
pub record HasCreated (count : ℕ) (before after : RunSoFar) (list added_to : List Activation) : Type 0 where
  pub is_list : added_to ≡ list ++ take count (remaining before)
  pub is_run : after ≡ advanced before count
  pub joined : created_so_far after ≡ created_so_far before ++ take count (remaining before)
  pub all : nat_lt (length (remaining before)) count ≡ true → created_so_far after ≡ (whole after).activations
  pub fit : All (Fits after.code) (created_so_far after)
  pub lawful : AreLawful after.code.streams (created_so_far after)

-- the control program has created the next activations, at least one and at most `at_most`, or all where fewer remained
pub record HasAdvanced (at_most : ℕ) (before after : RunSoFar) (list added_to : List Activation) : Type 0 where
  pub count : ℕ
  pub some : 1 ≤ count
  pub few : count ≤ at_most
  pub created : HasCreated count before after list added_to

-- the control program has created some of the next activations, whatever they are
pub record HasMoved (at_most : ℕ) (before after : RunSoFar) : Type 0 where
  pub next : List Activation
  pub advanced : HasAdvanced at_most before after [] next

-- the control program has created activations, which stand behind those of a list, and in the layout behind all that came before
pub record HasCreatedNext (at_most : ℕ) (before after : RunSoFar) (list longer : List Activation) (layout longer_layout : Layout) : Type 0 where
  pub next : List Activation
  pub advanced : HasAdvanced at_most before after [] next
  pub are_behind : longer ≡ list ++ next
  pub laid : (earlier : List Activation) → IsLayoutOf layout earlier → IsLayoutOf longer_layout (earlier ++ next)

-- The activations so far are those that the control program of a code has created, and they are laid out; what is held is
-- that of those before the epoch that comes. The list has all from a number on, and those before it have ended.
pub record StandsAt (code : Code) (input : List ℕ) (budgets : Budgets) (standing : Standing) : Type 0 where
  pub code_is : standing.control.code ≡ parts_of code
  pub input_is : standing.control.input_len ≡ length input
  pub budget_is : standing.control.budget ≡ budgets.control
  pub are_last : standing.activations ≡ drop standing.first (created_so_far standing.control)
  pub have_ended : (a : ℕ) → a < standing.first → has_end_at standing.held.ends.ends a ≡ true
  pub within : standing.first ≤ length (created_so_far standing.control)
  pub fit : All (Fits (parts_of code)) (created_so_far standing.control)
  pub lawful : AreLawful code.streams (created_so_far standing.control)
  pub has_output : 2 ≤ code.streams
  pub streams : length standing.layout.writers ≡ code.streams
  pub over : standing.layout.input_len ≡ length input
  pub laid : IsLayoutOf standing.layout (created_so_far standing.control)
  pub held : IsHeldBefore (parts_of code) (created_so_far standing.control) input budgets.task standing.held

-- An epoch over these activations was run. The list has all of them from a number on, and those before it have ended.
pub record HasRun (code : Code) (input : List ℕ) (budgets : Budgets) (all_created : List Activation) (standing : Standing) : Type 0 where
  pub are_last : standing.activations ≡ drop standing.first all_created
  pub have_ended : (a : ℕ) → a < standing.first → has_end_at standing.held.ends.ends a ≡ true
  pub within : standing.first ≤ length all_created
  pub held : IsHeldOf (parts_of code) all_created input budgets.task standing.held
