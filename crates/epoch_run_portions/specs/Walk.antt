-- Walking the control program by stretches.
use Rattle.std.specs.Prelude.{◌≡◌, ℕ, false, Bool, All, List, ◌++◌, length}
use Rattle.control_run.specs.Stretches.{RunSoFar, created_so_far}
use Rattle.flow_core_laws.specs.declared.activation.Activation.{Activation}
use Rattle.os_code.specs.Tasks.{Fits}
use Rattle.stream_match_layouts.specs.Lawful.{AreLawful}
use Rattle.epoch_run_portions.specs.Positions.{HavePassed}
use Rattle.epoch_run_portions.specs.declared.walk.Walk.{Walk}

-- both are the run of one code, over an input of one length, by one budget
pub record IsSameRun (before after : RunSoFar) : Type 0 where
  pub code : after.code ≡ before.code
  pub input_len : after.input_len ≡ before.input_len
  pub budget : after.budget ≡ before.budget

-- The control program was asked for the next `at_most` activations and has given `next`: as many, where it hasn't ended.
pub record HasGiven (at_most : ℕ) (before after : RunSoFar) (next : List Activation) (ended : Bool) : Type 0 where
  pub same : IsSameRun before after
  pub joined : created_so_far after ≡ created_so_far before ++ next
  pub going : ended ≡ false → length next ≡ at_most
  pub fit : All (Fits after.code) (created_so_far after)
  pub lawful : AreLawful after.code.streams (created_so_far after)

-- All activations that the control program has given were passed.
pub record HasWalked (walk : Walk) : Type 0 where
  pub have_passed : HavePassed walk.control.code.streams (created_so_far walk.control) walk.positions
