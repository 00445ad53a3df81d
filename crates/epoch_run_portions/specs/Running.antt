-- Running on, apart from the activations before.
use Rattle.std.specs.Prelude.{◌≡◌, ℕ, ◌+◌, ◌<◌, ◌≤◌, true, Bool, All, List, ◌++◌, length, slice_get, take}
use Rattle.control_run.specs.Stretches.{RunSoFar, created_so_far, whole}
use Rattle.epoch_run_in_order.specs.Standing.{IsReady, StandsApart}
use Rattle.epoch_run_in_order.specs.declared.apart.Apart.{Apart}
use Rattle.flow_core_laws.specs.declared.activation.Activation.{Activation}
use Rattle.os_code.specs.Codes.{parts_of}
use Rattle.os_code.specs.Tasks.{Fits}
use Rattle.os_code.specs.declared.code.Code.{Code}
use Rattle.stream_match_layouts.specs.Lawful.{AreLawful}
use Rattle.epoch_run_portions.specs.Positions.{HavePassed}
use Rattle.epoch_run_portions.specs.Walk.{HasWalked}
use Rattle.epoch_run_portions.specs.declared.positions.Positions.{Positions}
use Rattle.epoch_run_portions.specs.declared.walk.Walk.{Walk}

-- Activations can be run next: those before them were passed, and those that ran reach the last of these.
pub record MayRun (code : Code) (next : List Activation) (positions : Positions) (apart : Apart) : Type 0 where
  pub passed : List Activation
  pub have_passed : HavePassed code.streams passed positions
  pub fit : All (Fits (parts_of code)) next
  pub lawful : AreLawful code.streams (passed ++ next)
  pub ready : IsReady code apart.order
  pub ran_to : apart.first + length apart.order.ends ≡ positions.count

-- activations stand in a list, behind as many as those before them
abbrev pub StandBehind : (all before next : List Activation) → Type 0
StandBehind all before next = (i : ℕ) → i < length next → slice_get all (length before + i) ≡ slice_get next i

-- Activations have run behind those that were passed, or the run has begun anew behind them: it stands where these end.
pub record HaveRun (code : Code) (next : List Activation) (input : List ℕ) (budget : ℕ) (positions : Positions) (before after : Apart) : Type 0 where
  pub ready : IsReady code after.order
  pub ran_to : after.first + length after.order.ends ≡ positions.count + length next
  pub stands : (all passed : List Activation) → HavePassed code.streams passed positions → StandBehind all passed next
      → StandsApart (parts_of code) all before.first passed input budget before.order
      → StandsApart (parts_of code) all after.first (passed ++ next) input budget after.order

-- The first `count` of the next activations have run so, and all of them where the run goes on.
pub record HaveRunSome (code : Code) (next : List Activation) (input : List ℕ) (budget : ℕ) (here : Positions) (before after : Apart) (on : Bool) : Type 0 where
  pub count : ℕ
  pub within : count ≤ length next
  pub all : on ≡ true → count ≡ length next
  pub ran : HaveRun code (take count next) input budget here before after

-- A portion stands behind all activations that the control program of a code has given.
pub record Stands (code : Code) (input : List ℕ) (budget : ℕ) (walk : Walk) (apart : Apart) : Type 0 where
  pub code_is : walk.control.code ≡ parts_of code
  pub walked : HasWalked walk
  pub ready : IsReady code apart.order
  pub ran_to : apart.first + length apart.order.ends ≡ walk.positions.count
  pub stands : StandsApart (parts_of code) (whole walk.control).activations apart.first (created_so_far walk.control) input budget apart.order

-- A portion stands behind some of the activations that the control program will give in all.
pub record StandsWithin (code : Code) (input : List ℕ) (budget : ℕ) (run : RunSoFar) (apart : Apart) : Type 0 where
  pub count : ℕ
  pub within : count ≤ length (whole run).activations
  pub ready : IsReady code apart.order
  pub ran_to : apart.first + length apart.order.ends ≡ count
  pub stands : StandsApart (parts_of code) (whole run).activations apart.first (take count (whole run).activations) input budget apart.order
