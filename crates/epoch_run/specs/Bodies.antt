-- The bodies of a run's activations, where a list has those alone that may have no end.
use Rattle.std.specs.Prelude.{◌≡◌, ℕ, ◌<◌, ◌≤◌, true, List, Option, drop, take}
use Rattle.flow_core_laws.specs.Outcome.{has_end_at}
use Rattle.flow_core_laws.specs.declared.activation.Activation.{Activation}
use Rattle.flow_core_laws.specs.declared.task_end.TaskEnd.{TaskEnd}
use Rattle.os_code.specs.Codes.{parts_of}
use Rattle.os_code.specs.Outcomes.{main_control}
use Rattle.epoch_run.specs.declared.open_bodies.OpenBodies.{OpenBodies}

-- all activations that the control program has created: its first `count`
abbrev pub all_of : OpenBodies → List Activation
all_of bodies = take bodies.count (main_control (parts_of bodies.code.now) bodies.input_len bodies.budgets.control).activations

-- the list has them from a number on, and that of an activation is among these
abbrev pub IsAmong : OpenBodies → ℕ → Type 0
IsAmong bodies frame = (bodies.activations.now ≡ drop bodies.first (all_of bodies)) × (bodies.first ≤ frame)

-- the list has them from a number on, and all before it have ended
pub record HaveOpen (bodies : OpenBodies) (ends : List (Option TaskEnd)) : Type 0 where
  pub are_last : bodies.activations.now ≡ drop bodies.first (all_of bodies)
  pub have_ended : (a : ℕ) → a < bodies.first → has_end_at ends a ≡ true
