-- The ends of a body and of the control program, as the functions of the program give them.
use Rattle.std.specs.Prelude.{◌≡◌, ℕ, List, if◌then◌else◌, ℤ}
use Rattle.c_int.specs.Traps.{trap_code}
use Rattle.c_int.specs.declared.trap.Trap.TheVariants.{NoByte}
use Rattle.cddf_meaning.specs.Body.{done, gives_bytes, outputs_of}
use Rattle.cddf_meaning.specs.declared.ending.Ending.TheVariants.{Trapped, OverBudget, Limited}
use Rattle.cddf_meaning.specs.declared.ending.Ending.{Ending}
use Rattle.flow_core_laws.specs.Outcome.{trapped}
use Rattle.flow_core_laws.specs.declared.claim.Claim.{Claim}
use Rattle.flow_core_laws.specs.declared.outcome.Outcome.{Outcome}
use Rattle.flow_core_laws.specs.declared.task_end.TaskEnd.TheVariants as end
use Rattle.flow_core_laws.specs.declared.task_end.TaskEnd.{TaskEnd}

-- an end and what was written are those of an outcome
abbrev pub IsOutcome : TaskEnd → List ℤ → Outcome → Type 0
IsOutcome end outputs o = (end ≡ o.end) × (outputs ≡ o.outputs)

-- the outcome of a body that ended normally: done, or the trap of an output element that is no byte
abbrev pub finished : ℕ → List Claim → List (List ℤ) → Outcome
finished line claims items = if gives_bytes claims items then done (outputs_of claims items) else trapped (trap_code NoByte) line

-- a body that ended before its last statement
abbrev pub task_end : Ending → TaskEnd
task_end (Trapped why line) = end.Trapped (trap_code why) line
task_end OverBudget = end.OverBudget
task_end (Limited limit) = end.OverBudget
