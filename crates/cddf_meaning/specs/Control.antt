-- What the control program creates, and how it ends.
use Rattle.std.specs.Prelude.{ℕ, true, false, [], Option, Some, None, pos}
use Rattle.c_int.specs.ControlLimits.{limit_code}
use Rattle.c_int.specs.Traps.{trap_code}
use Rattle.cddf_meaning.specs.Flow.{Ran, Went, Ended}
use Rattle.cddf_meaning.specs.Program.{Main, main_of}
use Rattle.cddf_meaning.specs.Run.{Around, run_all}
use Rattle.cddf_meaning.specs.BodyState.{BodyState, state_of}
use Rattle.cddf_meaning.specs.Tasks.{sites_of}
use Rattle.cddf_meaning.specs.Variables.{bind}
use Rattle.cddf_meaning.specs.declared.ending.Ending.TheVariants.{Trapped, OverBudget, Limited}
use Rattle.cddf_meaning.specs.declared.ending.Ending.{Ending}
use Rattle.cddf_meaning.specs.declared.variable.Variable.TheVariants.{Scalar, Stream}
use Rattle.flow_core_laws.specs.declared.control.Control.{Control}
use Rattle.flow_core_laws.specs.declared.control.ControlEnd.TheVariants as end
use Rattle.flow_core_laws.specs.declared.control.ControlEnd.{ControlEnd}
use Rattle.os_ast.specs.Names.{osin_id, osout_id, osin_len_id}
use Rattle.os_ast.specs.Trees as tree

abbrev pub control_end : Ending → ControlEnd
control_end (Trapped why line) = end.Trapped (trap_code why) line
control_end OverBudget = end.OverBudget
control_end (Limited limit) = end.Limit (limit_code limit)

-- `return` ends the control program too.
abbrev pub control_of : Ran → Control
control_of (Went flow s turns) = record { activations = s.activations; end = end.Done }
control_of (Ended end activations) = record { activations = activations; end = control_end end }

abbrev pub round_main : Main → Around
round_main m = record { file = m.file; is_control = true; sites = sites_of m.tasks }

-- the state in which `main` begins: round its body are `osin`, which is stream 0, `osout`, which is stream 1, and `osin_len`, each of the
-- type `int`
abbrev pub control_state : (input_len : ℕ) → BodyState
control_state input_len = record (state_of (bind osin_len_id false (Scalar (pos input_len)) (bind osout_id false (Stream 1 1)
    (bind osin_id false (Stream 0 1) []))) []) { streams = 2 }

-- A program has a function `main`.
abbrev pub control_in : Option Main → (input_len budget : ℕ) → Control
control_in None input_len budget = record { activations = []; end = end.Done }
control_in (Some m) input_len budget = control_of (run_all (round_main m) m.body (control_state input_len) budget)

-- the activations that the control program creates, in order, and its end
abbrev pub control : tree.ProgramTree → (input_len budget : ℕ) → Control
control program input_len budget = control_in (main_of program) input_len budget
