-- What the code of a program does.
use Rattle.std.specs.Prelude.{◌≡◌, ℕ, ℤ, List, length}
use Rattle.cddf_meaning.specs.Body.{body}
use Rattle.cddf_meaning.specs.Control as meaning
use Rattle.flow_core_laws.specs.declared.activation.Activation.{Activation}
use Rattle.os_ast.specs.Trees.{ProgramTree}
use Rattle.os_code.specs.Outcomes.{main_control, code_outcome}
use Rattle.os_code.specs.Tasks.{Fits, input_count}
use Rattle.os_code.specs.declared.parts.Parts.{Parts}

-- Each activation that fits the code, with as many inputs as it reads, ends as the body of its task.
abbrev pub RunsBodies : Parts → ProgramTree → Type 0
RunsBodies code p = (a : Activation) (inputs : List ℤ) (budget : ℕ) → Fits code a → length inputs ≡ input_count a
    → code_outcome code a inputs budget ≡ body p a inputs budget

-- `main` creates what the control program creates, and ends as it does.
abbrev pub RunsControl : Parts → ProgramTree → Type 0
RunsControl code p = (input_len budget : ℕ) → main_control code input_len budget ≡ meaning.control p input_len budget
