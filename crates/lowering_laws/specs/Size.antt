-- How large the code of a program is.
use Rattle.std.specs.Prelude.{◌≡◌, ◌+◌, ◌*◌, ◌≤◌, length}
use Rattle.lowering_relation.specs.Tasks.{program_tasks}
use Rattle.os_ast.specs.Spelling.{spell}
use Rattle.os_ast.specs.Trees.{ProgramTree}
use Rattle.os_code.specs.declared.parts.Parts.{Parts}
use Rattle.window_check_laws.specs.Globals.{count_functions}

-- A code has at most 8 instructions for each token of the program, a unit for each function and each task, and a site for each task.
pub record IsSmall (code : Parts) (p : ProgramTree) : Type 0 where
  pub few_instrs : length code.instrs ≤ 8 * length (spell p)
  pub units : length code.units ≡ count_functions p + length (program_tasks p)
  pub sites : length code.sites ≡ length (program_tasks p)
