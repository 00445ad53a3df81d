-- The control program of a program, and what stands before it in the file.
use Rattle.std.specs.Prelude.{◌==◌, if◌then◌else◌, List, [], ◌∷◌, ◌++◌, Option, Some, None}
use Rattle.cddf_meaning.specs.File.{File}
use Rattle.cddf_meaning.specs.Functions.{file_of}
use Rattle.cddf_meaning.specs.Tasks.{Task, known_in_main, tasks_in_all}
use Rattle.os_ast.specs.Names.{main_id}
use Rattle.os_ast.specs.Trees as tree

-- the function `main`
pub record Main : Type 0 where
  -- what its body sees of the file
  pub file : File
  -- its tasks, in the order of the text
  pub tasks : List Task
  pub body : tree.Stmts

-- the function `main` behind these items of the file
abbrev pub main_at : List tree.ItemTree → tree.FunctionTree → Main
main_at before f = record { file = file_of before; tasks = tasks_in_all (known_in_main before f) f.body; body = f.body }

-- the function `main` among these items, behind those before them
abbrev pub main_behind : (before items : List tree.ItemTree) → Option Main
main_behind before [] = None
main_behind before (tree.Constant c ∷ is) = main_behind (before ++ tree.Constant c ∷ []) is
main_behind before (tree.Function f ∷ is) = if f.name.id == main_id then Some (main_at before f) else main_behind (before ++ tree.Function f ∷ []) is

abbrev pub main_of : tree.ProgramTree → Option Main
main_of program = main_behind [] program
