-- Which code stands for a program: a unit for each function and each task, and a site for each task.
use Rattle.std.specs.Prelude.{◌≡◌, ⊤, ℕ, suc, ◌+◌, ◌==◌, Bool, true, false, List, [], ◌∷◌, length, Some, slice_get, pos, unwrap_or}
use Rattle.os_ast.specs.Names.{main_id}
use Rattle.os_ast.specs.Notes.Declarators.{within_limit}
use Rattle.os_ast.specs.Notes.Programs.{param_list}
use Rattle.os_ast.specs.Trees as tree
use Rattle.os_ast.specs.declared.names.Owner.TheVariants as owner
use Rattle.os_ast.specs.declared.names.Resolved.{Resolved}
use Rattle.os_ast.specs.declared.names.What.{What}
use Rattle.os_ast.specs.declared.names.What.TheVariants as what
use Rattle.os_code.specs.declared.instr.Instr.TheVariants.{Push, Return, End}
use Rattle.os_code.specs.declared.parts.Parts.{Parts}
use Rattle.os_code.specs.declared.site.Site.{Site}
use Rattle.os_code.specs.declared.unit.CodeUnit.{CodeUnit}
use Rattle.os_code.specs.Parts.{unit_at, site_at}
use Rattle.lowering_relation.specs.Expressions.{Stands}
use Rattle.lowering_relation.specs.Statements.{Body, HasStmt, HasStmts}
use Rattle.lowering_relation.specs.Tasks.{TaskTree, program_tasks, site_items}
use Rattle.window_check_laws.specs.Sums.{stmt_slots, stmts_slots}

-- the size of an array, by what the names of constants mean; where the size is wrong, 0 stands for it
abbrev pub constant_size : What → ℕ
constant_size (what.Constant v) = unwrap_or (within_limit v) 0
constant_size _ = 0

abbrev pub size_by : (ℕ → Resolved) → tree.ExprTree → ℕ
size_by tells (tree.Number n) = unwrap_or (within_limit (pos n)) 0
size_by tells (tree.Wide n) = unwrap_or (within_limit (pos n)) 0
size_by tells (tree.Place (tree.Variable n)) = constant_size (tells n.mark.place).what
size_by tells _ = 0

-- a body that stands by itself: where it goes on, nothing else of it stands
abbrev pub in_function : (ℕ → Resolved) → Body
in_function tells = record { tells = tells; tasks = []; leaves = Return }

-- A function: its body, and behind it a `Return` of 0.
pub record HasFunction (code : Parts) (tells : ℕ → Resolved) (number : ℕ) (f : tree.FunctionTree) : Type 0 where
  pub unit : CodeUnit
  pub end : ℕ
  pub last : ℕ
  pub is_unit : unit_at code number ≡ Some unit
  pub body : HasStmts code (in_function tells) f.body end end end unit.start end
  pub falls_off : Stands code (Push (pos 0) ∷ Return ∷ []) end last
  pub fills : unit.start + unit.stack ≡ last
  pub args : unit.args ≡ length (param_list f.params)
  pub slots : unit.slots ≡ length (param_list f.params) + stmts_slots owner.OfFunction (size_by tells) f.body

abbrev pub in_main : (ℕ → Resolved) → List TaskTree → Body
in_main tells tasks = record { tells = tells; tasks = tasks; leaves = End }

-- `main`: its body, and behind it an `End`. Its slot 0 has the length of the input.
pub record HasMain (code : Parts) (tells : ℕ → Resolved) (tasks : List TaskTree) (number : ℕ) (f : tree.FunctionTree) : Type 0 where
  pub unit : CodeUnit
  pub end : ℕ
  pub is_main : code.main ≡ number
  pub is_unit : unit_at code number ≡ Some unit
  pub body : HasStmts code (in_main tells tasks) f.body end end end unit.start end
  pub falls_off : Stands code (End ∷ []) end (end + 1)
  pub fills : unit.start + unit.stack ≡ end + 1
  pub args : unit.args ≡ 1
  pub slots : unit.slots ≡ 1 + stmts_slots owner.OfMain (size_by tells) f.body

abbrev pub HasUnit : Bool → Parts → (ℕ → Resolved) → List TaskTree → (number : ℕ) → tree.FunctionTree → Type 0
HasUnit true code tells tasks number f = HasMain code tells tasks number f
HasUnit false code tells tasks number f = HasFunction code tells number f

-- the functions, numbered in the order of the text
abbrev pub HasFunctions : Parts → (ℕ → Resolved) → List TaskTree → (number : ℕ) → List tree.ItemTree → Type 0
HasFunctions code tells tasks number [] = ⊤
HasFunctions code tells tasks number (tree.Constant c ∷ is) = HasFunctions code tells tasks number is
HasFunctions code tells tasks number (tree.Function f ∷ is) =
    HasUnit (f.name.id == main_id) code tells tasks number f × HasFunctions code tells tasks (suc number) is

-- A task: its site, and its unit, whose first slots are the captured scalars; behind its body stands an `End`.
pub record HasTask (code : Parts) (tells : ℕ → Resolved) (captured : List (List ℕ)) (number : ℕ) (t : TaskTree) : Type 0 where
  pub site : Site
  pub unit : CodeUnit
  pub end : ℕ
  pub is_site : site_at code number ≡ Some site
  pub is_unit : unit_at code site.unit ≡ Some unit
  pub line : site.line ≡ t.mark.line
  pub captures : slice_get captured number ≡ Some site.captured
  pub items : site.items ≡ site_items tells t.members
  pub body : HasStmt code (in_main tells []) t.body end end end unit.start end
  pub falls_off : Stands code (End ∷ []) end (end + 1)
  pub fills : unit.start + unit.stack ≡ end + 1
  pub args : unit.args ≡ length site.captured
  pub slots : unit.slots ≡ length site.captured + stmt_slots owner.OfTask (size_by tells) t.body

-- A code stands for a program, by what its names mean and their types, and by the slots in `main` that each task captures.
pub record HasProgram (code : Parts) (program : tree.ProgramTree) (tells : ℕ → Resolved) (captured : List (List ℕ)) (streams : ℕ) : Type 0 where
  pub functions : HasFunctions code tells (program_tasks program) 0 program
  pub tasks : (number : ℕ) (t : TaskTree) → slice_get (program_tasks program) number ≡ Some t → HasTask code tells captured number t
  pub sites : length code.sites ≡ length (program_tasks program)
  pub counted : code.streams ≡ streams
