-- How the units of a code lie.
use Rattle.std.specs.Prelude.{◌≡◌, ℕ, ◌+◌, ◌^◌, ◌<◌, ◌≤◌, List, [], ◌∷◌, length, sum_by, Some}
use Rattle.os_ast.specs.Limits.{slots_limit}
use Rattle.os_ast.specs.Trees.{ProgramTree}
use Rattle.os_code.specs.declared.parts.Parts.{Parts}
use Rattle.os_code.specs.declared.site.Site.{Site}
use Rattle.os_code.specs.declared.unit.CodeUnit.{CodeUnit}
use Rattle.os_code.specs.Parts.{site_at}
use Rattle.lowering_relation.specs.Tasks.{program_tasks}
use Rattle.window_check_laws.specs.Globals.{count_functions}

-- units one behind another, each as long as its operand stack may grow
abbrev pub Tile : (from to : ℕ) → List CodeUnit → Type 0
Tile from to [] = from ≡ to
Tile from to (unit ∷ units) = (unit.start ≡ from) × Tile (from + unit.stack) to units

-- The units fill the code in the order of their numbers: first one for each function, then one for each task.
pub record IsTiled (code : Parts) (program : ProgramTree) : Type 0 where
  pub tiles : Tile 0 (length code.instrs) code.units
  pub units : length code.units ≡ count_functions program + length (program_tasks program)
  pub task_units : (number : ℕ) (site : Site) → site_at code number ≡ Some site → site.unit ≡ count_functions program + number
  -- the code and the slots of all its units are small enough for their limits
  pub short : length code.instrs < 2 ^ 32
  pub slots_small : sum_by (λ (unit : CodeUnit). unit.slots) code.units ≤ slots_limit
