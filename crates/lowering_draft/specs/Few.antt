-- How many instructions a part of a program has: at most 8 for each token of its spelling. A task's body has a unit of its
-- own, which the tokens of the body and of its pragma pay.
use Rattle.std.specs.Prelude.{ℕ, ◌+◌, ◌*◌, ◌≤◌, List, [], ◌∷◌, length, Option}
use Rattle.lowering_draft.specs.Emission.Statements.{block_code, stmt_code}
use Rattle.lowering_draft.specs.Emission.Units.{program_units}
use Rattle.lowering_draft.specs.declared.draft.Draft.{Draft}
use Rattle.lowering_draft.specs.declared.draft.Label.{Label}
use Rattle.lowering_draft.specs.declared.exits.Exits.{Exits}
use Rattle.os_ast.specs.Spelling.{Printer, function, spell, stmt}
use Rattle.os_ast.specs.Trees as tree
use Rattle.os_ast.specs.declared.names.Resolved.{Resolved}
use Rattle.lowering_relation.specs.Tasks.{TaskTree, all_tasks_of, tasks_of}

-- how many tokens spell a part
abbrev pub tokens : Printer → ℕ
tokens part = length (part [])

-- the most instructions of a task's unit: those of its body, and the `End` behind it
abbrev pub unit_most : TaskTree → ℕ
unit_most t = 8 * tokens (stmt t.body) + 1

abbrev pub units_most : List TaskTree → ℕ
units_most [] = 0
units_most (t ∷ ts) = unit_most t + units_most ts

-- The tokens of a statement pay for its code and for the units of its tasks.
abbrev pub StatementsAreFew : Type 0
StatementsAreFew = (tells : ℕ → Resolved) (s : tree.StmtTree) (x : Exits) (next : Option Label) (d : Draft) →
    length (stmt_code tells s x next d).instrs + units_most (tasks_of s) ≤ length d.instrs + 8 * tokens (stmt s)

-- The tokens of a function pay for its code, the units of its tasks, and two instructions behind its body.
abbrev pub FunctionsAreFew : Type 0
FunctionsAreFew = (tells : ℕ → Resolved) (f : tree.FunctionTree) (x : Exits) (next : Option Label) (d : Draft) →
    length (block_code tells f.body x next d).instrs + 2 + units_most (all_tasks_of f.body) ≤ length d.instrs + 8 * tokens (function f)

-- The tokens of a program pay for the code of all its units.
abbrev pub UnitsAreFew : Type 0
UnitsAreFew = (tells : ℕ → Resolved) (captured : List (List ℕ)) (p : tree.ProgramTree) →
    length (program_units tells captured p).draft.instrs ≤ 8 * length (spell p)
