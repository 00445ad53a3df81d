-- How many instructions an emission adds, paid by the tokens of a printer, 8 for each.
use Rattle.std.proofs.Common.{◌≡◌, Bool, ℕ, ◌+◌, ◌*◌, ◌≤◌, List, [], ◌∷◌, length, Option, Some, None, arith}
use Rattle.lowering_draft.proofs.ExpressionsStand.{length-instr}
use Rattle.lowering_draft.specs.Draft.{with_instr, with_instrs}
use Rattle.lowering_draft.specs.Emission.Expressions.{Emission}
use Rattle.lowering_draft.specs.declared.draft.Draft.{Draft}
use Rattle.os_ast.specs.Spelling.{Symbol, Printer}
use Rattle.os_ast.specs.declared.expr.Binary.{Binary}
use Rattle.os_ast.specs.declared.names.What.{What}
use Rattle.os_ast.specs.declared.names.What.TheVariants as what
use Rattle.os_code.specs.declared.instr.Instr.{Instr}
use Rattle.cddf_meaning.specs.Operators.{operator_of_two}
use Rattle.c_int.specs.declared.operators.Binary as int_binary
use Rattle.lowering_relation.specs.Expressions.{operation, operation_of}
use Rattle.lowering_relation.specs.Names.{aiming, reading}

-- Between what follows and the whole, each token pays 8 instructions, and at most `more` beyond these are there.
abbrev pub Pays : Emission → Printer → (more : ℕ) → Type 0
Pays f p more = (d : Draft) (rest : List Symbol) → length (f d).instrs + 8 * length rest ≤ length d.instrs + 8 * length (p rest) + more

-- one instruction and several
pub length-instrs : (d : Draft) (is : List Instr) → length (with_instrs d is).instrs ≡ length d.instrs + length is
length-instrs d [] = omega arith
length-instrs d (i ∷ is) = omega (arith, length-instrs (with_instr d i) is, length-instr d i)

-- what names and operators need
pub reading_few : (w : What) (line : ℕ) → length (reading w line) ≤ 2
reading_few (what.Constant v) line = omega arith
reading_few (what.Function n) line = omega arith
reading_few (what.Scalar slot) line = omega arith
reading_few (what.Array first size) line = omega arith
reading_few (what.Window slot) line = omega arith
reading_few (what.Stream first count) line = omega arith
reading_few (what.Element item) line = omega arith
reading_few (what.View item) line = omega arith

pub aiming_few : (w : What) → length (aiming w) ≤ 1
aiming_few (what.Constant v) = omega arith
aiming_few (what.Function n) = omega arith
aiming_few (what.Scalar slot) = omega arith
aiming_few (what.Array first size) = omega arith
aiming_few (what.Window slot) = omega arith
aiming_few (what.Stream first count) = omega arith
aiming_few (what.Element item) = omega arith
aiming_few (what.View item) = omega arith

operation_of_few : (op : Option int_binary.Binary) (line : ℕ) (u v : Bool) → length (operation_of op line u v) ≤ 3
operation_of_few None line u v = omega arith
operation_of_few (Some op) line u v = omega arith

pub operation_few : (op : Binary) (line : ℕ) (u v : Bool) → length (operation op line u v) ≤ 3
operation_few op line u v = operation_of_few (operator_of_two op) line u v
