-- Programs with their tokens, both written down by hand.
pub mod Branches
pub mod Capturing
pub mod Invert
pub mod Parentheses
pub mod Productions
pub mod Refused
pub mod Rules
pub mod Several
pub mod Shadowing
pub mod Smooth
pub mod SmoothNames
pub mod Spreading
pub mod Stages
pub mod Subtractions
pub mod Unsigned
use Rattle.std.specs.Prelude.{ℕ, ◌+◌, false, List, [], ◌∷◌, Option, Some, None}
use Rattle.os_ast.specs.Meanings.{resolved}
use Rattle.os_ast.specs.Trees as tree
use Rattle.os_ast.specs.declared.expr.Mark.{Mark}
use Rattle.os_ast.specs.declared.expr.Name.{Name}
use Rattle.os_ast.specs.declared.names.Resolved.{Resolved}
use Rattle.os_ast.specs.declared.names.What.{What}
use Rattle.os_ast.specs.declared.program.Param.{Param}
use Rattle.os_ast.specs.declared.ty.Ty.TheVariants as ty
use Rattle.os_lexer.specs.declared.token.Kind.{Kind}
use Rattle.os_lexer.specs.declared.token.Token.{Token}

-- The tokens of a line. Where they lie in the text doesn't matter to what they mean.
abbrev pub on : ℕ → List Kind → List Token
on line [] = []
on line (k ∷ ks) = record { kind = k; start = 0; end = 0; line = line } ∷ on line ks

abbrev pub mark : ℕ → ℕ → Mark
mark place line = record { place = place; line = line }

-- a name with its number, its place and its line
abbrev pub named : ℕ → ℕ → ℕ → Name
named id place line = record { id = id; mark = mark place line }

-- a parameter of type `int`
abbrev pub int_param : ℕ → ℕ → ℕ → Param
int_param id place line = record { ty = ty.Int; name = named id place line }

-- a name of type `int`, by its place, and what it means
abbrev pub int_named : ℕ → What → Resolved
int_named place w = resolved place w false

abbrev pub variable : ℕ → ℕ → ℕ → tree.TargetTree
variable id place line = tree.Variable (named id place line)

-- a target with an index, whose bracket is the next token
abbrev pub element : ℕ → ℕ → ℕ → tree.ExprTree → tree.TargetTree
element id place line e = tree.Element (named id place line) (mark (place + 1) line) e

abbrev pub value : ℕ → ℕ → ℕ → tree.ExprTree
value id place line = tree.Place (variable id place line)

abbrev pub value_at : ℕ → ℕ → ℕ → tree.ExprTree → tree.ExprTree
value_at id place line e = tree.Place (element id place line e)

-- an index or a size whose bracket has this place and line
abbrev pub index : ℕ → ℕ → tree.ExprTree → Option tree.IndexTree
index place line e = Some (record { mark = mark place line; value = e })

abbrev pub scalar : Name → tree.DeclaratorTree
scalar n = record { name = n; size = None; stream = false; first = None }

abbrev pub scalar_of : Name → tree.ExprTree → tree.DeclaratorTree
scalar_of n e = record { name = n; size = None; stream = false; first = Some e }

abbrev pub window : ℕ → ℕ → ℕ → tree.ExprTree → tree.DeclaratorTree
window id place line size = record { name = named id place line; size = index (place + 1) line size; stream = false; first = None }

-- an item with an arrow
abbrev pub joined : tree.TargetTree → Mark → Name → Option tree.IndexTree → tree.ClauseItemTree
joined stream arrow name burst = record { stream = stream; window = Some (record { mark = arrow; name = name; burst = burst }) }

-- a clause without a comma before it
abbrev pub clause : tree.ClauseKindTree → tree.ClauseTree
clause kind = record { comma = false; kind = kind }

abbrev pub block : List tree.StmtTree → tree.Stmts
block [] = tree.no_stmts
block (s ∷ ss) = tree.stmt s (block ss)
