-- What is left of a depth.
use Rattle.std.specs.Prelude.{ℕ, ◌+◌, ◌≡◌, Some, None, Result, Ok, Err}
use Rattle.os_parser_grammar.specs.Expressions.{below, layer}
use Rattle.os_parser_grammar.specs.Statements.{inner, stmt_on, block_item}
use Rattle.os_parser_expressions.specs.declared.production_error.ProductionError.{ProductionError}
use Rattle.os_parser_expressions.specs.declared.production_error.ProductionError.TheVariants as errors

-- how many levels are left for the parts of an expression that stand one level deeper, or `Syntax` where none is left
abbrev pub Deepens : ℕ → Result ℕ ProductionError → Type 0
Deepens depth (Ok d) = (d + 1 ≡ depth) × (below depth ≡ Some (layer (below d)))
Deepens depth (Err e) = (e ≡ errors.Syntax) × (below depth ≡ None)

-- how many levels are left for the parts of a statement that stand one level deeper, or `Syntax` where none is left
abbrev pub DeepensStmt : ℕ → Result ℕ ProductionError → Type 0
DeepensStmt depth (Ok d) = (d + 1 ≡ depth)
    × (below depth ≡ Some (layer (below d)))
    × (inner depth ≡ Some (record { readers = layer (below d); stmt = stmt_on (inner d); item = block_item (below d) (stmt_on (inner d)) }))
DeepensStmt depth (Err e) = (e ≡ errors.Syntax) × (below depth ≡ None) × (inner depth ≡ None)
