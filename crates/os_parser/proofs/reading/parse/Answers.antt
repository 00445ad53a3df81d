use Rattle.std.proofs.Common.{◌≡◌, ◌-◌, ℕ, length, List, map, arith}
use Rattle.os_ast.specs.Fronts.{line_at, IsRefusedAt}
use Rattle.os_ast.specs.Means.{Placed, placed_from}
use Rattle.os_ast.specs.Views.{item_tree}
use Rattle.os_lexer.specs.declared.token.Token.{Token}
use Rattle.os_parser_grammar.specs.Reading.{fails}
use Rattle.os_parser_grammar.specs.Statements.{inner, program}
use Rattle.os_parser_expressions.specs.Gives.{Refuses}
use Rattle.os_parser_expressions.specs.declared.production_error.ProductionError.TheVariants as errors
use Rattle.os_parser_grammar.proofs.Programs.{whole, never}
use Rattle.os_parser_places.proofs.PlaceOfRefusal.{place, rest-within}
use Rattle.os_parser.proofs.reading.parse.Goals as goal

pub refusal-requires-clause-left : goal.refusal-requires-clause-left
refusal-requires-clause-left c =
    let gives : Refuses errors.Syntax c.program.new.cursor (program (inner 199) c.new-cursor.result) = rw c.in-Err-Syntax.field-0-is at c.in-Err-Syntax.ensures.gives in
    let less = rest-within c.args.tokens.now c.program.new.cursor (rw (← c.new-cursor.ensures) gives) in
    omega (arith, less, c.left.ensures)

pub returns-in-Ok-clause-found : goal.returns-in-Ok-clause-found
returns-in-Ok-clause-found c =
    whole c.args.tokens.now (map item_tree c.in-Ok.items) c.program.new.cursor (rw (← c.new-cursor.ensures) c.in-Ok.ensures.gives)

-- the refusal of a whole text, by where the reader of programs left the cursor
refused : (tokens : List Token) (rest : List Placed) → program (inner 199) (placed_from 0 tokens) ≡ fails rest →
    (p line : ℕ) → p ≡ length tokens - length rest → line ≡ line_at tokens p → IsRefusedAt tokens p line
refused tokens rest fail p line at of_line =
    record { none = never tokens rest fail; at = rw at (place tokens rest fail); of_line = of_line }

pub returns-in-Err-Syntax-clause-refused : goal.returns-in-Err-Syntax-clause-refused
returns-in-Err-Syntax-clause-refused c =
    let gives : Refuses errors.Syntax c.program.new.cursor (program (inner 199) c.new-cursor.result) = rw c.in-Err-Syntax.field-0-is at c.in-Err-Syntax.ensures.gives in
    λ p line is.
    let told = c.refusal.ensures in
    let left = c.left.ensures in
    let at : p ≡ length c.args.tokens.now - length c.program.new.cursor = cc (told, left, is) in
    let of_line : line ≡ line_at c.args.tokens.now p = cc (told, left, is) in
    refused c.args.tokens.now c.program.new.cursor (rw (← c.new-cursor.ensures) gives) p line at of_line
