-- Where the production of a program, at most 200 deep, refuses tokens.
use Rattle.std.specs.Prelude.{◌≡◌, ◌-◌, List, length}
use Rattle.os_ast.specs.Fronts.{IsPlace}
use Rattle.os_ast.specs.Means.{Placed, placed_from}
use Rattle.os_lexer.specs.declared.token.Token.{Token}
use Rattle.os_parser_grammar.specs.Reading.{fails}
use Rattle.os_parser_grammar.specs.Statements.{outermost, program}

-- Where the grammar's reader refuses tokens, it stands at their place: as many tokens are left as stand from the place on.
abbrev pub RefusedAtItsPlace : Type 0
RefusedAtItsPlace = (tokens : List Token) (rest : List Placed) → program outermost (placed_from 0 tokens) ≡ fails rest →
    IsPlace tokens (length tokens - length rest)
