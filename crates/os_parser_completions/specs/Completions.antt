-- What the tokens before a refusal are.
use Rattle.std.specs.Prelude.{◌≡◌, List, ◌++◌, map}
use Rattle.os_ast.specs.Fronts.{Begun}
use Rattle.os_ast.specs.Means.{Placed, placed}
use Rattle.os_lexer.specs.declared.token.Kind.{Kind}
use Rattle.os_parser_grammar.specs.Reading.{fails}
use Rattle.os_parser_grammar.specs.Statements.{outermost, program}

-- the kind of a token
abbrev pub kind_in : Placed → Kind
kind_in (placed k m) = k

-- Where the production of a program, at most 200 deep, refuses, the tokens that it took are the front of a program.
abbrev pub RefusedHasFront : Type 0
RefusedHasFront = (tokens rest : List Placed) → program outermost tokens ≡ fails rest →
    (front : List Placed) × (tokens ≡ front ++ rest) × Begun (map kind_in front)
