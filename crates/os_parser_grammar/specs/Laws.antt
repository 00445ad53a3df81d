-- What the production of a program, at most 200 deep, gives of all of the tokens.
use Rattle.std.specs.Prelude.{◌≡◌, List, []}
use Rattle.os_ast.specs.Means.{Placed, placed_from, Means}
use Rattle.os_ast.specs.Trees.{ProgramTree}
use Rattle.os_lexer.specs.declared.token.Token.{Token}
use Rattle.os_parser_grammar.specs.Reading.{got, fails}
use Rattle.os_parser_grammar.specs.Statements.{outermost, program}

-- A program that the grammar's reader gives of tokens is one that they mean.
abbrev pub GivesWhatIsMeant : Type 0
GivesWhatIsMeant = (tokens : List Token) (p : ProgramTree) (rest : List Placed) → program outermost (placed_from 0 tokens) ≡ got p rest → Means tokens p

-- What the tokens mean is given, and no token is left.
abbrev pub GivenWhereMeant : Type 0
GivenWhereMeant = (tokens : List Token) (p : ProgramTree) → Means tokens p → program outermost (placed_from 0 tokens) ≡ got p []

-- Tokens are refused only where they mean no program.
abbrev pub RefusedWhereNoneIsMeant : Type 0
RefusedWhereNoneIsMeant = (tokens : List Token) (rest : List Placed) → program outermost (placed_from 0 tokens) ≡ fails rest →
    (p : ProgramTree) → Means tokens p → ⊥
