-- All violations of a text.
use Rattle.std.specs.Prelude.{List, Option}
use Rattle.std.specs.List.{slice_get}
use Rattle.os_ast.specs.Means.{Means}
use Rattle.os_ast.specs.Trees.{ProgramTree}
use Rattle.os_ast.specs.declared.violation.Violation.{Violation}
use Rattle.os_lexer.specs.declared.token.Token.{Token}
use Rattle.window_check.specs.Listed.{IsListOf}

-- the list has the violations of the program that the tokens mean, in order and no others
abbrev pub IsListOfTokens : List Token → List Violation → Type 0
IsListOfTokens tokens vs = (p : ProgramTree) × Means tokens p × IsListOf p vs

-- the token that a violation stands at
abbrev pub token_of : List Token → Violation → Option Token
token_of tokens v = slice_get tokens v.place
