-- What the next token says of a statement.
use Rattle.std.specs.Prelude.{ℕ, true, false, List, [], ◌∷◌, Option, Some, None, nat_lt, ◌^◌, if◌then◌else◌}
use Rattle.os_ast.specs.Means.{Placed, placed}
use Rattle.os_ast.specs.declared.expr.Binary.TheVariants as binary
use Rattle.os_ast.specs.declared.stmt.Assign.TheVariants as assign
use Rattle.os_ast.specs.declared.stmt.Step.TheVariants as step
use Rattle.os_lexer.specs.declared.token.Key.{Key}
use Rattle.os_lexer.specs.declared.token.Key.TheVariants as keys
use Rattle.os_lexer.specs.declared.token.Kind.{Kind}
use Rattle.os_lexer.specs.declared.token.Kind.TheVariants as kind
use Rattle.os_lexer.specs.declared.token.Punct.{Punct}
use Rattle.os_lexer.specs.declared.token.Punct.TheVariants as puncts
use Rattle.os_parser_grammar.specs.declared.change_sign.ChangeSign.{ChangeSign}
use Rattle.os_parser_grammar.specs.declared.change_sign.ChangeSign.TheVariants as signs
use Rattle.os_parser_grammar.specs.declared.numeral.Numeral.{Numeral}
use Rattle.os_parser_grammar.specs.declared.stmt_start.StmtStart.{StmtStart}
use Rattle.os_parser_grammar.specs.declared.stmt_start.StmtStart.TheVariants as starts

-- how a statement that begins with a mark goes on
abbrev pub punct_stmt : Punct → StmtStart
punct_stmt puncts.ShiftLeftSet = starts.Other
punct_stmt puncts.ShiftRightSet = starts.Other
punct_stmt puncts.AddSet = starts.Other
punct_stmt puncts.SubtractSet = starts.Other
punct_stmt puncts.MultiplySet = starts.Other
punct_stmt puncts.DivideSet = starts.Other
punct_stmt puncts.RemainderSet = starts.Other
punct_stmt puncts.BitAndSet = starts.Other
punct_stmt puncts.BitXorSet = starts.Other
punct_stmt puncts.BitOrSet = starts.Other
punct_stmt puncts.Up = starts.Step step.Up
punct_stmt puncts.Down = starts.Step step.Down
punct_stmt puncts.ShiftLeft = starts.Other
punct_stmt puncts.ShiftRight = starts.Other
punct_stmt puncts.LessEqual = starts.Other
punct_stmt puncts.GreaterEqual = starts.Other
punct_stmt puncts.Equal = starts.Other
punct_stmt puncts.Unequal = starts.Other
punct_stmt puncts.And = starts.Other
punct_stmt puncts.Or = starts.Other
punct_stmt puncts.Plus = starts.Other
punct_stmt puncts.Minus = starts.Other
punct_stmt puncts.Star = starts.Other
punct_stmt puncts.Slash = starts.Other
punct_stmt puncts.Percent = starts.Other
punct_stmt puncts.Less = starts.Other
punct_stmt puncts.Greater = starts.Other
punct_stmt puncts.Set = starts.Other
punct_stmt puncts.BitAnd = starts.Other
punct_stmt puncts.BitXor = starts.Other
punct_stmt puncts.BitOr = starts.Other
punct_stmt puncts.Not = starts.Other
punct_stmt puncts.Invert = starts.Other
punct_stmt puncts.Question = starts.Other
punct_stmt puncts.Colon = starts.Other
punct_stmt puncts.Semicolon = starts.Semicolon
punct_stmt puncts.Comma = starts.Other
punct_stmt puncts.OpenParen = starts.Other
punct_stmt puncts.CloseParen = starts.Other
punct_stmt puncts.OpenBracket = starts.Other
punct_stmt puncts.CloseBracket = starts.Other
punct_stmt puncts.OpenBrace = starts.Brace
punct_stmt puncts.CloseBrace = starts.Other

-- how a statement that begins with a keyword goes on
abbrev pub key_stmt : Key → StmtStart
key_stmt keys.Int = starts.Other
key_stmt keys.Const = starts.Other
key_stmt keys.Void = starts.Other
key_stmt keys.If = starts.If
key_stmt keys.Else = starts.Other
key_stmt keys.While = starts.While
key_stmt keys.For = starts.For
key_stmt keys.Break = starts.Break
key_stmt keys.Continue = starts.Continue
key_stmt keys.Return = starts.Return
key_stmt keys.Attribute = starts.Other
key_stmt keys.Unsigned = starts.Other
key_stmt keys.Other = starts.Other

-- how a statement that begins with a token goes on
abbrev pub stmt_start : Kind → StmtStart
stmt_start (kind.Name n) = starts.Name n
stmt_start (kind.Punct p) = punct_stmt p
stmt_start (kind.Key k) = key_stmt k
stmt_start (kind.Number n) = starts.Other
stmt_start (kind.Wide n) = starts.Other
stmt_start kind.PragmaStart = starts.Pragma
stmt_start kind.PragmaEnd = starts.Other

abbrev pub stmt_at : List Placed → StmtStart
stmt_at [] = starts.Other
stmt_at (placed k m ∷ ts) = stmt_start k

-- the change of a target that a mark behind it makes
abbrev pub punct_change : Punct → ChangeSign
punct_change puncts.ShiftLeftSet = signs.Assign (assign.With binary.ShiftLeft)
punct_change puncts.ShiftRightSet = signs.Assign (assign.With binary.ShiftRight)
punct_change puncts.AddSet = signs.Assign (assign.With binary.Add)
punct_change puncts.SubtractSet = signs.Assign (assign.With binary.Subtract)
punct_change puncts.MultiplySet = signs.Assign (assign.With binary.Multiply)
punct_change puncts.DivideSet = signs.Assign (assign.With binary.Divide)
punct_change puncts.RemainderSet = signs.Assign (assign.With binary.Remainder)
punct_change puncts.BitAndSet = signs.Assign (assign.With binary.BitAnd)
punct_change puncts.BitXorSet = signs.Assign (assign.With binary.BitXor)
punct_change puncts.BitOrSet = signs.Assign (assign.With binary.BitOr)
punct_change puncts.Up = signs.Step step.Up
punct_change puncts.Down = signs.Step step.Down
punct_change puncts.ShiftLeft = signs.Other
punct_change puncts.ShiftRight = signs.Other
punct_change puncts.LessEqual = signs.Other
punct_change puncts.GreaterEqual = signs.Other
punct_change puncts.Equal = signs.Other
punct_change puncts.Unequal = signs.Other
punct_change puncts.And = signs.Other
punct_change puncts.Or = signs.Other
punct_change puncts.Plus = signs.Other
punct_change puncts.Minus = signs.Other
punct_change puncts.Star = signs.Other
punct_change puncts.Slash = signs.Other
punct_change puncts.Percent = signs.Other
punct_change puncts.Less = signs.Other
punct_change puncts.Greater = signs.Other
punct_change puncts.Set = signs.Assign assign.Plain
punct_change puncts.BitAnd = signs.Other
punct_change puncts.BitXor = signs.Other
punct_change puncts.BitOr = signs.Other
punct_change puncts.Not = signs.Other
punct_change puncts.Invert = signs.Other
punct_change puncts.Question = signs.Other
punct_change puncts.Colon = signs.Other
punct_change puncts.Semicolon = signs.Other
punct_change puncts.Comma = signs.Other
punct_change puncts.OpenParen = signs.Other
punct_change puncts.CloseParen = signs.Other
punct_change puncts.OpenBracket = signs.Other
punct_change puncts.CloseBracket = signs.Other
punct_change puncts.OpenBrace = signs.Other
punct_change puncts.CloseBrace = signs.Other

-- the change of a target that a token behind it makes
abbrev pub change_sign : Kind → ChangeSign
change_sign (kind.Punct p) = punct_change p
change_sign (kind.Name n) = signs.Other
change_sign (kind.Number n) = signs.Other
change_sign (kind.Wide n) = signs.Other
change_sign (kind.Key k) = signs.Other
change_sign kind.PragmaStart = signs.Other
change_sign kind.PragmaEnd = signs.Other

abbrev pub change_at : List Placed → ChangeSign
change_at [] = signs.Other
change_at (placed k m ∷ ts) = change_sign k

-- the number of the next token, where it is a name
abbrev pub name_of : Kind → Option ℕ
name_of (kind.Name n) = Some n
name_of (kind.Punct p) = None
name_of (kind.Number n) = None
name_of (kind.Wide n) = None
name_of (kind.Key k) = None
name_of kind.PragmaStart = None
name_of kind.PragmaEnd = None

abbrev pub name_at : List Placed → Option ℕ
name_at [] = None
name_at (placed k m ∷ ts) = name_of k

-- the next token, where it is a number below 2^31, or a wide one below 2^32
abbrev pub numeral_of : Kind → Option Numeral
numeral_of (kind.Number n) = if nat_lt n (2 ^ 31) then Some (record { size = n; wide = false }) else None
numeral_of (kind.Wide n) = if nat_lt n (2 ^ 32) then Some (record { size = n; wide = true }) else None
numeral_of (kind.Name n) = None
numeral_of (kind.Punct p) = None
numeral_of (kind.Key k) = None
numeral_of kind.PragmaStart = None
numeral_of kind.PragmaEnd = None

abbrev pub number_at : List Placed → Option Numeral
number_at [] = None
number_at (placed k m ∷ ts) = numeral_of k
