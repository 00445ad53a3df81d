-- What the next token says of an expression.
use Rattle.std.specs.Prelude.{ℕ, List, [], ◌∷◌, Option, Some, None, nat_eq, nat_lt, ◌^◌, if◌then◌else◌}
use Rattle.os_ast.specs.Means.{Placed, placed}
use Rattle.os_ast.specs.Operators.{level_of, precedence}
use Rattle.os_ast.specs.declared.expr.Binary.{Binary}
use Rattle.os_ast.specs.declared.expr.Binary.TheVariants as binary
use Rattle.os_ast.specs.declared.expr.Level.{Level}
use Rattle.os_ast.specs.declared.expr.Level.TheVariants as level
use Rattle.os_ast.specs.declared.expr.Unary.TheVariants as unary
use Rattle.os_lexer.specs.declared.token.Kind.{Kind}
use Rattle.os_lexer.specs.declared.token.Kind.TheVariants as kind
use Rattle.os_lexer.specs.declared.token.Punct.{Punct}
use Rattle.os_lexer.specs.declared.token.Punct.TheVariants as puncts
use Rattle.os_parser_grammar.specs.declared.operand_start.OperandStart.{OperandStart}
use Rattle.os_parser_grammar.specs.declared.operand_start.OperandStart.TheVariants as starts

-- how an operand that begins with a mark goes on
abbrev pub punct_start : Punct → OperandStart
punct_start puncts.ShiftLeftSet = starts.Other
punct_start puncts.ShiftRightSet = starts.Other
punct_start puncts.AddSet = starts.Other
punct_start puncts.SubtractSet = starts.Other
punct_start puncts.MultiplySet = starts.Other
punct_start puncts.DivideSet = starts.Other
punct_start puncts.RemainderSet = starts.Other
punct_start puncts.BitAndSet = starts.Other
punct_start puncts.BitXorSet = starts.Other
punct_start puncts.BitOrSet = starts.Other
punct_start puncts.Up = starts.Other
punct_start puncts.Down = starts.Other
punct_start puncts.ShiftLeft = starts.Other
punct_start puncts.ShiftRight = starts.Other
punct_start puncts.LessEqual = starts.Other
punct_start puncts.GreaterEqual = starts.Other
punct_start puncts.Equal = starts.Other
punct_start puncts.Unequal = starts.Other
punct_start puncts.And = starts.Other
punct_start puncts.Or = starts.Other
punct_start puncts.Plus = starts.Sign unary.Plus
punct_start puncts.Minus = starts.Sign unary.Minus
punct_start puncts.Star = starts.Other
punct_start puncts.Slash = starts.Other
punct_start puncts.Percent = starts.Other
punct_start puncts.Less = starts.Other
punct_start puncts.Greater = starts.Other
punct_start puncts.Set = starts.Other
punct_start puncts.BitAnd = starts.Other
punct_start puncts.BitXor = starts.Other
punct_start puncts.BitOr = starts.Other
punct_start puncts.Not = starts.Sign unary.Not
punct_start puncts.Invert = starts.Sign unary.Invert
punct_start puncts.Question = starts.Other
punct_start puncts.Colon = starts.Other
punct_start puncts.Semicolon = starts.Other
punct_start puncts.Comma = starts.Other
punct_start puncts.OpenParen = starts.Paren
punct_start puncts.CloseParen = starts.Other
punct_start puncts.OpenBracket = starts.Other
punct_start puncts.CloseBracket = starts.Other
punct_start puncts.OpenBrace = starts.Other
punct_start puncts.CloseBrace = starts.Other

-- how an operand that begins with a token goes on; a number is below 2^31, and a wide one below 2^32
abbrev pub operand_start : Kind → OperandStart
operand_start (kind.Number n) = if nat_lt n (2 ^ 31) then starts.Number n else starts.Other
operand_start (kind.Wide n) = if nat_lt n (2 ^ 32) then starts.Wide n else starts.Other
operand_start (kind.Name n) = starts.Name n
operand_start (kind.Punct p) = punct_start p
operand_start (kind.Key k) = starts.Other
operand_start kind.PragmaStart = starts.Other
operand_start kind.PragmaEnd = starts.Other

abbrev pub start_at : List Placed → OperandStart
start_at [] = starts.Other
start_at (placed k m ∷ ts) = operand_start k

-- the operator with two operands that a mark spells
abbrev pub punct_binary : Punct → Option Binary
punct_binary puncts.ShiftLeftSet = None
punct_binary puncts.ShiftRightSet = None
punct_binary puncts.AddSet = None
punct_binary puncts.SubtractSet = None
punct_binary puncts.MultiplySet = None
punct_binary puncts.DivideSet = None
punct_binary puncts.RemainderSet = None
punct_binary puncts.BitAndSet = None
punct_binary puncts.BitXorSet = None
punct_binary puncts.BitOrSet = None
punct_binary puncts.Up = None
punct_binary puncts.Down = None
punct_binary puncts.ShiftLeft = Some binary.ShiftLeft
punct_binary puncts.ShiftRight = Some binary.ShiftRight
punct_binary puncts.LessEqual = Some binary.LessEqual
punct_binary puncts.GreaterEqual = Some binary.GreaterEqual
punct_binary puncts.Equal = Some binary.Equal
punct_binary puncts.Unequal = Some binary.Unequal
punct_binary puncts.And = Some binary.And
punct_binary puncts.Or = Some binary.Or
punct_binary puncts.Plus = Some binary.Add
punct_binary puncts.Minus = Some binary.Subtract
punct_binary puncts.Star = Some binary.Multiply
punct_binary puncts.Slash = Some binary.Divide
punct_binary puncts.Percent = Some binary.Remainder
punct_binary puncts.Less = Some binary.Less
punct_binary puncts.Greater = Some binary.Greater
punct_binary puncts.Set = None
punct_binary puncts.BitAnd = Some binary.BitAnd
punct_binary puncts.BitXor = Some binary.BitXor
punct_binary puncts.BitOr = Some binary.BitOr
punct_binary puncts.Not = None
punct_binary puncts.Invert = None
punct_binary puncts.Question = None
punct_binary puncts.Colon = None
punct_binary puncts.Semicolon = None
punct_binary puncts.Comma = None
punct_binary puncts.OpenParen = None
punct_binary puncts.CloseParen = None
punct_binary puncts.OpenBracket = None
punct_binary puncts.CloseBracket = None
punct_binary puncts.OpenBrace = None
punct_binary puncts.CloseBrace = None

-- the operator with two operands that a token spells
abbrev pub binary_of : Kind → Option Binary
binary_of (kind.Punct p) = punct_binary p
binary_of (kind.Number n) = None
binary_of (kind.Wide n) = None
binary_of (kind.Name n) = None
binary_of (kind.Key k) = None
binary_of kind.PragmaStart = None
binary_of kind.PragmaEnd = None

-- the precedence of an operator
abbrev pub op_precedence : Binary → ℕ
op_precedence op = precedence (level_of op)

-- an operator, where it has a precedence
abbrev pub of_precedence : ℕ → Option Binary → Option Binary
of_precedence r None = None
of_precedence r (Some op) = if nat_eq (op_precedence op) r then Some op else None

-- the operator of this precedence that the next token spells
abbrev pub operator_at : ℕ → List Placed → Option Binary
operator_at r [] = None
operator_at r (placed k m ∷ ts) = of_precedence r (binary_of k)

-- the level that has this precedence
abbrev pub level_at : ℕ → Level
level_at r =
    if nat_eq r 1 then level.Or else
    if nat_eq r 2 then level.And else
    if nat_eq r 3 then level.BitOr else
    if nat_eq r 4 then level.BitXor else
    if nat_eq r 5 then level.BitAnd else
    if nat_eq r 6 then level.Equal else
    if nat_eq r 7 then level.Order else
    if nat_eq r 8 then level.Shift else
    if nat_eq r 9 then level.Sum else
    level.Product
