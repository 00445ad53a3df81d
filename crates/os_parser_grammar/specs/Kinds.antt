-- Which kinds of tokens are the same.
use Rattle.std.specs.Prelude.{ℕ, Bool, true, false, nat_eq}
use Rattle.os_lexer.specs.declared.token.Key.{Key}
use Rattle.os_lexer.specs.declared.token.Key.TheVariants as keys
use Rattle.os_lexer.specs.declared.token.Kind.{Kind}
use Rattle.os_lexer.specs.declared.token.Kind.TheVariants as kind
use Rattle.os_lexer.specs.declared.token.Punct.{Punct}
use Rattle.os_lexer.specs.declared.token.Punct.TheVariants as puncts

-- the number of a keyword
abbrev pub key_number : Key → ℕ
key_number keys.Int = 0
key_number keys.Const = 1
key_number keys.Void = 2
key_number keys.If = 3
key_number keys.Else = 4
key_number keys.While = 5
key_number keys.For = 6
key_number keys.Break = 7
key_number keys.Continue = 8
key_number keys.Return = 9
key_number keys.Attribute = 10
key_number keys.Unsigned = 11
key_number keys.Other = 12

-- the number of a mark
abbrev pub punct_number : Punct → ℕ
punct_number puncts.ShiftLeftSet = 0
punct_number puncts.ShiftRightSet = 1
punct_number puncts.AddSet = 2
punct_number puncts.SubtractSet = 3
punct_number puncts.MultiplySet = 4
punct_number puncts.DivideSet = 5
punct_number puncts.RemainderSet = 6
punct_number puncts.BitAndSet = 7
punct_number puncts.BitXorSet = 8
punct_number puncts.BitOrSet = 9
punct_number puncts.Up = 10
punct_number puncts.Down = 11
punct_number puncts.ShiftLeft = 12
punct_number puncts.ShiftRight = 13
punct_number puncts.LessEqual = 14
punct_number puncts.GreaterEqual = 15
punct_number puncts.Equal = 16
punct_number puncts.Unequal = 17
punct_number puncts.And = 18
punct_number puncts.Or = 19
punct_number puncts.Plus = 20
punct_number puncts.Minus = 21
punct_number puncts.Star = 22
punct_number puncts.Slash = 23
punct_number puncts.Percent = 24
punct_number puncts.Less = 25
punct_number puncts.Greater = 26
punct_number puncts.Set = 27
punct_number puncts.BitAnd = 28
punct_number puncts.BitXor = 29
punct_number puncts.BitOr = 30
punct_number puncts.Not = 31
punct_number puncts.Invert = 32
punct_number puncts.Question = 33
punct_number puncts.Colon = 34
punct_number puncts.Semicolon = 35
punct_number puncts.Comma = 36
punct_number puncts.OpenParen = 37
punct_number puncts.CloseParen = 38
punct_number puncts.OpenBracket = 39
punct_number puncts.CloseBracket = 40
punct_number puncts.OpenBrace = 41
punct_number puncts.CloseBrace = 42

-- whether two kinds are the same
abbrev pub same : Kind → Kind → Bool
same (kind.Name a) (kind.Name b) = nat_eq a b
same (kind.Number a) (kind.Number b) = nat_eq a b
same (kind.Wide a) (kind.Wide b) = nat_eq a b
same (kind.Key a) (kind.Key b) = nat_eq (key_number a) (key_number b)
same (kind.Punct a) (kind.Punct b) = nat_eq (punct_number a) (punct_number b)
same kind.PragmaStart kind.PragmaStart = true
same kind.PragmaEnd kind.PragmaEnd = true
same _ _ = false
