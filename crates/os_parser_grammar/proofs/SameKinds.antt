-- Kinds are the same exactly where they are equal.
use Rattle.std.proofs.Common.{◌≡◌, ℕ, cond, true, refl, sym, ap, ◌∙◌, eqb, eq-eqb, eqb-true, Decides}
use Rattle.std.proofs.Common.{List, [], ◌∷◌, Some}
use Rattle.os_ast.specs.Means.{Placed, placed}
use Rattle.os_parser_grammar.specs.Kinds.{key_number, punct_number, same}
use Rattle.os_parser_grammar.specs.Reading.{kind_at, begins}
use Rattle.os_lexer.specs.declared.token.Key.{Key}
use Rattle.os_lexer.specs.declared.token.Key.TheVariants as keys
use Rattle.os_lexer.specs.declared.token.Kind.{Kind}
use Rattle.os_lexer.specs.declared.token.Kind.TheVariants as kind
use Rattle.os_lexer.specs.declared.token.Punct.{Punct}
use Rattle.os_lexer.specs.declared.token.Punct.TheVariants as puncts

abbrev key_at : ℕ → Key
key_at n = cond (eqb n 0) keys.Int (cond (eqb n 1) keys.Const (cond (eqb n 2) keys.Void (cond (eqb n 3) keys.If (cond (eqb n 4) keys.Else (cond (eqb n 5) keys.While (cond (eqb n 6) keys.For (cond (eqb n 7) keys.Break (cond (eqb n 8) keys.Continue (cond (eqb n 9) keys.Return (cond (eqb n 10) keys.Attribute (cond (eqb n 11) keys.Unsigned (keys.Other))))))))))))

abbrev punct_at : ℕ → Punct
punct_at n = cond (eqb n 0) puncts.ShiftLeftSet (cond (eqb n 1) puncts.ShiftRightSet (cond (eqb n 2) puncts.AddSet (cond (eqb n 3) puncts.SubtractSet (cond (eqb n 4) puncts.MultiplySet (cond (eqb n 5) puncts.DivideSet (cond (eqb n 6) puncts.RemainderSet (cond (eqb n 7) puncts.BitAndSet (cond (eqb n 8) puncts.BitXorSet (cond (eqb n 9) puncts.BitOrSet (cond (eqb n 10) puncts.Up (cond (eqb n 11) puncts.Down (cond (eqb n 12) puncts.ShiftLeft (cond (eqb n 13) puncts.ShiftRight (cond (eqb n 14) puncts.LessEqual (cond (eqb n 15) puncts.GreaterEqual (cond (eqb n 16) puncts.Equal (cond (eqb n 17) puncts.Unequal (cond (eqb n 18) puncts.And (cond (eqb n 19) puncts.Or (cond (eqb n 20) puncts.Plus (cond (eqb n 21) puncts.Minus (cond (eqb n 22) puncts.Star (cond (eqb n 23) puncts.Slash (cond (eqb n 24) puncts.Percent (cond (eqb n 25) puncts.Less (cond (eqb n 26) puncts.Greater (cond (eqb n 27) puncts.Set (cond (eqb n 28) puncts.BitAnd (cond (eqb n 29) puncts.BitXor (cond (eqb n 30) puncts.BitOr (cond (eqb n 31) puncts.Not (cond (eqb n 32) puncts.Invert (cond (eqb n 33) puncts.Question (cond (eqb n 34) puncts.Colon (cond (eqb n 35) puncts.Semicolon (cond (eqb n 36) puncts.Comma (cond (eqb n 37) puncts.OpenParen (cond (eqb n 38) puncts.CloseParen (cond (eqb n 39) puncts.OpenBracket (cond (eqb n 40) puncts.CloseBracket (cond (eqb n 41) puncts.OpenBrace (puncts.CloseBrace))))))))))))))))))))))))))))))))))))))))))

key_at-number : (k : Key) → key_at (key_number k) ≡ k
key_at-number keys.Int = refl
key_at-number keys.Const = refl
key_at-number keys.Void = refl
key_at-number keys.If = refl
key_at-number keys.Else = refl
key_at-number keys.While = refl
key_at-number keys.For = refl
key_at-number keys.Break = refl
key_at-number keys.Continue = refl
key_at-number keys.Return = refl
key_at-number keys.Attribute = refl
key_at-number keys.Unsigned = refl
key_at-number keys.Other = refl

punct_at-number : (p : Punct) → punct_at (punct_number p) ≡ p
punct_at-number puncts.ShiftLeftSet = refl
punct_at-number puncts.ShiftRightSet = refl
punct_at-number puncts.AddSet = refl
punct_at-number puncts.SubtractSet = refl
punct_at-number puncts.MultiplySet = refl
punct_at-number puncts.DivideSet = refl
punct_at-number puncts.RemainderSet = refl
punct_at-number puncts.BitAndSet = refl
punct_at-number puncts.BitXorSet = refl
punct_at-number puncts.BitOrSet = refl
punct_at-number puncts.Up = refl
punct_at-number puncts.Down = refl
punct_at-number puncts.ShiftLeft = refl
punct_at-number puncts.ShiftRight = refl
punct_at-number puncts.LessEqual = refl
punct_at-number puncts.GreaterEqual = refl
punct_at-number puncts.Equal = refl
punct_at-number puncts.Unequal = refl
punct_at-number puncts.And = refl
punct_at-number puncts.Or = refl
punct_at-number puncts.Plus = refl
punct_at-number puncts.Minus = refl
punct_at-number puncts.Star = refl
punct_at-number puncts.Slash = refl
punct_at-number puncts.Percent = refl
punct_at-number puncts.Less = refl
punct_at-number puncts.Greater = refl
punct_at-number puncts.Set = refl
punct_at-number puncts.BitAnd = refl
punct_at-number puncts.BitXor = refl
punct_at-number puncts.BitOr = refl
punct_at-number puncts.Not = refl
punct_at-number puncts.Invert = refl
punct_at-number puncts.Question = refl
punct_at-number puncts.Colon = refl
punct_at-number puncts.Semicolon = refl
punct_at-number puncts.Comma = refl
punct_at-number puncts.OpenParen = refl
punct_at-number puncts.CloseParen = refl
punct_at-number puncts.OpenBracket = refl
punct_at-number puncts.CloseBracket = refl
punct_at-number puncts.OpenBrace = refl
punct_at-number puncts.CloseBrace = refl

key_number-injective : (a b : Key) → key_number a ≡ key_number b → a ≡ b
key_number-injective a b e = sym (key_at-number a) ∙ ap key_at e ∙ key_at-number b

punct_number-injective : (a b : Punct) → punct_number a ≡ punct_number b → a ≡ b
punct_number-injective a b e = sym (punct_at-number a) ∙ ap punct_at e ∙ punct_at-number b

pub same-equal : (a b : Kind) → same a b ≡ true → a ≡ b
same-equal (kind.Name a) (kind.Name b) e = ap kind.Name (eqb-true a b e)
same-equal (kind.Number a) (kind.Number b) e = ap kind.Number (eqb-true a b e)
same-equal (kind.Wide a) (kind.Wide b) e = ap kind.Wide (eqb-true a b e)
same-equal (kind.Key a) (kind.Key b) e = ap kind.Key (key_number-injective a b (eqb-true _ _ e))
same-equal (kind.Punct a) (kind.Punct b) e = ap kind.Punct (punct_number-injective a b (eqb-true _ _ e))
same-equal kind.PragmaStart kind.PragmaStart e = refl
same-equal kind.PragmaEnd kind.PragmaEnd e = refl
same-equal _ _ e = absurd (cc e)

pub same-self : (a : Kind) → same a a ≡ true
same-self (kind.Name a) = eq-eqb a a refl
same-self (kind.Number a) = eq-eqb a a refl
same-self (kind.Wide a) = eq-eqb a a refl
same-self (kind.Key a) = eq-eqb _ _ refl
same-self (kind.Punct a) = eq-eqb _ _ refl
same-self kind.PragmaStart = refl
same-self kind.PragmaEnd = refl

pub equal-same : (a b : Kind) → a ≡ b → same a b ≡ true
equal-same a b e = ap (same a) (sym e) ∙ same-self a

pub same-decides : (a b : Kind) → Decides (same a b) (a ≡ b)
same-decides a b = (same-equal a b, equal-same a b)

pub begins-kind_at : (k l : Kind) (ts : List Placed) → kind_at ts ≡ Some l → same l k ≡ begins k ts
begins-kind_at k l [] e = absurd (cc e)
begins-kind_at k l (placed n m ∷ ts) e = let h : l ≡ n = cc e in ap (λ x. same x k) h
