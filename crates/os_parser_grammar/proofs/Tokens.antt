-- How many tokens are left.
use Rattle.std.proofs.Common.{◌≡◌, ℕ, suc, ◌≤◌, ◌+◌, Some, true, List, [], ◌∷◌, length, refl, ap, arith}
use Rattle.os_ast.specs.Means.{Placed, placed_from}
use Rattle.os_lexer.specs.declared.token.Token.{Token}
use Rattle.os_ast.specs.declared.expr.Binary.{Binary}
use Rattle.os_lexer.specs.declared.token.Kind.{Kind}
use Rattle.os_parser_grammar.specs.Operands.{operator_at}
use Rattle.os_parser_grammar.specs.Reading.{after, begins}

pub length-placed_from : (k : ℕ) (ts : List Token) → length (placed_from k ts) ≡ length ts
length-placed_from k [] = refl
length-placed_from k (t ∷ ts) = ap suc (length-placed_from (suc k) ts)

pub length-after : (ts : List Placed) → length (after ts) ≤ length ts
length-after [] = omega arith
length-after (t ∷ ts) = omega arith

pub ruleset lengths = (length-placed_from, length-after)

pub operator-takes : (r : ℕ) (op : Binary) (ts : List Placed) → operator_at r ts ≡ Some op → length (after ts) + 1 ≤ length ts
operator-takes r op [] e = absurd (cc e)
operator-takes r op (t ∷ ts) e = omega arith

pub begins-takes : (k : Kind) (ts : List Placed) → begins k ts ≡ true → length (after ts) + 1 ≤ length ts
begins-takes k [] e = absurd (cc e)
begins-takes k (t ∷ ts) e = omega arith
