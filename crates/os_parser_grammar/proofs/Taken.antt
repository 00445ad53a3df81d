-- Parts that are read are not empty.
use Rattle.std.proofs.Common.{◌≡◌, ℕ, zero, suc, ◌+◌, ◌≤◌, List, [], ◌∷◌, length, Option, arith}
use Rattle.os_ast.specs.Means.{Placed}
use Rattle.os_ast.specs.Trees.{ClauseTree, StmtTree, ItemTree}
use Rattle.os_parser_grammar.specs.Expressions.{Readers}
use Rattle.os_parser_grammar.specs.Reading.{got, after}
use Rattle.os_parser_grammar.specs.Statements.{Inner, inner, inner_item, block_item, stmt_on, stmt_by, clause, clause_kind, type_words, function, item}

pub clause-some : (b : Option Readers) (ts us : List Placed) (x : ClauseTree) → clause b ts ≡ got x us → length (after ts) + 1 ≤ length ts
unfolding clause clause_kind
clause-some b [] us x e = absurd (cc e)
clause-some b (t ∷ ts) us x e = omega arith

pub item-some : (s : Option Inner) (ts us : List Placed) (x : ItemTree) → item s ts ≡ got x us → length (after ts) + 1 ≤ length ts
unfolding item function type_words
item-some s [] us x e = absurd (cc e)
item-some s (t ∷ ts) us x e = omega arith

pub inner_item-some : (d : ℕ) (ts us : List Placed) (x : StmtTree) → inner_item (inner d) ts ≡ got x us → length (after ts) + 1 ≤ length ts
unfolding inner_item inner block_item stmt_on stmt_by
inner_item-some zero [] us x e = absurd (cc e)
inner_item-some (suc d) [] us x e = absurd (cc e)
inner_item-some d (t ∷ ts) us x e = omega arith
