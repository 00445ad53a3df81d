use Rattle.std.proofs.Common.{ℕ, zero, suc, rules, arith}
use Rattle.os_ast.specs.Examples.Parentheses.{parens}
use Rattle.os_ast.specs.Leveled as leveled
use Rattle.os_ast.specs.Leveled.{IsExpr}
use Rattle.os_ast.specs.Trees as tree
use Rattle.os_ast.proofs.Leveling.{levels}
use Rattle.os_ast.proofs.examples.parentheses_at_the_limit.Goals as goal

-- parentheses stand wherever an expression does
parens-stand : (n : ℕ) (e : tree.ExprTree) → IsExpr e → IsExpr (parens n e)
parens-stand zero e h = h
parens-stand (suc n) e h = leveled.paren (parens-stand n e h)

pub returns-clause-leveled : goal.returns-clause-leveled
returns-clause-leveled c = record {
  items = leveled.cons
      (leveled.function leveled.void
      (leveled.stmt (leveled.return (parens-stand 197 (tree.Number 1) (search (levels, rules)))) leveled.no_stmts))
      leveled.nil;
  depth = omega arith;
}
