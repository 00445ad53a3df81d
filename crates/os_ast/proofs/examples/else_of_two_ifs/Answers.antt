use Rattle.std.proofs.Common.{rules, refl, arith}
use Rattle.os_ast.specs.Examples.Branches.{tokens, inner, outer}
use Rattle.os_ast.specs.Leveled as leveled
use Rattle.os_ast.specs.Leveled.{IsLeveled, AreAll, IsItem}
use Rattle.os_ast.specs.Means.{placed_from}
use Rattle.os_ast.specs.Spelling.{symbols}
use Rattle.os_ast.proofs.Fits.{fit-computed, replaced}
use Rattle.os_ast.proofs.Leveling.{levels}
use Rattle.os_ast.proofs.examples.else_of_two_ifs.Goals as goal

pub returns-clause-inner : goal.returns-clause-inner
unfolding replaced
returns-clause-inner c = record {
  leveled = record { items = search (levels, rules) depth 40; depth = omega arith };
  spelled = fit-computed (symbols inner) (placed_from 0 tokens) refl;
}

refused : AreAll IsItem outer → ⊥
refused (leveled.cons (leveled.function params (leveled.stmt (leveled.if_else test first closed second) rest)) none) = cc closed

pub returns-clause-outer : goal.returns-clause-outer
returns-clause-outer c h = refused h.items
