use Rattle.std.proofs.Common.{rules, refl, arith}
use Rattle.os_ast.specs.Examples.Unsigned.{tokens, program}
use Rattle.os_ast.specs.Means.{placed_from}
use Rattle.os_ast.specs.Spelling.{symbols}
use Rattle.os_ast.proofs.Fits.{fit-computed, replaced}
use Rattle.os_ast.proofs.Leveling.{levels}
use Rattle.os_ast.proofs.examples.unsigned_declarations.Goals as goal

pub returns : goal.returns
unfolding replaced
returns c = record {
  leveled = record { items = search (levels, rules) depth 60 fits 20000; depth = omega arith };
  spelled = fit-computed (symbols program) (placed_from 0 tokens) refl;
}
