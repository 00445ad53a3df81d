use Rattle.std.proofs.Common.{arith, rules, ap}
use Rattle.os_ast.specs.declared.stmt.Stmt.{the_lemmas}
use Rattle.os_ast.specs.Depth.{stmt_depth}
use Rattle.os_ast.proofs.Rows.{stmt_tree-block}
use Rattle.os_ast.proofs.nesting.+stmts.Goals as goal

pub depth_of_stmt-depth_of_stmts-requires : goal.depth_of_stmt-depth_of_stmts-requires
depth_of_stmt-depth_of_stmts-requires t c =
    let block = ap stmt_depth (stmt_tree-block c.in-Block.stmts) in
    (search (rules, the_lemmas), omega (arith, block, rw c.in-Block.is at c.requires))
