-- Loops, as the functions of the program have them.
use Rattle.std.specs.Prelude.{Option, option_map}
use Rattle.cddf_meaning.specs.Flow.{Runs}
use Rattle.cddf_meaning.specs.Run.{Around, loop, run, run_test, run_step}
use Rattle.os_ast.specs.Views.{expr_tree, stmt_tree, change_tree}
use Rattle.os_ast.specs.declared.expr.Expr.{Expr}
use Rattle.os_ast.specs.declared.stmt.Change.{Change}
use Rattle.os_ast.specs.declared.stmt.Stmt.{Stmt}

-- a loop whose test and step may be left out, over a state and turns
abbrev pub repeated : Around → Option Expr → Stmt → Option Change → Runs
repeated u test body step s turns =
    loop turns (run_test u.file (option_map expr_tree test)) (run u (stmt_tree body)) (run_step u.file (option_map change_tree step)) s turns
