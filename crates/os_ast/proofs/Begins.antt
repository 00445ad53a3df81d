-- What each part of a program begins with.
use Rattle.std.proofs.Common.{List}
use Rattle.os_ast.specs.Beginnings as can
use Rattle.os_ast.specs.Beginnings.{BeginsWith, begins, CanBeginExpr, CanBeginStmt, CanBeginItem}
use Rattle.os_ast.specs.Spelling.{Symbol, type_words, expr, target, stmt, change, item}
use Rattle.os_ast.specs.Trees as tree
use Rattle.os_ast.specs.declared.expr.Unary.TheVariants as unary
use Rattle.os_ast.specs.declared.stmt.Step.TheVariants as step
use Rattle.os_ast.specs.declared.ty.Ty.{Ty}
use Rattle.os_ast.specs.declared.ty.Ty.TheVariants as ty_of

pub expr-begins : (e : tree.ExprTree) (rest : List Symbol) → BeginsWith CanBeginExpr (expr e rest)
expr-begins (tree.Choice c a b) rest = expr-begins c _
expr-begins (tree.Chain level first links) rest = expr-begins first _
expr-begins (tree.Unary unary.Minus m e) rest = begins can.CanBeginExpr.minus
expr-begins (tree.Unary unary.Plus m e) rest = begins can.CanBeginExpr.plus
expr-begins (tree.Unary unary.Not m e) rest = begins can.CanBeginExpr.not
expr-begins (tree.Unary unary.Invert m e) rest = begins can.CanBeginExpr.invert
expr-begins (tree.Number n) rest = begins can.CanBeginExpr.number
expr-begins (tree.Wide n) rest = begins can.CanBeginExpr.wide
expr-begins (tree.Place (tree.Variable n)) rest = begins can.CanBeginExpr.name
expr-begins (tree.Place (tree.Element n m e)) rest = begins can.CanBeginExpr.name
expr-begins (tree.ExprTree.Call f es) rest = begins can.CanBeginExpr.name
expr-begins (tree.Paren e) rest = begins can.CanBeginExpr.paren

target-begins : (t : tree.TargetTree) (rest : List Symbol) → BeginsWith CanBeginStmt (target t rest)
target-begins (tree.Variable n) rest = begins can.CanBeginStmt.name
target-begins (tree.Element n m e) rest = begins can.CanBeginStmt.name

change-begins : (c : tree.ChangeTree) (rest : List Symbol) → BeginsWith CanBeginStmt (change c rest)
change-begins (tree.Set t a m e) rest = target-begins t _
change-begins (tree.After t s m) rest = target-begins t _
change-begins (tree.Before t step.Up m) rest = begins can.up
change-begins (tree.Before t step.Down m) rest = begins can.down

type-begins : (t : Ty) (rest : List Symbol) → BeginsWith CanBeginStmt (type_words t rest)
type-begins ty_of.Int rest = begins can.CanBeginStmt.int
type-begins ty_of.Unsigned rest = begins can.CanBeginStmt.unsigned
type-begins ty_of.UnsignedInt rest = begins can.CanBeginStmt.unsigned

pub stmt-begins : (s : tree.StmtTree) (rest : List Symbol) → BeginsWith CanBeginStmt (stmt s rest)
stmt-begins tree.StmtTree.Empty rest = begins can.semicolon
stmt-begins (tree.Block ss) rest = begins can.brace
stmt-begins (tree.StmtTree.Declare t ds) rest = type-begins t _
stmt-begins (tree.StmtTree.Change c) rest = change-begins c _
stmt-begins (tree.StmtTree.Call f es) rest = begins can.CanBeginStmt.name
stmt-begins (tree.If c a) rest = begins can.CanBeginStmt.if
stmt-begins (tree.IfElse c a b) rest = begins can.CanBeginStmt.if
stmt-begins (tree.While c s) rest = begins can.while
stmt-begins (tree.For st test sp s) rest = begins can.for
stmt-begins (tree.Break m) rest = begins can.break
stmt-begins (tree.Continue m) rest = begins can.continue
stmt-begins (tree.Return m e) rest = begins can.return
stmt-begins (tree.Task m cs s) rest = begins can.pragma
stmt-begins (tree.Tick m t a e) rest = begins can.pragma
stmt-begins (tree.Taskwait m) rest = begins can.pragma

item-type-begins : (t : Ty) (rest : List Symbol) → BeginsWith CanBeginItem (type_words t rest)
item-type-begins ty_of.Int rest = begins can.CanBeginItem.int
item-type-begins ty_of.Unsigned rest = begins can.CanBeginItem.unsigned
item-type-begins ty_of.UnsignedInt rest = begins can.CanBeginItem.unsigned

pub item-begins : (i : tree.ItemTree) (rest : List Symbol) → BeginsWith CanBeginItem (item i rest)
item-begins (tree.Constant c) rest = begins can.const
item-begins (tree.Function f) rest = item-type-begins f.ty _
