-- The plain tree that a tree of the code holds.
use Rattle.std.specs.Prelude.{List, [], ◌∷◌, map, option_map}
use Rattle.os_ast.specs.Trees as tree
use Rattle.os_ast.specs.declared.expr.Expr as expr
use Rattle.os_ast.specs.declared.expr.Index.{Index}
use Rattle.os_ast.specs.declared.expr.Link.{Link}
use Rattle.os_ast.specs.declared.expr.Name.{Name}
use Rattle.os_ast.specs.declared.expr.Target as target
use Rattle.os_ast.specs.declared.pragma.Clause.{Clause}
use Rattle.os_ast.specs.declared.pragma.ClauseItem.{ClauseItem}
use Rattle.os_ast.specs.declared.pragma.ClauseKind.{ClauseKind}
use Rattle.os_ast.specs.declared.pragma.ClauseKind.TheVariants as kind
use Rattle.os_ast.specs.declared.pragma.Join.{Join}
use Rattle.os_ast.specs.declared.program.Function.{Function}
use Rattle.os_ast.specs.declared.program.Item.{Item}
use Rattle.os_ast.specs.declared.program.Item.TheVariants as item
use Rattle.os_ast.specs.declared.program.Program.{Program}
use Rattle.os_ast.specs.declared.stmt.Change.{Change}
use Rattle.os_ast.specs.declared.stmt.Change.TheVariants as change
use Rattle.os_ast.specs.declared.stmt.Declarator.{Declarator}
use Rattle.os_ast.specs.declared.stmt.Start.{Start}
use Rattle.os_ast.specs.declared.stmt.Start.TheVariants as start
use Rattle.os_ast.specs.declared.stmt.Stmt as stmt

-- expressions: a row is what a `List` of expressions or links holds inside a tree
abbrev mutual
  pub expr_tree : expr.Expr → tree.ExprTree
  expr_tree (expr.Number n) = tree.Number n
  expr_tree (expr.Wide n) = tree.Wide n
  expr_tree (expr.Place t) = tree.Place (target_tree t)
  expr_tree (expr.Call' f shape args) = tree.Call f (args_row args)
  expr_tree (expr.Paren' p e) = tree.Paren (expr_tree e)
  expr_tree (expr.Unary' op m p e) = tree.Unary op m (expr_tree e)
  expr_tree (expr.Chain' level p first shape links) = tree.Chain level (expr_tree first) (links_row links)
  expr_tree (expr.Choice' p c q a r b) = tree.Choice (expr_tree c) (expr_tree a) (expr_tree b)

  pub target_tree : target.Target → tree.TargetTree
  target_tree (target.Target' n index) = indexed n index

  pub indexed : Name → target.Held-Target-index → tree.TargetTree
  indexed n target.None' = tree.Variable n
  indexed n (target.Some' p m e) = tree.Element n m (expr_tree e)

  pub args_row : {m : _} → expr.Row_of-Expr m → tree.Args
  args_row expr.end_of-Expr = tree.no_args
  args_row (expr.more_of-Expr e es) = tree.arg (expr_tree e) (args_row es)

  pub links_row : {m : _} → expr.Row_of-Link m → tree.Links
  links_row expr.end_of-Link = tree.no_links
  links_row (expr.more_of-Link op m e rest) = tree.link op m (expr_tree e) (links_row rest)

abbrev pub args_tree : List expr.Expr → tree.Args
args_tree [] = tree.no_args
args_tree (e ∷ es) = tree.arg (expr_tree e) (args_tree es)

abbrev pub links_tree : List Link → tree.Links
links_tree [] = tree.no_links
links_tree (l ∷ rest) = tree.link l.op l.mark (expr_tree l.right) (links_tree rest)

abbrev pub index_tree : Index → tree.IndexTree
index_tree i = record { mark = i.mark; value = expr_tree i.value }

abbrev pub declarator_tree : Declarator → tree.DeclaratorTree
declarator_tree d = record {
  name = d.name;
  size = option_map index_tree d.size;
  stream = d.stream;
  first = option_map expr_tree d.first;
}

abbrev pub change_tree : Change → tree.ChangeTree
change_tree (change.Set t a m e) = tree.Set (target_tree t) a m (expr_tree e)
change_tree (change.After t s m) = tree.After (target_tree t) s m
change_tree (change.Before t s m) = tree.Before (target_tree t) s m

abbrev pub start_tree : Start → tree.StartTree
start_tree start.Empty = tree.StartTree.Empty
start_tree (start.Declare ty ds) = tree.StartTree.Declare ty (map declarator_tree ds)
start_tree (start.Change c) = tree.StartTree.Change (change_tree c)

abbrev pub join_tree : Join → tree.JoinTree
join_tree j = record { mark = j.mark; name = j.name; burst = option_map index_tree j.burst }

abbrev pub clause_item_tree : ClauseItem → tree.ClauseItemTree
clause_item_tree i = record { stream = target_tree i.stream; window = option_map join_tree i.window }

abbrev pub clause_kind_tree : ClauseKind → tree.ClauseKindTree
clause_kind_tree (kind.Input items) = tree.Input (map clause_item_tree items)
clause_kind_tree (kind.Output items) = tree.Output (map clause_item_tree items)
clause_kind_tree (kind.Firstprivate names) = tree.Firstprivate names

abbrev pub clause_tree : Clause → tree.ClauseTree
clause_tree c = record { comma = c.comma; kind = clause_kind_tree c.kind }

-- the trees of statements, and of all parts of them
abbrev mutual
  pub stmt_tree : stmt.Stmt → tree.StmtTree
  stmt_tree stmt.Empty = tree.StmtTree.Empty
  stmt_tree (stmt.Block' shape stmts) = tree.Block (stmts_row stmts)
  stmt_tree (stmt.Declare ty ds) = tree.StmtTree.Declare ty (map declarator_tree ds)
  stmt_tree (stmt.Change c) = tree.StmtTree.Change (change_tree c)
  stmt_tree (stmt.Call c) = tree.StmtTree.Call c.name (args_tree c.args)
  stmt_tree (stmt.If' c p a other) = branches (expr_tree c) (stmt_tree a) other
  stmt_tree (stmt.While' c p s) = tree.While (expr_tree c) (stmt_tree s)
  stmt_tree (stmt.For' h p s) =
      tree.For (start_tree h.value.start) (option_map expr_tree h.value.test) (option_map change_tree h.value.step) (stmt_tree s)
  stmt_tree (stmt.Break m) = tree.Break m
  stmt_tree (stmt.Continue m) = tree.Continue m
  stmt_tree (stmt.Return m e) = tree.Return m (expr_tree e)
  stmt_tree (stmt.Task' p m clauses s) = tree.Task m (map clause_tree clauses) (stmt_tree s)
  stmt_tree (stmt.Tick t) = tree.Tick t.value.mark (target_tree t.value.stream) t.value.arrow (expr_tree t.value.amount)
  stmt_tree (stmt.Taskwait m) = tree.Taskwait m

  pub branches : tree.ExprTree → tree.StmtTree → stmt.Held-Stmt-If-2 → tree.StmtTree
  branches c a stmt.None' = tree.If c a
  branches c a (stmt.Some' p b) = tree.IfElse c a (stmt_tree b)

  pub stmts_row : {m : _} → stmt.Row_of-Stmt m → tree.Stmts
  stmts_row stmt.end_of-Stmt = tree.no_stmts
  stmts_row (stmt.more_of-Stmt s ss) = tree.stmt (stmt_tree s) (stmts_row ss)

abbrev pub stmts_tree : List stmt.Stmt → tree.Stmts
stmts_tree [] = tree.no_stmts
stmts_tree (s ∷ ss) = tree.stmt (stmt_tree s) (stmts_tree ss)

abbrev pub function_tree : Function → tree.FunctionTree
function_tree f = record { ty = f.ty; name = f.name; params = f.params; body = stmts_tree f.body }

abbrev pub item_tree : Item → tree.ItemTree
item_tree (item.Constant c) = tree.Constant c
item_tree (item.Function f) = tree.Function (function_tree f)

abbrev pub program_tree : Program → tree.ProgramTree
program_tree p = map item_tree p.items
