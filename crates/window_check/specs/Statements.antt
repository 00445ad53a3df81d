-- Parts of statements for which the code has no tree of its own.
use Rattle.std.specs.Prelude.{List, [], Option, Some, None}
use Rattle.std.specs.declared.boxed.Box.{Box}
use Rattle.std.specs.declared.alloc.Global.{Global}
use Rattle.std.specs.Prelude.{ℕ}
use Rattle.os_ast.specs.Names.{Scope}
use Rattle.os_ast.specs.Notes.Clauses.{in_task}
use Rattle.os_ast.specs.Notes.Statements.{stmt_notes}
use Rattle.os_ast.specs.Trees as tree
use Rattle.os_ast.specs.Views.{stmt_tree}
use Rattle.os_ast.specs.declared.names.Owner.{Owner}
use Rattle.os_ast.specs.declared.names.Owner.TheVariants as owner
use Rattle.os_ast.specs.declared.stmt.Stmt.{Stmt}
use Rattle.window_check_names.specs.Findings.{noted, slots_found}
use Rattle.window_check_names.specs.Members.{after_names}
use Rattle.window_check_names.specs.declared.found.Found.{Found}
use Rattle.window_check_names.specs.declared.found.Found.TheVariants.{Listing, Judging, Collecting}
use Rattle.window_check_names.specs.declared.members.ItemName.{ItemName}

-- what stands behind `else`: where there is none, it is as if nothing stood there
abbrev pub else_tree : Option (Box Stmt Global) → tree.StmtTree
else_tree None = tree.StmtTree.Empty
else_tree (Some b) = stmt_tree b.value

-- the scope of a task's body, where it captures these scalars and its clauses give these names
abbrev pub in_named_task : Scope → List ℕ → List ItemName → Scope
in_named_task s slots items = after_names (in_task s slots) items

-- the scalars of `main` that the body names, with others; none, where the task doesn't stand in `main`
abbrev pub listed_in : Owner → Scope → List ℕ → List ItemName → tree.StmtTree → List ℕ
listed_in owner.OfMain s others items body = slots_found (noted (Listing others) (stmt_notes (in_named_task s [] items) body))
listed_in owner.OfFunction s others items body = []
listed_in owner.OfTask s others items body = []

-- the scalars that a walk lists so; one that collects violations wants them of every task
abbrev pub listed_for : Found → Owner → Scope → List ℕ → List ItemName → tree.StmtTree → List ℕ
listed_for (Listing slots) o s others items body = listed_in o s others items body
listed_for (Judging j) o s others items body = listed_in o s others items body
listed_for (Collecting vs) o s others items body = listed_in owner.OfMain s others items body
