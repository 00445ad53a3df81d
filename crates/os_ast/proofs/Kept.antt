-- Statements only add declarations to what is in scope, and a block or a loop leaves it as it was.
use Rattle.std.proofs.Common.{List, [], ◌∷◌}
use Rattle.os_ast.specs.Kept.{Keeps, same, more}
use Rattle.os_ast.specs.Names.{Scope, in_loop, typed}
use Rattle.os_ast.specs.Notes.Declarators.{after_declarators, after_declarator, taken, form}
use Rattle.os_ast.specs.Notes.Statements.{after_stmt, after_stmts}
use Rattle.os_ast.specs.Trees as tree
use Rattle.os_ast.specs.declared.names.Entry.{Entry}
use Rattle.os_ast.specs.declared.names.Form.{Form}
use Rattle.os_ast.specs.declared.names.Form.TheVariants as form_of

pub keeps-then : {a b c : List Entry} → Keeps a b → Keeps b c → Keeps a c
keeps-then h same = h
keeps-then h (more k) = more (keeps-then h k)

keeps-taken : (s : Scope) (f : Form) → Keeps s.entries (taken s f).entries
keeps-taken s form_of.Scalar = same
keeps-taken s (form_of.Array n) = same
keeps-taken s form_of.Window = same
keeps-taken s form_of.Stream = same
keeps-taken s (form_of.Streams n) = same

pub keeps-declarators : (s : Scope) (ds : List tree.DeclaratorTree) → Keeps s.entries (after_declarators s ds).entries
keeps-declarators s [] = same
keeps-declarators s (d ∷ ds) = keeps-then (more (keeps-taken s (form s d))) (keeps-declarators (after_declarator s d) ds)

pub keeps-stmt : (s : Scope) (a : tree.StmtTree) → Keeps s.entries (after_stmt s a).entries
keeps-stmt s tree.StmtTree.Empty = same
keeps-stmt s (tree.Block ss) = same
keeps-stmt s (tree.StmtTree.Declare t ds) = keeps-declarators (typed t s) ds
keeps-stmt s (tree.StmtTree.Change c) = same
keeps-stmt s (tree.StmtTree.Call f args) = same
keeps-stmt s (tree.If c a) = keeps-stmt s a
keeps-stmt s (tree.IfElse c a b) = keeps-then (keeps-stmt s a) (keeps-stmt (after_stmt s a) b)
keeps-stmt s (tree.While c a) = keeps-stmt (in_loop s) a
keeps-stmt s (tree.For start test step a) = same
keeps-stmt s (tree.Break m) = same
keeps-stmt s (tree.Continue m) = same
keeps-stmt s (tree.Return m e) = same
keeps-stmt s (tree.Task m cs a) = same
keeps-stmt s (tree.Tick m t arrow e) = same
keeps-stmt s (tree.Taskwait m) = same

pub keeps-stmts : (s : Scope) (ss : tree.Stmts) → Keeps s.entries (after_stmts s ss).entries
keeps-stmts s tree.no_stmts = same
keeps-stmts s (tree.stmt a rest) = keeps-then (keeps-stmt s a) (keeps-stmts (after_stmt s a) rest)

pub ruleset keeps = (keeps-stmt, keeps-stmts)
