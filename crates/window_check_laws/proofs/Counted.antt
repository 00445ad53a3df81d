-- A body declares no function, so functions are numbered by their order.
use Rattle.std.proofs.Common.{◌≡◌, ℕ, suc, ◌+◌, List, [], ◌∷◌, refl, ◌∙◌, arith}
use Rattle.os_ast.specs.declared.program.Param.{Param}
use Rattle.os_ast.specs.Names.{Scope, declare, enter, in_loop, in_unit, typed, flagged}
use Rattle.os_ast.specs.Captured.{captured, slots_of}
use Rattle.os_ast.specs.Notes.Clauses.{with_items, in_task, in_task_body, captured_in, item_entity, item_flag}
use Rattle.os_ast.specs.Notes.Declarators.{form, taken, after_declarator, after_declarators, after_start}
use Rattle.os_ast.specs.Notes.Programs.{in_body, in_function, after_param, after_params, after_item, after_items, round_body, owner_of, param_list}
use Rattle.os_ast.specs.Notes.Statements.{after_stmt, after_stmts}
use Rattle.os_ast.specs.ClauseMembers.{ClauseMember, Item, Private, members, item_name}
use Rattle.os_ast.specs.Trees as tree
use Rattle.os_ast.specs.declared.names.Form.{Form}
use Rattle.os_ast.specs.declared.names.Form.TheVariants as form_of
use Rattle.os_ast.specs.declared.names.Owner.{Owner}
use Rattle.os_ast.specs.declared.names.Owner.TheVariants as owner
use Rattle.window_check_laws.specs.Globals.{count_functions}

pub functions_taken : (s : Scope) (f : Form) → (taken s f).functions ≡ s.functions
functions_taken s form_of.Scalar = refl
functions_taken s (form_of.Array n) = refl
functions_taken s form_of.Window = refl
functions_taken s form_of.Stream = refl
functions_taken s (form_of.Streams n) = refl

functions_declarators : (s : Scope) (ds : List tree.DeclaratorTree) → (after_declarators s ds).functions ≡ s.functions
functions_declarators s [] = refl
functions_declarators s (d ∷ ds) = functions_declarators (after_declarator s d) ds ∙ functions_taken s (form s d)

functions_start : (s : Scope) (start : tree.StartTree) → (after_start s start).functions ≡ s.functions
functions_start s tree.StartTree.Empty = refl
functions_start s (tree.StartTree.Declare t ds) = functions_declarators (typed t s) ds
functions_start s (tree.StartTree.Change c) = refl

pub functions_items : (s inner : Scope) (n : ℕ) (ps : List ClauseMember) → (with_items s inner n ps).functions ≡ inner.functions
functions_items s inner n [] = refl
functions_items s inner n (Item d i ∷ ps) =
    functions_items s (declare (flagged (item_flag s i) inner) (item_name i.stream i.window).id (item_entity s n d i)) (suc n) ps
functions_items s inner n (Private p ∷ ps) = functions_items s inner n ps

mutual
  pub functions_stmt : (s : Scope) (a : tree.StmtTree) → (after_stmt s a).functions ≡ s.functions
  functions_stmt s tree.StmtTree.Empty = refl
  functions_stmt s (tree.Block ss) = functions_stmts (enter s) ss
  functions_stmt s (tree.StmtTree.Declare t ds) = functions_declarators (typed t s) ds
  functions_stmt s (tree.StmtTree.Change c) = refl
  functions_stmt s (tree.StmtTree.Call f args) = refl
  functions_stmt s (tree.If c a) = functions_stmt s a
  functions_stmt s (tree.IfElse c a b) = functions_stmt (after_stmt s a) b ∙ functions_stmt s a
  functions_stmt s (tree.While c a) = functions_stmt (in_loop s) a
  functions_stmt s (tree.For start test step a) = functions_stmt (in_loop (after_start (enter s) start)) a ∙ functions_start (enter s) start
  functions_stmt s (tree.Break m) = refl
  functions_stmt s (tree.Continue m) = refl
  functions_stmt s (tree.Return m e) = refl
  functions_stmt s (tree.Task m cs a) =
      functions_stmt (in_task_body s (members cs) a) a ∙ functions_items s (in_task s (captured_in s.owner (slots_of (captured s.entries (members cs) a)))) 0 (members cs)
  functions_stmt s (tree.Tick m t arrow e) = refl
  functions_stmt s (tree.Taskwait m) = refl

  pub functions_stmts : (s : Scope) (ss : tree.Stmts) → (after_stmts s ss).functions ≡ s.functions
  functions_stmts s tree.no_stmts = refl
  functions_stmts s (tree.stmt a rest) = functions_stmts (after_stmt s a) rest ∙ functions_stmt s a

functions_params : (s : Scope) (ns : List Param) → (after_params s ns).functions ≡ s.functions
functions_params s [] = refl
functions_params s (n ∷ ns) = functions_params (after_param s n) ns

functions_round : (o : Owner) (s : Scope) → (round_body o s).functions ≡ s.functions
functions_round owner.OfMain s = refl
functions_round owner.OfFunction s = refl
functions_round owner.OfTask s = refl

pub functions_in_body : (s : Scope) (f : tree.FunctionTree) → (in_body s f).functions ≡ s.functions
functions_in_body s f =
    let o = owner_of f.name.id in
    functions_params (in_function s f.name.id) (param_list f.params) ∙ functions_round o (enter (in_unit o s))

pub functions_behind : (s : Scope) (f : tree.FunctionTree) → (after_item s (tree.Function f)).functions ≡ s.functions + 1
functions_behind s f =
    let body : (after_stmts (in_body s f) f.body).functions ≡ s.functions = functions_stmts (in_body s f) f.body ∙ functions_in_body s f in
    omega (arith, body)

pub functions_counted : (s : Scope) (is : List tree.ItemTree) → (after_items s is).functions ≡ s.functions + count_functions is
functions_counted s [] = omega arith
functions_counted s (tree.Constant c ∷ is) = functions_counted (after_item s (tree.Constant c)) is
functions_counted s (tree.Function f ∷ is) =
    let rest = functions_counted (after_item s (tree.Function f)) is in
    omega (arith, rest, functions_behind s f)
