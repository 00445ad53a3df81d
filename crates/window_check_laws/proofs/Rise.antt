-- Slots of a body and streams of a program are never given back.
use Rattle.std.proofs.Common.{◌≡◌, ◌≤◌, ℕ, suc, List, [], ◌∷◌, refl, ◌∙◌, arith}
use Rattle.os_ast.specs.declared.program.Param.{Param}
use Rattle.os_ast.specs.Captured.{captured, slots_of}
use Rattle.os_ast.specs.Names.{Scope, declare, enter, in_loop, in_unit, typed, flagged}
use Rattle.os_ast.specs.Notes.Clauses.{with_items, in_task, in_task_body, captured_in, item_entity, item_flag}
use Rattle.os_ast.specs.Notes.Declarators.{form, taken, after_declarator, after_declarators, after_start}
use Rattle.os_ast.specs.Notes.Programs.{in_body, in_function, after_param, after_params, after_item, after_items, round_body, owner_of, param_list}
use Rattle.os_ast.specs.Notes.Statements.{after_stmt, after_stmts}
use Rattle.os_ast.specs.ClauseMembers.{ClauseMember, Item, Private, members, item_name}
use Rattle.os_ast.specs.Trees as tree
use Rattle.os_ast.specs.declared.names.Form.{Form}
use Rattle.os_ast.specs.declared.names.Form.TheVariants as form_of
use Rattle.os_ast.specs.declared.names.Owner.{Owner}
use Rattle.os_ast.specs.declared.names.Owner.TheVariants as owner

rise_taken : (s : Scope) (f : Form) → s.slots ≤ (taken s f).slots
rise_taken s form_of.Scalar = omega arith
rise_taken s (form_of.Array size) = omega arith
rise_taken s form_of.Window = omega arith
rise_taken s form_of.Stream = omega arith
rise_taken s (form_of.Streams size) = omega arith

rise_declarators : (s : Scope) (ds : List tree.DeclaratorTree) → s.slots ≤ (after_declarators s ds).slots
rise_declarators s [] = omega arith
rise_declarators s (d ∷ ds) = omega (arith, rise_taken s (form s d), rise_declarators (after_declarator s d) ds)

pub rise_start : (s : Scope) (t : tree.StartTree) → s.slots ≤ (after_start s t).slots
rise_start s tree.StartTree.Empty = omega arith
rise_start s (tree.StartTree.Declare t ds) = rise_declarators (typed t s) ds
rise_start s (tree.StartTree.Change c) = omega arith

mutual
  pub rise_stmt : (s : Scope) (a : tree.StmtTree) → s.slots ≤ (after_stmt s a).slots
  rise_stmt s tree.StmtTree.Empty = omega arith
  rise_stmt s (tree.Block ss) = rise_stmts (enter s) ss
  rise_stmt s (tree.StmtTree.Declare t ds) = rise_declarators (typed t s) ds
  rise_stmt s (tree.StmtTree.Change c) = omega arith
  rise_stmt s (tree.StmtTree.Call f args) = omega arith
  rise_stmt s (tree.If c a) = rise_stmt s a
  rise_stmt s (tree.IfElse c a b) = omega (arith, rise_stmt s a, rise_stmt (after_stmt s a) b)
  rise_stmt s (tree.While c a) = rise_stmt (in_loop s) a
  rise_stmt s (tree.For start test step a) = omega (arith, rise_start (enter s) start, rise_stmt (in_loop (after_start (enter s) start)) a)
  rise_stmt s (tree.Break m) = omega arith
  rise_stmt s (tree.Continue m) = omega arith
  rise_stmt s (tree.Return m e) = omega arith
  rise_stmt s (tree.Task m cs a) = omega arith
  rise_stmt s (tree.Tick m t arrow e) = omega arith
  rise_stmt s (tree.Taskwait m) = omega arith

  pub rise_stmts : (s : Scope) (ss : tree.Stmts) → s.slots ≤ (after_stmts s ss).slots
  rise_stmts s tree.no_stmts = omega arith
  rise_stmts s (tree.stmt a rest) = omega (arith, rise_stmt s a, rise_stmts (after_stmt s a) rest)

-- Streams of a program are never given back either.
pub grow_taken : (s : Scope) (f : Form) → s.streams ≤ (taken s f).streams
grow_taken s form_of.Scalar = omega arith
grow_taken s (form_of.Array size) = omega arith
grow_taken s form_of.Window = omega arith
grow_taken s form_of.Stream = omega arith
grow_taken s (form_of.Streams size) = omega arith

pub grow_declarators : (s : Scope) (ds : List tree.DeclaratorTree) → s.streams ≤ (after_declarators s ds).streams
grow_declarators s [] = omega arith
grow_declarators s (d ∷ ds) = omega (arith, grow_taken s (form s d), grow_declarators (after_declarator s d) ds)

pub grow_start : (s : Scope) (t : tree.StartTree) → s.streams ≤ (after_start s t).streams
grow_start s tree.StartTree.Empty = omega arith
grow_start s (tree.StartTree.Declare t ds) = grow_declarators (typed t s) ds
grow_start s (tree.StartTree.Change c) = omega arith

pub streams_items : (s inner : Scope) (n : ℕ) (ps : List ClauseMember) → (with_items s inner n ps).streams ≡ inner.streams
streams_items s inner n [] = refl
streams_items s inner n (Item d i ∷ ps) =
    streams_items s (declare (flagged (item_flag s i) inner) (item_name i.stream i.window).id (item_entity s n d i)) (suc n) ps
streams_items s inner n (Private p ∷ ps) = streams_items s inner n ps

mutual
  pub grow_stmt : (s : Scope) (a : tree.StmtTree) → s.streams ≤ (after_stmt s a).streams
  grow_stmt s tree.StmtTree.Empty = omega arith
  grow_stmt s (tree.Block ss) = grow_stmts (enter s) ss
  grow_stmt s (tree.StmtTree.Declare t ds) = grow_declarators (typed t s) ds
  grow_stmt s (tree.StmtTree.Change c) = omega arith
  grow_stmt s (tree.StmtTree.Call f args) = omega arith
  grow_stmt s (tree.If c a) = grow_stmt s a
  grow_stmt s (tree.IfElse c a b) = omega (arith, grow_stmt s a, grow_stmt (after_stmt s a) b)
  grow_stmt s (tree.While c a) = grow_stmt (in_loop s) a
  grow_stmt s (tree.For start test step a) = omega (arith, grow_start (enter s) start, grow_stmt (in_loop (after_start (enter s) start)) a)
  grow_stmt s (tree.Break m) = omega arith
  grow_stmt s (tree.Continue m) = omega arith
  grow_stmt s (tree.Return m e) = omega arith
  grow_stmt s (tree.Task m cs a) =
      let round = in_task s (captured_in s.owner (slots_of (captured s.entries (members cs) a))) in
      omega (arith, streams_items s round 0 (members cs), grow_stmt (in_task_body s (members cs) a) a)
  grow_stmt s (tree.Tick m t arrow e) = omega arith
  grow_stmt s (tree.Taskwait m) = omega arith

  pub grow_stmts : (s : Scope) (ss : tree.Stmts) → s.streams ≤ (after_stmts s ss).streams
  grow_stmts s tree.no_stmts = omega arith
  grow_stmts s (tree.stmt a rest) = omega (arith, grow_stmt s a, grow_stmts (after_stmt s a) rest)

streams_params : (s : Scope) (ns : List Param) → (after_params s ns).streams ≡ s.streams
streams_params s [] = refl
streams_params s (n ∷ ns) = streams_params (after_param s n) ns

streams_round : (o : Owner) (s : Scope) → (round_body o s).streams ≡ s.streams
streams_round owner.OfMain s = refl
streams_round owner.OfFunction s = refl
streams_round owner.OfTask s = refl

-- a body begins with the streams before it
pub streams_in_body : (s : Scope) (f : tree.FunctionTree) → (in_body s f).streams ≡ s.streams
streams_in_body s f =
    let o = owner_of f.name.id in
    streams_params (in_function s f.name.id) (param_list f.params) ∙ streams_round o (enter (in_unit o s))

pub grow_items : (s : Scope) (is : List tree.ItemTree) → s.streams ≤ (after_items s is).streams
grow_items s [] = omega arith
grow_items s (tree.Constant c ∷ is) = grow_items (after_item s (tree.Constant c)) is
grow_items s (tree.Function f ∷ is) =
    omega (arith, streams_in_body s f, grow_stmts (in_body s f) f.body, grow_items (after_item s (tree.Function f)) is)
