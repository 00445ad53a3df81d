-- Whose body it is stays.
use Rattle.std.proofs.Common.{◌≡◌, ℕ, suc, List, [], ◌∷◌, refl, ◌∙◌}
use Rattle.os_ast.specs.declared.program.Param.{Param}
use Rattle.os_ast.specs.Names.{Scope, declare, enter, in_loop, in_unit, typed, flagged}
use Rattle.os_ast.specs.Notes.Clauses.{with_items, item_entity, item_flag}
use Rattle.os_ast.specs.Notes.Declarators.{form, taken, after_declarator, after_declarators, after_start}
use Rattle.os_ast.specs.Notes.Programs.{in_body, in_function, after_param, after_params, round_body, owner_of, param_list}
use Rattle.os_ast.specs.Notes.Statements.{after_stmt, after_stmts}
use Rattle.os_ast.specs.ClauseMembers.{ClauseMember, Item, Private, item_name}
use Rattle.os_ast.specs.Trees as tree
use Rattle.os_ast.specs.declared.names.Form.{Form}
use Rattle.os_ast.specs.declared.names.Form.TheVariants as form_of
use Rattle.os_ast.specs.declared.names.Owner.{Owner}
use Rattle.os_ast.specs.declared.names.Owner.TheVariants as owner

owner_taken : (s : Scope) (f : Form) → (taken s f).owner ≡ s.owner
owner_taken s form_of.Scalar = refl
owner_taken s (form_of.Array n) = refl
owner_taken s form_of.Window = refl
owner_taken s form_of.Stream = refl
owner_taken s (form_of.Streams n) = refl

pub owner_declarator : (s : Scope) (d : tree.DeclaratorTree) → (after_declarator s d).owner ≡ s.owner
owner_declarator s d = owner_taken s (form s d)

pub owner_declarators : (s : Scope) (ds : List tree.DeclaratorTree) → (after_declarators s ds).owner ≡ s.owner
owner_declarators s [] = refl
owner_declarators s (d ∷ ds) = owner_declarators (after_declarator s d) ds ∙ owner_declarator s d

pub owner_start : (s : Scope) (start : tree.StartTree) → (after_start s start).owner ≡ s.owner
owner_start s tree.StartTree.Empty = refl
owner_start s (tree.StartTree.Declare t ds) = owner_declarators (typed t s) ds
owner_start s (tree.StartTree.Change c) = refl

mutual
  pub owner_stmt : (s : Scope) (a : tree.StmtTree) → (after_stmt s a).owner ≡ s.owner
  owner_stmt s tree.StmtTree.Empty = refl
  owner_stmt s (tree.Block ss) = owner_stmts (enter s) ss
  owner_stmt s (tree.StmtTree.Declare t ds) = owner_declarators (typed t s) ds
  owner_stmt s (tree.StmtTree.Change c) = refl
  owner_stmt s (tree.StmtTree.Call f args) = refl
  owner_stmt s (tree.If c a) = owner_stmt s a
  owner_stmt s (tree.IfElse c a b) = owner_stmt (after_stmt s a) b ∙ owner_stmt s a
  owner_stmt s (tree.While c a) = owner_stmt (in_loop s) a
  owner_stmt s (tree.For start test step a) = owner_stmt (in_loop (after_start (enter s) start)) a ∙ owner_start (enter s) start
  owner_stmt s (tree.Break m) = refl
  owner_stmt s (tree.Continue m) = refl
  owner_stmt s (tree.Return m e) = refl
  owner_stmt s (tree.Task m cs a) = refl
  owner_stmt s (tree.Tick m t arrow e) = refl
  owner_stmt s (tree.Taskwait m) = refl

  pub owner_stmts : (s : Scope) (ss : tree.Stmts) → (after_stmts s ss).owner ≡ s.owner
  owner_stmts s tree.no_stmts = refl
  owner_stmts s (tree.stmt a rest) = owner_stmts (after_stmt s a) rest ∙ owner_stmt s a

pub owner_items : (s inner : Scope) (n : ℕ) (ps : List ClauseMember) → (with_items s inner n ps).owner ≡ inner.owner
owner_items s inner n [] = refl
owner_items s inner n (Item d i ∷ ps) = owner_items s (declare (flagged (item_flag s i) inner) (item_name i.stream i.window).id (item_entity s n d i)) (suc n) ps
owner_items s inner n (Private p ∷ ps) = owner_items s inner n ps

pub owner_params : (s : Scope) (ns : List Param) → (after_params s ns).owner ≡ s.owner
owner_params s [] = refl
owner_params s (n ∷ ns) = owner_params (after_param s n) ns

owner_round : (o : Owner) (s : Scope) → (round_body o s).owner ≡ s.owner
owner_round owner.OfMain s = refl
owner_round owner.OfFunction s = refl
owner_round owner.OfTask s = refl

pub owner_in_body : (s : Scope) (f : tree.FunctionTree) → (in_body s f).owner ≡ owner_of f.name.id
owner_in_body s f =
    let o = owner_of f.name.id in
    owner_params (in_function s f.name.id) (param_list f.params) ∙ owner_round o (enter (in_unit o s))
