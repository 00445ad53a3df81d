-- What a lawful program declares is within the limits.
use Rattle.std.proofs.Common.{◌≡◌, ◌||◌, ℕ, suc, Bool, true, false, List, [], ◌∷◌, ◌++◌, refl, arith, ltb, ltb-false}
use Rattle.os_ast.specs.declared.program.Param.{Param}
use Rattle.os_ast.specs.Captured.{captured, slots_of}
use Rattle.os_ast.specs.Limits.{elements_limit, arrays_limit, streams_limit}
use Rattle.os_ast.specs.Names.{Scope, declare, enter, in_loop, in_unit, typed, flagged}
use Rattle.os_ast.specs.Notes.Clauses.{with_items, in_task, in_task_body, captured_in, item_entity, clauses_notes, item_flag}
use Rattle.os_ast.specs.Notes.Declarators.{form, size_told, taken, declared_entity, declarator_notes, declarators_notes, after_declarator, after_declarators, after_start, start_notes}
use Rattle.os_ast.specs.Notes.Expressions.{expr_notes, value_notes, step_notes}
use Rattle.os_ast.specs.Notes.Programs.{in_body, in_function, after_param, after_params, after_item, after_items, item_notes, items_notes, params_notes, round_body, owner_of, param_list}
use Rattle.os_ast.specs.Notes.Statements.{after_stmt, after_stmts, stmt_notes, stmts_notes}
use Rattle.os_ast.specs.ClauseMembers.{ClauseMember, Item, Private, members, item_name}
use Rattle.os_ast.specs.Rules.{has_no_size, has_too_many}
use Rattle.os_ast.specs.Trees as tree
use Rattle.os_ast.specs.declared.names.Form.{Form}
use Rattle.os_ast.specs.declared.names.Form.TheVariants as form_of
use Rattle.os_ast.specs.declared.names.Owner.{Owner}
use Rattle.os_ast.specs.declared.names.Owner.TheVariants as owner
use Rattle.window_check_laws.proofs.Told.{lawful-first, lawful-rest}
use Rattle.window_check_laws.specs.Globals.{IsWithin}
use Rattle.window_check_laws.specs.Told.{AreLawful}

or-rest : (a b : Bool) → (a || b) ≡ false → b ≡ false
or-rest true b h = absurd (cc)
or-rest false b h = h

-- a scope with the same totals
moved : {s t : Scope} → t.streams ≡ s.streams → t.arrays ≡ s.arrays → IsWithin s → IsWithin t
moved {s} {t} a b h = record { streams = omega (arith, h.streams, a); arrays = omega (arith, h.arrays, b) }

within-form : (s : Scope) (f : Form) (id : ℕ) (e : _) → IsWithin s → has_too_many (declare (taken s f) id e) f ≡ false → IsWithin (declare (taken s f) id e)
within-form s form_of.Scalar id e h k = record { streams = h.streams; arrays = h.arrays }
within-form s (form_of.Array n) id e h k = record {
  streams = h.streams;
  arrays = ltb-false arrays_limit _ (or-rest (ltb elements_limit _) (ltb arrays_limit _) k);
}
within-form s form_of.Window id e h k = record { streams = h.streams; arrays = h.arrays }
within-form s form_of.Stream id e h k = record { streams = ltb-false streams_limit _ k; arrays = h.arrays }
within-form s (form_of.Streams n) id e h k = record { streams = ltb-false streams_limit _ k; arrays = h.arrays }

within-declarators : (s : Scope) (ds : List tree.DeclaratorTree) → IsWithin s → AreLawful (declarators_notes s ds) → IsWithin (after_declarators s ds)
within-declarators s [] h k = h
within-declarators s (d ∷ ds) h k =
    let after = after_declarator s d in
    let own = lawful-first (declarator_notes s d) (declarators_notes after ds) k in
    let size = or-rest (has_no_size (form s d) (size_told s d.size)) (has_too_many after (form s d)) own.0.1.1.1.1.1.0 in
    within-declarators after ds (within-form s (form s d) d.name.id (declared_entity s d) h size) (lawful-rest (declarator_notes s d) (declarators_notes after ds) k)

within-start : (s : Scope) (t : tree.StartTree) → IsWithin s → AreLawful (start_notes s t) → IsWithin (after_start s t)
within-start s tree.StartTree.Empty h k = h
within-start s (tree.StartTree.Declare t ds) h k = within-declarators (typed t s) ds (record { streams = h.streams; arrays = h.arrays }) k
within-start s (tree.StartTree.Change c) h k = h

within-items : (s inner : Scope) (n : ℕ) (ps : List ClauseMember) → IsWithin inner → IsWithin (with_items s inner n ps)
within-items s inner n [] h = h
within-items s inner n (Item d i ∷ ps) h =
    within-items s (declare (flagged (item_flag s i) inner) (item_name i.stream i.window).id (item_entity s n d i)) (suc n) ps (record { streams = h.streams; arrays = h.arrays })
within-items s inner n (Private p ∷ ps) h = within-items s inner n ps h

mutual
  within-stmt : (s : Scope) (a : tree.StmtTree) → IsWithin s → AreLawful (stmt_notes s a) → IsWithin (after_stmt s a)
  within-stmt s tree.StmtTree.Empty h k = h
  within-stmt s (tree.Block ss) h k = moved {s = after_stmts (enter s) ss} refl refl (within-stmts (enter s) ss (moved {s = s} refl refl h) k)
  within-stmt s (tree.StmtTree.Declare t ds) h k = within-declarators (typed t s) ds (record { streams = h.streams; arrays = h.arrays }) k
  within-stmt s (tree.StmtTree.Change c) h k = h
  within-stmt s (tree.StmtTree.Call f args) h k = h
  within-stmt s (tree.If c a) h k = within-stmt s a h (lawful-rest (expr_notes s c) (stmt_notes s a) k)
  within-stmt s (tree.IfElse c a b) h k =
      let after = after_stmt s a in
      let front = expr_notes s c ++ stmt_notes s a in
      within-stmt after b
      (within-stmt s a h (lawful-rest (expr_notes s c) (stmt_notes s a) (lawful-first front (stmt_notes after b) k)))
      (lawful-rest front (stmt_notes after b) k)
  within-stmt s (tree.While c a) h k =
      moved {s = after_stmt (in_loop s) a} refl refl
      (within-stmt (in_loop s) a (moved {s = s} refl refl h) (lawful-rest (expr_notes s c) (stmt_notes (in_loop s) a) k))
  within-stmt s (tree.For start test step a) h k =
      let head = after_start (enter s) start in
      let first = start_notes (enter s) start in
      let second = value_notes head test in
      let third = step_notes head step in
      let last = stmt_notes (in_loop head) a in
      let one = within-start (enter s) start (moved {s = s} refl refl h) (lawful-first first second (lawful-first (first ++ second) third (lawful-first (first ++ second ++ third) last k))) in
      moved {s = after_stmt (in_loop head) a} refl refl
      (within-stmt (in_loop head) a (moved {s = head} refl refl one) (lawful-rest (first ++ second ++ third) last k))
  within-stmt s (tree.Break m) h k = h
  within-stmt s (tree.Continue m) h k = h
  within-stmt s (tree.Return m e) h k = h
  within-stmt s (tree.Task m cs a) h k =
      let ps = members cs in
      let inner = in_task_body s ps a in
      let round = in_task s (captured_in s.owner (slots_of (captured s.entries ps a))) in
      moved {s = after_stmt inner a} refl refl
      (within-stmt inner a (within-items s round 0 ps (moved {s = s} refl refl h)) (lawful-rest (clauses_notes s m ps a) (stmt_notes inner a) k))
  within-stmt s (tree.Tick m t arrow e) h k = h
  within-stmt s (tree.Taskwait m) h k = h

  within-stmts : (s : Scope) (ss : tree.Stmts) → IsWithin s → AreLawful (stmts_notes s ss) → IsWithin (after_stmts s ss)
  within-stmts s tree.no_stmts h k = h
  within-stmts s (tree.stmt a rest) h k =
      let after = after_stmt s a in
      within-stmts after rest (within-stmt s a h (lawful-first (stmt_notes s a) (stmts_notes after rest) k)) (lawful-rest (stmt_notes s a) (stmts_notes after rest) k)

within-params : (s : Scope) (ns : List Param) → IsWithin s → IsWithin (after_params s ns)
within-params s [] h = h
within-params s (n ∷ ns) h = within-params (after_param s n) ns (record { streams = h.streams; arrays = h.arrays })

within-round : (o : Owner) (s : Scope) → IsWithin s → IsWithin (enter (round_body o (enter (in_unit o s))))
within-round owner.OfMain s h = record { streams = h.streams; arrays = h.arrays }
within-round owner.OfFunction s h = record { streams = h.streams; arrays = h.arrays }
within-round owner.OfTask s h = record { streams = h.streams; arrays = h.arrays }

within-item : (s : Scope) (i : tree.ItemTree) → IsWithin s → AreLawful (item_notes s i) → IsWithin (after_item s i)
within-item s (tree.Constant c) h k = record { streams = h.streams; arrays = h.arrays }
within-item s (tree.Function f) h k =
    let body = in_body s f in
    let given = params_notes (in_function s f.name.id) (param_list f.params) in
    moved {s = after_stmts body f.body} refl refl
    (within-stmts body f.body (within-params (in_function s f.name.id) (param_list f.params) (within-round (owner_of f.name.id) s h)) (lawful-rest given (stmts_notes body f.body) k.1))

pub within-items_of_file : (s : Scope) (is : List tree.ItemTree) → IsWithin s → AreLawful (items_notes s is) → IsWithin (after_items s is)
within-items_of_file s [] h k = h
within-items_of_file s (i ∷ is) h k =
    within-items_of_file (after_item s i) is (within-item s i h (lawful-first (item_notes s i) (items_notes (after_item s i) is) k)) (lawful-rest (item_notes s i) (items_notes (after_item s i) is) k)
