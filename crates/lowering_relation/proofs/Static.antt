-- What a statement does to the scope of the text.
use Rattle.std.proofs.Common.{◌≡◌, ◌≤◌, ℕ, suc, List, [], ◌∷◌, ◌++◌, refl, sym, ap, ◌∙◌, arith, append_assoc}
use Rattle.window_check_laws.proofs.Holds.{taken_entries}
use Rattle.os_ast.specs.Captured.{captured, slots_of}
use Rattle.os_ast.specs.Leveled.{IsStmt}
use Rattle.os_ast.specs.Names.{Scope, declare, flagged, typed, enter, in_loop}
use Rattle.os_ast.specs.Notes.Clauses.{with_items, in_task, in_task_body, captured_in, item_entity, item_flag}
use Rattle.os_ast.specs.Notes.Declarators.{after_declarator, after_declarators, after_start, taken, form, declared_entity}
use Rattle.os_ast.specs.Notes.Statements.{after_stmt, after_stmts}
use Rattle.os_ast.specs.ClauseMembers.{ClauseMember, Item, Private, members, item_name}
use Rattle.os_ast.specs.Trees as tree
use Rattle.os_ast.specs.declared.names.Entry.{Entry}
use Rattle.os_ast.specs.declared.names.Form.{Form}
use Rattle.os_ast.specs.declared.names.Form.TheVariants as form_of
use Rattle.os_ast.specs.declared.ty.Ty.{Ty}
use Rattle.lowering_relation.proofs.Flows.{Extends}

-- the same body, at the same depth, with no fewer slots and streams taken
pub record Onward (s t : Scope) : Type 0 where
  pub owner : t.owner ≡ s.owner
  pub captured : t.captured ≡ s.captured
  pub depth : t.depth ≡ s.depth
  pub slots : s.slots ≤ t.slots
  pub streams : s.streams ≤ t.streams

pub here : (s : Scope) → Onward s s
here s = record { owner = refl; captured = refl; depth = refl; slots = omega arith; streams = omega arith }

pub onward : {s t u : Scope} → Onward s t → Onward t u → Onward s u
onward a b = record {
  owner = b.owner ∙ a.owner;
  captured = b.captured ∙ a.captured;
  depth = b.depth ∙ a.depth;
  slots = omega (arith, a.slots, b.slots);
  streams = omega (arith, a.streams, b.streams);
}

taken_onward : (s : Scope) (f : Form) → Onward s (taken s f)
taken_onward s form_of.Scalar = record { owner = refl; captured = refl; depth = refl; slots = omega arith; streams = omega arith }
taken_onward s (form_of.Array size) = record { owner = refl; captured = refl; depth = refl; slots = omega arith; streams = omega arith }
taken_onward s form_of.Window = record { owner = refl; captured = refl; depth = refl; slots = omega arith; streams = omega arith }
taken_onward s form_of.Stream = record { owner = refl; captured = refl; depth = refl; slots = omega arith; streams = omega arith }
taken_onward s (form_of.Streams size) = record { owner = refl; captured = refl; depth = refl; slots = omega arith; streams = omega arith }

-- a declarator's entry
abbrev pub entry : Scope → tree.DeclaratorTree → Entry
entry s d = record { id = d.name.id; depth = (taken s (form s d)).depth; entity = declared_entity s d; unsigned = (taken s (form s d)).unsigned }

pub declarator_onward : (s : Scope) (d : tree.DeclaratorTree) → Onward s (after_declarator s d)
declarator_onward s d =
    let t = taken_onward s (form s d) in
    record { owner = t.owner; captured = t.captured; depth = t.depth; slots = t.slots; streams = t.streams }

pub declarator_entries : (s : Scope) (d : tree.DeclaratorTree) → (after_declarator s d).entries ≡ entry s d ∷ s.entries
declarator_entries s d = ap (λ es. entry s d ∷ es) (taken_entries s (form s d))

-- a declarator ends no declaration
taken_unsigned : (s : Scope) (f : Form) → (taken s f).unsigned ≡ s.unsigned
taken_unsigned s form_of.Scalar = refl
taken_unsigned s (form_of.Array size) = refl
taken_unsigned s form_of.Window = refl
taken_unsigned s form_of.Stream = refl
taken_unsigned s (form_of.Streams size) = refl

pub declarator_unsigned : (s : Scope) (d : tree.DeclaratorTree) → (after_declarator s d).unsigned ≡ s.unsigned
declarator_unsigned s d = taken_unsigned s (form s d)

-- what declarations declare, within what was declared before
abbrev pub made : Scope → List tree.DeclaratorTree → List Entry → List Entry
made s [] es = es
made s (d ∷ ds) es = made (after_declarator s d) ds (entry s d ∷ es)

abbrev pub made_first : Scope → tree.StartTree → List Entry → List Entry
made_first s tree.StartTree.Empty es = es
made_first s (tree.StartTree.Declare ty ds) es = made (typed ty s) ds es
made_first s (tree.StartTree.Change c) es = es

abbrev pub made_by : Scope → tree.StmtTree → List Entry → List Entry
made_by s (tree.StmtTree.Declare ty ds) es = made (typed ty s) ds es
made_by s _ es = es

abbrev pub made_all : Scope → tree.Stmts → List Entry → List Entry
made_all s tree.no_stmts es = es
made_all s (tree.stmt a rest) es = made_all (after_stmt s a) rest (made_by s a es)

pub none_made : {a : tree.StmtTree} → IsStmt a → (s : Scope) (es : List Entry) → made_by s a es ≡ es
none_made IsStmt.empty s es = refl
none_made (IsStmt.block _) s es = refl
none_made (IsStmt.change _) s es = refl
none_made (IsStmt.call _) s es = refl
none_made (IsStmt.if_alone _ _) s es = refl
none_made (IsStmt.if_else _ _ _ _) s es = refl
none_made (IsStmt.while _ _) s es = refl
none_made (IsStmt.for _ _ _ _) s es = refl
none_made IsStmt.break s es = refl
none_made IsStmt.continue s es = refl
none_made (IsStmt.return _) s es = refl
none_made (IsStmt.task _ _) s es = refl
none_made (IsStmt.tick _ _) s es = refl
none_made IsStmt.taskwait s es = refl

pub declarators_onward : (ds : List tree.DeclaratorTree) (s : Scope) → Onward s (after_declarators s ds)
declarators_onward [] s = here s
declarators_onward (d ∷ ds) s = onward (declarator_onward s d) (declarators_onward ds (after_declarator s d))

-- a scope in which a declaration of a type has begun
pub typed_onward : (ty : Ty) (s t : Scope) → Onward (typed ty s) t → Onward s t
typed_onward ty s t a = record { owner = a.owner; captured = a.captured; depth = a.depth; slots = a.slots; streams = a.streams }

pub start_onward : (t : tree.StartTree) (s : Scope) → Onward s (after_start s t)
start_onward tree.StartTree.Empty s = here s
start_onward (tree.StartTree.Declare ty ds) s = typed_onward ty s (after_declarators (typed ty s) ds) (declarators_onward ds (typed ty s))
start_onward (tree.StartTree.Change c) s = here s

-- the clauses of a task declare no stream
pub items_streams : (s inner : Scope) (n : ℕ) (ps : List ClauseMember) → (with_items s inner n ps).streams ≡ inner.streams
items_streams s inner n [] = refl
items_streams s inner n (Item d i ∷ ps) = items_streams s (declare (flagged (item_flag s i) inner) (item_name i.stream i.window).id (item_entity s n d i)) (suc n) ps
items_streams s inner n (Private p ∷ ps) = items_streams s inner n ps

mutual
  pub stmt_onward : (a : tree.StmtTree) (s : Scope) → Onward s (after_stmt s a)
  stmt_onward tree.StmtTree.Empty s = here s
  stmt_onward (tree.Block ss) s = let t = stmts_onward ss (enter s) in record { owner = t.owner; captured = t.captured; depth = refl; slots = t.slots; streams = t.streams }
  stmt_onward (tree.StmtTree.Declare ty ds) s = typed_onward ty s (after_declarators (typed ty s) ds) (declarators_onward ds (typed ty s))
  stmt_onward (tree.StmtTree.Change c) s = here s
  stmt_onward (tree.StmtTree.Call f args) s = here s
  stmt_onward (tree.If c a) s = stmt_onward a s
  stmt_onward (tree.IfElse c a b) s = onward (stmt_onward a s) (stmt_onward b (after_stmt s a))
  stmt_onward (tree.While c a) s = let t = stmt_onward a (in_loop s) in record { owner = t.owner; captured = t.captured; depth = t.depth; slots = t.slots; streams = t.streams }
  stmt_onward (tree.For start test step a) s =
      let x = start_onward start (enter s) in
      let y = stmt_onward a (in_loop (after_start (enter s) start)) in
      record { owner = y.owner ∙ x.owner; captured = y.captured ∙ x.captured; depth = refl; slots = omega (arith, x.slots, y.slots); streams = omega (arith, x.streams, y.streams) }
  stmt_onward (tree.Break m) s = here s
  stmt_onward (tree.Continue m) s = here s
  stmt_onward (tree.Return m e) s = here s
  stmt_onward (tree.Task m cs a) s =
      let inner = in_task_body s (members cs) a in
      let round = in_task s (captured_in s.owner (slots_of (captured s.entries (members cs) a))) in
      let x : inner.streams ≡ round.streams = items_streams s round 0 (members cs) in
      let y = stmt_onward a inner in
      record { owner = refl; captured = refl; depth = refl; slots = omega arith; streams = omega (arith, x, y.streams) }
  stmt_onward (tree.Tick m t arrow e) s = here s
  stmt_onward (tree.Taskwait m) s = here s

  pub stmts_onward : (ss : tree.Stmts) (s : Scope) → Onward s (after_stmts s ss)
  stmts_onward tree.no_stmts s = here s
  stmts_onward (tree.stmt a rest) s = onward (stmt_onward a s) (stmts_onward rest (after_stmt s a))

pub extends_more : {a b c : List Entry} → Extends b a → Extends c b → Extends c a
extends_more {a = a} x y = (y.0 ++ x.0, y.1 ∙ ap (λ l. y.0 ++ l) x.1 ∙ sym (append_assoc y.0 x.0 a))

pub made_extends : (ds : List tree.DeclaratorTree) (s : Scope) (es : List Entry) → Extends (made s ds es) es
made_extends [] s es = ([], refl)
made_extends (d ∷ ds) s es = extends_more (entry s d ∷ [], refl) (made_extends ds (after_declarator s d) (entry s d ∷ es))

pub first_extends : (t : tree.StartTree) (s : Scope) (es : List Entry) → Extends (made_first s t es) es
first_extends tree.StartTree.Empty s es = ([], refl)
first_extends (tree.StartTree.Declare ty ds) s es = made_extends ds (typed ty s) es
first_extends (tree.StartTree.Change c) s es = ([], refl)

by_extends : (a : tree.StmtTree) (s : Scope) (es : List Entry) → Extends (made_by s a es) es
by_extends tree.StmtTree.Empty s es = ([], refl)
by_extends (tree.Block ss) s es = ([], refl)
by_extends (tree.StmtTree.Declare ty ds) s es = made_extends ds (typed ty s) es
by_extends (tree.StmtTree.Change c) s es = ([], refl)
by_extends (tree.StmtTree.Call f args) s es = ([], refl)
by_extends (tree.If c a) s es = ([], refl)
by_extends (tree.IfElse c a b) s es = ([], refl)
by_extends (tree.While c a) s es = ([], refl)
by_extends (tree.For start test step a) s es = ([], refl)
by_extends (tree.Break m) s es = ([], refl)
by_extends (tree.Continue m) s es = ([], refl)
by_extends (tree.Return m e) s es = ([], refl)
by_extends (tree.Task m cs a) s es = ([], refl)
by_extends (tree.Tick m t arrow e) s es = ([], refl)
by_extends (tree.Taskwait m) s es = ([], refl)

pub all_extend : (ss : tree.Stmts) (s : Scope) (es : List Entry) → Extends (made_all s ss es) es
all_extend tree.no_stmts s es = ([], refl)
all_extend (tree.stmt a rest) s es = extends_more (by_extends a s es) (all_extend rest (after_stmt s a) (made_by s a es))
