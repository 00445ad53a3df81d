-- Slots are summed over the tree, and lie above one another in scope.
use Rattle.std.proofs.Common.{◌≡◌, ◌≤◌, ◌+◌, ℕ, suc, length, Bool, true, false, List, [], ◌∷◌, ◌++◌, Option, Some, None, refl, ap, sym, subst, ◌∙◌, arith}
use Rattle.std.specs.Prelude.{unwrap_or}
use Rattle.os_ast.specs.declared.program.Param.{Param}
use Rattle.os_ast.specs.Captured.{captured, slots_of}
use Rattle.os_ast.specs.Leveled.{IsStmt, AreStmts}
use Rattle.os_ast.specs.Names.{Scope, declare, enter, in_loop, in_unit, typed, flagged}
use Rattle.os_ast.specs.Notes.Clauses.{captured_in, in_task, in_task_body, item_entity, with_items, item_flag}
use Rattle.os_ast.specs.Notes.Declarators.{form, form_with, sized_form, size_of, taken, form_entity, declared_entity, scalar_entity, declarator_notes, declarators_notes, after_declarator, after_declarators, after_start, start_notes}
use Rattle.os_ast.specs.Notes.Expressions.{expr_notes, value_notes, step_notes}
use Rattle.os_ast.specs.Notes.Kinds.{Note, Used, Sized, Declared, Parameter, Global, Left, Returned, Pragma, Task, Listed}
use Rattle.os_ast.specs.Notes.Programs.{after_param, after_params, in_body, in_function, owner_of, param_list, round_body}
use Rattle.os_ast.specs.Notes.Statements.{after_stmt, after_stmts, stmt_notes, stmts_notes}
use Rattle.os_ast.specs.ClauseMembers.{Item, ClauseMember, Private, item_name}
use Rattle.os_ast.specs.Stacked.{Extent, Stacked, begins, ends}
use Rattle.os_ast.specs.Trees as tree
use Rattle.os_ast.specs.declared.names.Entity.{Entity}
use Rattle.os_ast.specs.declared.names.Entity.TheVariants as entity
use Rattle.os_ast.specs.declared.names.Entry.{Entry}
use Rattle.os_ast.specs.declared.names.Form.{Form}
use Rattle.os_ast.specs.declared.names.Form.TheVariants as form_of
use Rattle.os_ast.specs.declared.names.Owner.{Owner}
use Rattle.os_ast.specs.declared.names.Owner.TheVariants as owner
use Rattle.window_check_laws.proofs.Owners.{owner_declarator, owner_start, owner_stmt}
use Rattle.window_check_laws.proofs.Rise.{rise_stmt}
use Rattle.window_check_laws.proofs.Stacks.{stacked_more}
use Rattle.window_check_laws.specs.Sums.{HasSize, HasSizes, IsArraySize, array_slots, declared_slots, declarators_slots, slots_round, start_slots, stmt_slots, stmts_slots, extent_in}

pub sizes-first : (size : tree.ExprTree → ℕ) (xs ys : List Note) → HasSizes size (xs ++ ys) → HasSizes size xs
sizes-first size [] ys h = tt
sizes-first size (Used s n u ∷ xs) ys h = sizes-first size xs ys h
sizes-first size (Sized s n ∷ xs) ys h = sizes-first size xs ys h
sizes-first size (Declared s d ∷ xs) ys h = (h.0, sizes-first size xs ys h.1)
sizes-first size (Parameter s n ∷ xs) ys h = sizes-first size xs ys h
sizes-first size (Global s n ∷ xs) ys h = sizes-first size xs ys h
sizes-first size (Left s m ∷ xs) ys h = sizes-first size xs ys h
sizes-first size (Returned s m ∷ xs) ys h = sizes-first size xs ys h
sizes-first size (Pragma s m ∷ xs) ys h = sizes-first size xs ys h
sizes-first size (Task s m items cs ∷ xs) ys h = sizes-first size xs ys h
sizes-first size (Listed before n ∷ xs) ys h = sizes-first size xs ys h

pub sizes-rest : (size : tree.ExprTree → ℕ) (xs ys : List Note) → HasSizes size (xs ++ ys) → HasSizes size ys
sizes-rest size [] ys h = h
sizes-rest size (Used s n u ∷ xs) ys h = sizes-rest size xs ys h
sizes-rest size (Sized s n ∷ xs) ys h = sizes-rest size xs ys h
sizes-rest size (Declared s d ∷ xs) ys h = sizes-rest size xs ys h.1
sizes-rest size (Parameter s n ∷ xs) ys h = sizes-rest size xs ys h
sizes-rest size (Global s n ∷ xs) ys h = sizes-rest size xs ys h
sizes-rest size (Left s m ∷ xs) ys h = sizes-rest size xs ys h
sizes-rest size (Returned s m ∷ xs) ys h = sizes-rest size xs ys h
sizes-rest size (Pragma s m ∷ xs) ys h = sizes-rest size xs ys h
sizes-rest size (Task s m items cs ∷ xs) ys h = sizes-rest size xs ys h
sizes-rest size (Listed before n ∷ xs) ys h = sizes-rest size xs ys h

array-slots : (o : Owner) (s : Scope) (v : Option ℕ) (n : ℕ) → IsArraySize o (unwrap_or v 0) n → (taken s (sized_form o v)).slots ≡ s.slots + array_slots o n
array-slots owner.OfMain s v n h = refl
array-slots owner.OfFunction s v n h = ap (λ k. s.slots + k) h
array-slots owner.OfTask s v n h = ap (λ k. s.slots + k) h

taken-slots : (size : tree.ExprTree → ℕ) (s : Scope) (stream : Bool) (i : Option tree.IndexTree) → HasSize size s i →
    (taken s (form_with s stream i)).slots ≡ s.slots + declared_slots s.owner size stream i
taken-slots size s false None h = refl
taken-slots size s false (Some i) h = array-slots s.owner s (size_of s i.value) (size i.value) h
taken-slots size s true None h = omega arith
taken-slots size s true (Some i) h = omega arith

summed-declarators : (size : tree.ExprTree → ℕ) (s : Scope) (ds : List tree.DeclaratorTree) → HasSizes size (declarators_notes s ds) →
    (after_declarators s ds).slots ≡ s.slots + declarators_slots s.owner size ds
summed-declarators size s [] h = omega arith
summed-declarators size s (d ∷ ds) h =
    let after = after_declarator s d in
    let own = sizes-first size (declarator_notes s d) (declarators_notes after ds) h in
    let here : after.slots ≡ s.slots + declared_slots s.owner size d.stream d.size = taken-slots size s d.stream d.size own.0 in
    let rest = summed-declarators size after ds (sizes-rest size (declarator_notes s d) (declarators_notes after ds) h) in
    let same : declarators_slots after.owner size ds ≡ declarators_slots s.owner size ds = ap (λ (o : Owner). declarators_slots o size ds) (owner_declarator s d) in
    omega (arith, here, rest, same)

summed-start : (size : tree.ExprTree → ℕ) (s : Scope) (t : tree.StartTree) → HasSizes size (start_notes s t) → (after_start s t).slots ≡ s.slots + start_slots s.owner size t
summed-start size s tree.StartTree.Empty h = omega arith
summed-start size s (tree.StartTree.Declare t ds) h = summed-declarators size (typed t s) ds h
summed-start size s (tree.StartTree.Change c) h = omega arith

mutual
  pub summed-stmt : (size : tree.ExprTree → ℕ) (s : Scope) (a : tree.StmtTree) → HasSizes size (stmt_notes s a) → (after_stmt s a).slots ≡ s.slots + stmt_slots s.owner size a
  summed-stmt size s tree.StmtTree.Empty h = omega arith
  summed-stmt size s (tree.Block ss) h = summed-stmts size (enter s) ss h
  summed-stmt size s (tree.StmtTree.Declare t ds) h = summed-declarators size (typed t s) ds h
  summed-stmt size s (tree.StmtTree.Change c) h = omega arith
  summed-stmt size s (tree.StmtTree.Call f args) h = omega arith
  summed-stmt size s (tree.If c a) h = summed-stmt size s a (sizes-rest size (expr_notes s c) (stmt_notes s a) h)
  summed-stmt size s (tree.IfElse c a b) h =
      let after = after_stmt s a in
      let front = expr_notes s c ++ stmt_notes s a in
      let one = summed-stmt size s a (sizes-rest size (expr_notes s c) (stmt_notes s a) (sizes-first size front (stmt_notes after b) h)) in
      let two = summed-stmt size after b (sizes-rest size front (stmt_notes after b) h) in
      let same : stmt_slots after.owner size b ≡ stmt_slots s.owner size b = ap (λ (o : Owner). stmt_slots o size b) (owner_stmt s a) in
      omega (arith, one, two, same)
  summed-stmt size s (tree.While c a) h = summed-stmt size (in_loop s) a (sizes-rest size (expr_notes s c) (stmt_notes (in_loop s) a) h)
  summed-stmt size s (tree.For start test step a) h =
      let head = after_start (enter s) start in
      let first = start_notes (enter s) start in
      let second = value_notes head test in
      let third = step_notes head step in
      let last = stmt_notes (in_loop head) a in
      let one = summed-start size (enter s) start (sizes-first size first second (sizes-first size (first ++ second) third (sizes-first size (first ++ second ++ third) last h))) in
      let two = summed-stmt size (in_loop head) a (sizes-rest size (first ++ second ++ third) last h) in
      let same : stmt_slots head.owner size a ≡ stmt_slots s.owner size a = ap (λ (o : Owner). stmt_slots o size a) (owner_start (enter s) start) in
      omega (arith, one, two, same)
  summed-stmt size s (tree.Break m) h = omega arith
  summed-stmt size s (tree.Continue m) h = omega arith
  summed-stmt size s (tree.Return m e) h = omega arith
  summed-stmt size s (tree.Task m cs a) h = omega arith
  summed-stmt size s (tree.Tick m t arrow e) h = omega arith
  summed-stmt size s (tree.Taskwait m) h = omega arith

  pub summed-stmts : (size : tree.ExprTree → ℕ) (s : Scope) (ss : tree.Stmts) → HasSizes size (stmts_notes s ss) → (after_stmts s ss).slots ≡ s.slots + stmts_slots s.owner size ss
  summed-stmts size s tree.no_stmts h = omega arith
  summed-stmts size s (tree.stmt a rest) h =
      let after = after_stmt s a in
      let one = summed-stmt size s a (sizes-first size (stmt_notes s a) (stmts_notes after rest) h) in
      let two = summed-stmts size after rest (sizes-rest size (stmt_notes s a) (stmts_notes after rest) h) in
      let same : stmts_slots after.owner size rest ≡ stmts_slots s.owner size rest = ap (λ (o : Owner). stmts_slots o size rest) (owner_stmt s a) in
      omega (arith, one, two, same)

-- A body begins behind its parameters, or behind what its task captures.
slots-params : (s : Scope) (ns : List Param) → (after_params s ns).slots ≡ s.slots + length ns
slots-params s [] = omega arith
slots-params s (n ∷ ns) = omega (arith, slots-params (after_param s n) ns)

slots-round : (o : Owner) (s : Scope) → (enter (round_body o (enter (in_unit o s)))).slots ≡ slots_round o
slots-round owner.OfMain s = refl
slots-round owner.OfFunction s = refl
slots-round owner.OfTask s = refl

pub slots-in_body : (s : Scope) (f : tree.FunctionTree) → (in_body s f).slots ≡ slots_round (owner_of f.name.id) + length (param_list f.params)
slots-in_body s f =
    let round = slots-round (owner_of f.name.id) s in
    let given = slots-params (in_function s f.name.id) (param_list f.params) in
    omega (arith, round, given)

slots-items : (s inner : Scope) (n : ℕ) (ps : List ClauseMember) → (with_items s inner n ps).slots ≡ inner.slots
slots-items s inner n [] = refl
slots-items s inner n (Item d i ∷ ps) = slots-items s (declare (flagged (item_flag s i) inner) (item_name i.stream i.window).id (item_entity s n d i)) (suc n) ps
slots-items s inner n (Private p ∷ ps) = slots-items s inner n ps

pub slots-in_task : (s : Scope) (ps : List ClauseMember) (a : tree.StmtTree) →
    (in_task_body s ps a).slots ≡ length (captured_in s.owner (slots_of (captured s.entries ps a)))
slots-in_task s ps a = slots-items s (in_task s (captured_in s.owner (slots_of (captured s.entries ps a)))) 0 ps

-- A statement that is no declaration leaves in scope what was there.
pub stays_in : {a : tree.StmtTree} → IsStmt a → (s : Scope) → (after_stmt s a).entries ≡ s.entries
stays_in IsStmt.empty s = refl
stays_in (IsStmt.block _) s = refl
stays_in (IsStmt.change _) s = refl
stays_in (IsStmt.call _) s = refl
stays_in (IsStmt.if_alone _ h) s = stays_in h s
stays_in (IsStmt.if_else {a = a} _ h _ k) s = stays_in k (after_stmt s a) ∙ stays_in h s
stays_in (IsStmt.while _ h) s = stays_in h (in_loop s)
stays_in (IsStmt.for _ _ _ _) s = refl
stays_in IsStmt.break s = refl
stays_in IsStmt.continue s = refl
stays_in (IsStmt.return _) s = refl
stays_in (IsStmt.task _ _) s = refl
stays_in (IsStmt.tick _ _) s = refl
stays_in IsStmt.taskwait s = refl

-- what is declared next lies above what is in scope
pub stacked-scalar : (o : Owner) (id depth slots : ℕ) (u : Bool) (es : List Entry) → Stacked (extent_in o) slots es →
    Stacked (extent_in o) (slots + 1) (record { id = id; depth = depth; entity = scalar_entity o slots; unsigned = u } ∷ es)
stacked-scalar owner.OfMain id depth slots u es h = (omega arith, h)
stacked-scalar owner.OfFunction id depth slots u es h = (omega arith, h)
stacked-scalar owner.OfTask id depth slots u es h = (omega arith, h)

abbrev StackedBehind : Owner → Scope → ℕ → Form → Type 0
StackedBehind o s id f = Stacked (extent_in o) (taken s f).slots (record { id = id; depth = (taken s f).depth; entity = form_entity s f; unsigned = (taken s f).unsigned } ∷ s.entries)

stacked-sized : (o : Owner) (s : Scope) (id : ℕ) (v : Option ℕ) → Stacked (extent_in o) s.slots s.entries → StackedBehind o s id (sized_form o v)
stacked-sized owner.OfMain s id v h = (omega arith, h)
stacked-sized owner.OfFunction s id v h = (omega arith, h)
stacked-sized owner.OfTask s id v h = (omega arith, h)

no-extent : (o : Owner) (n : ℕ) → extent_in o (entity.Stream n) ≡ None
no-extent owner.OfMain n = refl
no-extent owner.OfFunction n = refl
no-extent owner.OfTask n = refl

no-extents : (o : Owner) (n k : ℕ) → extent_in o (entity.Streams n k) ≡ None
no-extents owner.OfMain n k = refl
no-extents owner.OfFunction n k = refl
no-extents owner.OfTask n k = refl

pub stacked-none : (o : Owner) (top id depth : ℕ) (e : Entity) (u : Bool) (es : List Entry) → extent_in o e ≡ None → Stacked (extent_in o) top es →
    Stacked (extent_in o) top (record { id = id; depth = depth; entity = e; unsigned = u } ∷ es)
stacked-none o top id depth e u es none h =
    subst (λ (x : Option Extent). (ends x top ≤ top) × Stacked (extent_in o) (begins x top) es) (sym none) (omega arith, h)

stacked-form : (s : Scope) (id : ℕ) (stream : Bool) (i : Option tree.IndexTree) → Stacked (extent_in s.owner) s.slots s.entries → StackedBehind s.owner s id (form_with s stream i)
stacked-form s id false None h = stacked-scalar s.owner id s.depth s.slots s.unsigned s.entries h
stacked-form s id false (Some i) h = stacked-sized s.owner s id (size_of s i.value) h
stacked-form s id true None h = stacked-none s.owner s.slots id s.depth (entity.Stream (2 + s.streams)) s.unsigned s.entries (no-extent s.owner (2 + s.streams)) h
stacked-form s id true (Some i) h = stacked-none s.owner s.slots id s.depth (form_entity s (form_with s true (Some i))) s.unsigned s.entries (no-extents s.owner (2 + s.streams) (unwrap_or (size_of s i.value) 0)) h

pub stacked-declarator : (s : Scope) (d : tree.DeclaratorTree) → Stacked (extent_in s.owner) s.slots s.entries →
    Stacked (extent_in s.owner) (after_declarator s d).slots (after_declarator s d).entries
stacked-declarator s d h =
    subst (λ (es : List Entry). Stacked (extent_in s.owner) (taken s (form s d)).slots (record { id = d.name.id; depth = (taken s (form s d)).depth; entity = declared_entity s d; unsigned = (taken s (form s d)).unsigned } ∷ es))
    (sym (taken-entries s (form s d))) (stacked-form s d.name.id d.stream d.size h)
  where
    taken-entries : (s : Scope) (f : Form) → (taken s f).entries ≡ s.entries
    taken-entries s form_of.Scalar = refl
    taken-entries s (form_of.Array n) = refl
    taken-entries s form_of.Window = refl
    taken-entries s form_of.Stream = refl
    taken-entries s (form_of.Streams n) = refl

stacked-declarators : (s : Scope) (ds : List tree.DeclaratorTree) → Stacked (extent_in s.owner) s.slots s.entries →
    Stacked (extent_in s.owner) (after_declarators s ds).slots (after_declarators s ds).entries
stacked-declarators s [] h = h
stacked-declarators s (d ∷ ds) h =
    let after = after_declarator s d in
    let own = owner_declarator s d in
    let here = stacked-declarator s d h in
    subst (λ (o : Owner). Stacked (extent_in o) (after_declarators after ds).slots (after_declarators after ds).entries) own
    (stacked-declarators after ds (subst (λ (o : Owner). Stacked (extent_in o) after.slots after.entries) (sym own) here))

pub stacked-stmt : {a : tree.StmtTree} → IsStmt a → (s : Scope) → Stacked (extent_in s.owner) s.slots s.entries →
    Stacked (extent_in s.owner) (after_stmt s a).slots (after_stmt s a).entries
stacked-stmt {a = a} is s h =
    subst (λ (es : List Entry). Stacked (extent_in s.owner) (after_stmt s a).slots es) (sym (stays_in is s))
    (stacked_more (extent_in s.owner) s.slots (after_stmt s a).slots s.entries (rise_stmt s a) h)

pub stacked-stmts : {ss : tree.Stmts} → AreStmts ss → (s : Scope) → Stacked (extent_in s.owner) s.slots s.entries →
    Stacked (extent_in s.owner) (after_stmts s ss).slots (after_stmts s ss).entries
stacked-stmts AreStmts.no_stmts s h = h
stacked-stmts (AreStmts.declare {t = t} {ds = ds} {ss = ss} _ rest) s h =
    let after = after_declarators (typed t s) ds in
    moved s after ss (owner_stmt s (tree.StmtTree.Declare t ds)) (stacked-declarators (typed t s) ds h) (λ k. stacked-stmts rest after k)
  where
    moved : (s after : Scope) (ss : tree.Stmts) → after.owner ≡ s.owner → Stacked (extent_in s.owner) after.slots after.entries →
        (Stacked (extent_in after.owner) after.slots after.entries → Stacked (extent_in after.owner) (after_stmts after ss).slots (after_stmts after ss).entries) →
        Stacked (extent_in s.owner) (after_stmts after ss).slots (after_stmts after ss).entries
    moved s after ss own here rest =
        subst (λ (o : Owner). Stacked (extent_in o) (after_stmts after ss).slots (after_stmts after ss).entries) own
        (rest (subst (λ (o : Owner). Stacked (extent_in o) after.slots after.entries) (sym own) here))
stacked-stmts (AreStmts.stmt {s = a} {ss = ss} is rest) s h =
    let after = after_stmt s a in
    let own = owner_stmt s a in
    let here = stacked-stmt is s h in
    subst (λ (o : Owner). Stacked (extent_in o) (after_stmts after ss).slots (after_stmts after ss).entries) own
    (stacked-stmts rest after (subst (λ (o : Owner). Stacked (extent_in o) after.slots after.entries) (sym own) here))
