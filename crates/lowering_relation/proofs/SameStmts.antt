-- A lawful body does the same where more is in scope, under names that the file doesn't have.
use Rattle.std.proofs.Common.{◌≡◌, ℕ, ◌≤◌, List, [], ◌∷◌, ◌++◌, Option, Some, None, if◌then◌else◌, refl, sym, ap, ◌∙◌, subst, arith}
use Rattle.c_int.specs.Operators.{is_zero}
use Rattle.cddf_meaning.specs.Answers.{and_then}
use Rattle.cddf_meaning.specs.File.{variable}
use Rattle.cddf_meaning.specs.Flow.{Ran, Went, goes_on}
use Rattle.cddf_meaning.specs.Run.{Around, loop, run_test, run_step, run, run_all}
use Rattle.cddf_meaning.specs.BodyState.{BodyState}
use Rattle.cddf_meaning.specs.Value.{value, values, call_value}
use Rattle.cddf_meaning.specs.declared.flow.Flow.TheVariants.{Returns}
use Rattle.cddf_meaning.specs.declared.site.Site.{Site}
use Rattle.cddf_meaning.specs.declared.variable.Binding.{Binding}
use Rattle.os_ast.specs.Captured.{captured}
use Rattle.os_ast.specs.Leveled.{IsStmt, AreStmts}
use Rattle.os_ast.specs.Names.{Scope, enter, in_loop, typed}
use Rattle.os_ast.specs.Notes.Clauses.{in_task_body, members_notes, clauses_notes}
use Rattle.os_ast.specs.Notes.Declarators.{after_declarators, declarators_notes, after_start, start_notes}
use Rattle.os_ast.specs.Notes.Expressions.{count_args, expr_notes, args_notes, value_notes, step_notes}
use Rattle.os_ast.specs.Notes.Kinds.{Task}
use Rattle.os_ast.specs.Notes.Statements.{after_stmt, stmt_notes, stmts_notes}
use Rattle.os_ast.specs.ClauseMembers.{members, count_items}
use Rattle.os_ast.specs.Trees as tree
use Rattle.os_ast.specs.Unsigned.{is_unsigned}
use Rattle.os_ast.specs.declared.expr.Mark.{Mark}
use Rattle.os_ast.specs.declared.names.Entry.{Entry}
use Rattle.os_ast.specs.declared.names.Owner.TheVariants as owner
use Rattle.os_ast.specs.declared.names.Use.TheVariants as usage
use Rattle.lowering_relation.specs.FoundNames.{AreElse, with_more}
use Rattle.lowering_relation.proofs.Context.{Context, Agree, agree_first, agree_rest, In, in_typed}
use Rattle.lowering_relation.proofs.Declarators.{around_of}
use Rattle.lowering_relation.proofs.Declares.{declarators_in}
use Rattle.lowering_relation.proofs.Elsewhere.{same_then}
use Rattle.lowering_relation.proofs.Flows.{exactly, around, Extends}
use Rattle.lowering_relation.proofs.Owning.{OfTask, Owns, OwnsAll}
use Rattle.lowering_relation.proofs.SameChanges.{change_same, declarators_same, start_same}
use Rattle.lowering_relation.proofs.SameFlows.{SameRan, went, breaks, continues, returns, ended, given_same, flows_same, scope_same, branch_same, loop_same}
use Rattle.lowering_relation.proofs.SameNames.{Matches, seen_used, seen_expr, seen_all, value_more, values_more, variable_more}
use Rattle.lowering_relation.proofs.SameStreams.{SeesAll, IsNamed, task_same, tick_same}
use Rattle.lowering_relation.proofs.Static.{stmt_onward, made, made_first, made_all, none_made, first_extends, all_extend, extends_more, made_extends}
use Rattle.lowering_relation.proofs.Stmts.{main_pragma}
use Rattle.window_check_laws.proofs.Summed.{stays_in}

module _ (c : Context) (more : List Binding) (apart : AreElse c.file more) (sites : List Site) (known : OfTask) (sees : c.owner ≡ owner.OfMain → SeesAll c)
    (named : c.owner ≡ owner.OfMain → (s : Scope) (m : Mark) (cs : List tree.ClauseTree) (a : tree.StmtTree) → known s m cs a → IsNamed sites s m cs a) where
  abbrev u : Around
  u = around_of c sites

  abbrev Same : (List Entry → Type 0) → List Entry → Ran → Ran → Type 0
  Same within after r1 r2 = SameRan c more within after r1 r2

  moved_in : (s t : Scope) (es : List Entry) → In c s es → t.owner ≡ s.owner → t.captured ≡ s.captured → t.entries ≡ s.entries → s.depth ≤ t.depth → In c t es
  moved_in s t es is a b e d = record { owner = a ∙ is.owner; captured = b ∙ is.captured; entries = e ∙ is.entries; deep = (let x = is.deep in omega (arith, x, d)); arrays = is.arrays }

  stmt_in : {a : tree.StmtTree} → IsStmt a → (s : Scope) (es : List Entry) → In c s es → In c (after_stmt s a) es
  stmt_in {a = a} is s es h = let o = stmt_onward a s in moved_in s (after_stmt s a) es h o.owner o.captured (stays_in is s) (omega (arith, o.depth))

  start_in : (t : tree.StartTree) (s : Scope) (es : List Entry) → In c s es → In c (after_start s t) (made_first s t es)
  start_in tree.StartTree.Empty s es is = is
  start_in (tree.StartTree.Declare ty ds) s es is = declarators_in c ds (typed ty s) es (in_typed c ty s es is)
  start_in (tree.StartTree.Change x) s es is = is

  expr_same : (s : Scope) (es : List Entry) (st : BodyState) (e : tree.ExprTree) (turns : ℕ) → In c s es → Matches c st.bound es → Agree c (expr_notes s e) → value c.file e st turns ≡ value c.file e (with_more more st) turns
  expr_same s es st e turns is same agree = value_more c.file more apart st e turns (seen_expr c s es is st.bound same e agree)

  test_same : (test : Option tree.ExprTree) (s : Scope) (es : List Entry) → In c s es → Agree c (value_notes s test) → (st : BodyState) (turns : ℕ) → Matches c st.bound es → run_test c.file test st turns ≡ run_test c.file test (with_more more st) turns
  test_same None s es is agree st turns same = refl
  test_same (Some e) s es is agree st turns same = expr_same s es st e turns is same agree

  step_same : (step : Option tree.ChangeTree) (s : Scope) (es : List Entry) → In c s es → Agree c (step_notes s step) → (st : BodyState) (turns : ℕ) → Matches c st.bound es →
      Same (exactly es) es (run_step c.file step st turns) (run_step c.file step (with_more more st) turns)
  step_same None s es is agree st turns same = went st turns same
  step_same (Some x) s es is agree st turns same = change_same c more apart sites s es is x st turns (exactly es) same agree

  -- what is known of more scopes
  widened : {r1 r2 : Ran} (inner es after : List Entry) → Extends inner es → Same (around inner) after r1 r2 → Same (around es) after r1 r2
  widened inner es after ext (went st turns m) = went st turns m
  widened inner es after ext (breaks st turns x i m) = breaks st turns x (extends_more ext i) m
  widened inner es after ext (continues st turns x i m) = continues st turns x (extends_more ext i) m
  widened inner es after ext (returns v st turns) = returns v st turns
  widened inner es after ext (ended e activations) = ended e activations

  mutual
    pub stmt_same : {a : tree.StmtTree} → IsStmt a → (s : Scope) (es : List Entry) (st : BodyState) (turns : ℕ) → In c s es → Matches c st.bound es → Agree c (stmt_notes s a) → Owns known s a →
        Same (exactly es) es (run u a st turns) (run u a (with_more more st) turns)
    stmt_same IsStmt.empty s es st turns is same agree own = went st turns same
    stmt_same (IsStmt.block {ss = ss} block) s es st turns is same agree own =
        scope_same c more st (around es) (made_all (enter s) ss es) es (λ x y. y) (all_extend ss (enter s) es) same
        (stmts_same block (enter s) es st turns (moved_in s (enter s) es is refl refl refl (omega arith)) same agree own)
    stmt_same (IsStmt.change {c = x} _) s es st turns is same agree own = change_same c more apart sites s es is x st turns (exactly es) same agree
    stmt_same (IsStmt.call {f = f} {args = args} _) s es st turns is same agree own =
        given_same c more st (and_then (values c.file args st turns) (call_value c.file.calls (variable c.file st f.id)))
        (and_then (values c.file args (with_more more st) turns) (call_value c.file.calls (variable c.file (with_more more st) f.id))) (λ n. goes_on st n.turns) (λ n. goes_on (with_more more st) n.turns)
        (same_then (values c.file args st turns) (values c.file args (with_more more st) turns) (call_value c.file.calls (variable c.file st f.id)) (call_value c.file.calls (variable c.file (with_more more st) f.id))
        (values_more c.file more apart st args turns (seen_all c s es is st.bound same args agree.1))
        (λ x. ap (λ o. call_value c.file.calls o x) (variable_more c.file more apart st f.id (seen_used c s es is st.bound same f (usage.Called (count_args args)) (args_notes s args) tt agree))))
        (λ n q. went st n.turns same)
    stmt_same (IsStmt.if_alone {c = x} {a = a} _ body) s es st turns is same agree own =
        given_same c more st (value c.file x st turns) (value c.file x (with_more more st) turns) (λ n. if is_zero n.value then goes_on st n.turns else run u a st n.turns)
        (λ n. if is_zero n.value then goes_on (with_more more st) n.turns else run u a (with_more more st) n.turns) (expr_same s es st x turns is same (agree_first c (expr_notes s x) (stmt_notes s a) agree))
        (λ n q. branch_same c more n.value (went st n.turns same) (stmt_same body s es st n.turns is same (agree_rest c (expr_notes s x) (stmt_notes s a) agree) own))
    stmt_same (IsStmt.if_else {c = x} {a = a} {b = b} _ body _ other) s es st turns is same agree own =
        let s1 = after_stmt s a in
        let front = agree_first c (expr_notes s x ++ stmt_notes s a) (stmt_notes s1 b) agree in
        given_same c more st (value c.file x st turns) (value c.file x (with_more more st) turns) (λ n. if is_zero n.value then run u b st n.turns else run u a st n.turns)
        (λ n. if is_zero n.value then run u b (with_more more st) n.turns else run u a (with_more more st) n.turns) (expr_same s es st x turns is same (agree_first c (expr_notes s x) (stmt_notes s a) front))
        (λ n q. branch_same c more n.value
        (stmt_same other s1 es st n.turns (stmt_in body s es is) same (agree_rest c (expr_notes s x ++ stmt_notes s a) (stmt_notes s1 b) agree) own.1)
        (stmt_same body s es st n.turns is same (agree_rest c (expr_notes s x) (stmt_notes s a) front) own.0))
    stmt_same (IsStmt.while {c = x} {s = a} _ body) s es st turns is same agree own =
        loop_same c more turns (value c.file x) (run u a) goes_on es (λ st1 t1 m1. expr_same s es st1 x t1 is m1 (agree_first c (expr_notes s x) (stmt_notes (in_loop s) a) agree))
        (λ st1 t1 m1. stmt_same body (in_loop s) es st1 t1 (moved_in s (in_loop s) es is refl refl refl (omega arith)) m1 (agree_rest c (expr_notes s x) (stmt_notes (in_loop s) a) agree) own)
        (λ st1 t1 m1. went st1 t1 m1) st turns same
    stmt_same (IsStmt.for {start = start} {test = test} {step = step} {s = a} _ _ _ body) s es st turns is same agree own =
        let head = after_start (enter s) start in
        let es1 = made_first (enter s) start es in
        let first = start_notes (enter s) start in
        let agree3 = agree_first c (first ++ value_notes head test ++ step_notes head step) (stmt_notes (in_loop head) a) agree in
        let agree_a = agree_rest c (first ++ value_notes head test ++ step_notes head step) (stmt_notes (in_loop head) a) agree in
        let agree2 = agree_first c (first ++ value_notes head test) (step_notes head step) agree3 in
        let agree_step = agree_rest c (first ++ value_notes head test) (step_notes head step) agree3 in
        let inside = moved_in s (enter s) es is refl refl refl (omega arith) in
        let at_head = start_in start (enter s) es inside in
        scope_same c more st (exactly es1) es1 es (λ x e. subst (λ y. Extends y es) (sym e) (first_extends start (enter s) es)) (first_extends start (enter s) es) same
        (flows_same c more (exactly es1) (exactly es1) es1 es1 (λ inner left. loop left (run_test c.file test) (run u a) (run_step c.file step) inner left) (λ inner left. loop left (run_test c.file test) (run u a) (run_step c.file step) inner left) (λ x i. i)
        (start_same c more apart sites start (enter s) es st turns (exactly es1) inside same (agree_first c first (value_notes head test) agree2))
        (λ st1 t1 m1. loop_same c more t1 (run_test c.file test) (run u a) (run_step c.file step) es1 (test_same test head es1 at_head (agree_rest c first (value_notes head test) agree2))
        (λ st2 t2 m2. stmt_same body (in_loop head) es1 st2 t2 (moved_in head (in_loop head) es1 at_head refl refl refl (omega arith)) m2 agree_a own) (step_same step head es1 at_head agree_step) st1 t1 m1))
    stmt_same IsStmt.break s es st turns is same agree own = breaks st turns es refl same
    stmt_same IsStmt.continue s es st turns is same agree own = continues st turns es refl same
    stmt_same (IsStmt.return {e = e} _) s es st turns is same agree own =
        given_same c more st (value c.file e st turns) (value c.file e (with_more more st) turns) (λ n. Went (Returns n.value) st n.turns) (λ n. Went (Returns n.value) (with_more more st) n.turns)
        (expr_same s es st e turns is same agree.1) (λ n q. returns n.value st n.turns)
    stmt_same (IsStmt.task {m = mark} {cs = cs} {s = a} _ _) s es st turns is same agree own =
        let note = Task s mark (count_items (members cs)) (captured s.entries (members cs) a) ∷ [] in
        let front = agree_first c (clauses_notes s mark (members cs) a) (stmt_notes (in_task_body s (members cs) a) a) agree in
        let at_note = agree_rest c (members_notes s [] (members cs)) note front in
        let main = sym is.owner ∙ main_pragma s.owner at_note.0.0.1.1.1.1.1.1.1.0 in
        task_same c more apart (sees main) s es is st same sites mark cs a turns (agree_first c (members_notes s [] (members cs)) note front) (named main s mark cs a own)
    stmt_same (IsStmt.tick {m = mark} {t = t} {a = arrow} {e = e} _ _) s es st turns is same agree own =
        let main = sym is.owner ∙ main_pragma s.owner agree.0.0.1.1.1.1.1.1.1.0 in
        tick_same c more apart (sees main) s es is st same t arrow e turns agree.1
    stmt_same IsStmt.taskwait s es st turns is same agree own = went st turns same

    pub stmts_same : {ss : tree.Stmts} → AreStmts ss → (s : Scope) (es : List Entry) (st : BodyState) (turns : ℕ) → In c s es → Matches c st.bound es → Agree c (stmts_notes s ss) → OwnsAll known s ss →
        Same (around es) (made_all s ss es) (run_all u ss st turns) (run_all u ss (with_more more st) turns)
    stmts_same AreStmts.no_stmts s es st turns is same agree own = went st turns same
    stmts_same (AreStmts.declare {t = ty} {ds = ds} {ss = ss} _ rest) s0 es st turns before same agree own =
        let s = typed ty s0 in
        let is = in_typed c ty s0 es before in
        let s1 = after_declarators s ds in
        flows_same c more (exactly (made s ds es)) (around es) (made s ds es) (made_all s1 ss (made s ds es)) (run_all u ss) (run_all u ss) (λ x e. subst (λ y. Extends y es) (sym e) (made_extends ds s es))
        (declarators_same c more apart sites (is_unsigned ty) ds s es st turns (exactly (made s ds es)) is same (agree_first c (declarators_notes s ds) (stmts_notes s1 ss) agree))
        (λ st1 t1 m1. widened (made s ds es) es (made_all s1 ss (made s ds es)) (made_extends ds s es)
        (stmts_same rest s1 (made s ds es) st1 t1 (declarators_in c ds s es is) m1 (agree_rest c (declarators_notes s ds) (stmts_notes s1 ss) agree) own.1))
    stmts_same (AreStmts.stmt {s = a} {ss = ss} body rest) s es st turns is same agree own =
        let s1 = after_stmt s a in
        subst (λ x. Same (around es) (made_all s1 ss x) (run_all u (tree.stmt a ss) st turns) (run_all u (tree.stmt a ss) (with_more more st) turns)) (sym (none_made body s es))
        (flows_same c more (exactly es) (around es) es (made_all s1 ss es) (run_all u ss) (run_all u ss) (λ x e. ([], e))
        (stmt_same body s es st turns is same (agree_first c (stmt_notes s a) (stmts_notes s1 ss) agree) own.0)
        (λ st1 t1 m1. stmts_same rest s1 es st1 t1 (stmt_in body s es is) m1 (agree_rest c (stmt_notes s a) (stmts_notes s1 ss) agree) own.1))
