-- The code of statements does what they do.
use Rattle.std.proofs.Common.{◌≡◌, ℕ, ◌+◌, ◌<◌, ◌≤◌, false, not, if◌then◌else◌, List, [], ◌∷◌, ◌++◌, length, Option, Some, None, ℤ, refl, sym, ◌∙◌, subst, arith}
use Rattle.c_int.specs.Operators.{is_zero}
use Rattle.cddf_meaning.specs.Flow.{Ran, Went, goes_on}
use Rattle.cddf_meaning.specs.Moves.{Falls, Keeps}
use Rattle.cddf_meaning.specs.Run.{loop, run_change, run_start, run_test, run_step, run, run_all}
use Rattle.cddf_meaning.specs.BodyState.{BodyState}
use Rattle.cddf_meaning.specs.Value.{value}
use Rattle.cddf_meaning.specs.declared.flow.Flow.TheVariants.{GoesOn, Breaks, Continues, Returns}
use Rattle.cddf_meaning.specs.declared.site.Site.{Site}
use Rattle.cddf_meaning.proofs.Falls.{value-falls}
use Rattle.cddf_meaning.proofs.Keeps.{run-keeps}
use Rattle.os_ast.specs.Leveled.{IsStmt, AreStmts}
use Rattle.os_ast.specs.Names.{Scope, enter, in_loop, typed}
use Rattle.os_ast.specs.Notes.Clauses.{in_task_body, members_notes, clauses_notes}
use Rattle.os_ast.specs.Notes.Declarators.{after_declarators, declarators_notes, after_start, start_notes}
use Rattle.os_ast.specs.Notes.Expressions.{expr_notes, value_notes, change_notes, step_notes}
use Rattle.os_ast.specs.Notes.Kinds.{Task}
use Rattle.os_ast.specs.Notes.Statements.{after_stmt, after_stmts, stmt_notes, stmts_notes}
use Rattle.os_ast.specs.ClauseMembers.{members, count_items}
use Rattle.os_ast.specs.Captured.{captured}
use Rattle.os_ast.specs.Rules.{is_main_body}
use Rattle.os_ast.specs.Trees as tree
use Rattle.os_ast.specs.declared.expr.Mark.{Mark}
use Rattle.os_ast.specs.declared.names.Entry.{Entry}
use Rattle.os_ast.specs.declared.names.Owner.{Owner}
use Rattle.os_ast.specs.declared.names.Owner.TheVariants as owner
use Rattle.os_code.specs.declared.instr.Instr.{Instr}
use Rattle.os_code.specs.declared.instr.Instr.TheVariants as instr
use Rattle.os_code.specs.declared.parts.Parts.{Parts}
use Rattle.os_code.specs.Machine as machine
use Rattle.os_code.specs.Machine.{Frame}
use Rattle.lowering_relation.specs.Alignment.{Stacked}
use Rattle.lowering_relation.specs.Changes.{HasChange}
use Rattle.lowering_relation.specs.Declarators.{HasStart}
use Rattle.lowering_relation.specs.Expressions.{Stands}
use Rattle.lowering_relation.specs.Statements.{Body, Ends, by_itself, by_jump, HasLoop, HasStmt, HasStmts}
use Rattle.lowering_relation.specs.Tasks.{TaskTree}
use Rattle.lowering_relation.proofs.Alignment.{stacked_more}
use Rattle.lowering_relation.proofs.Changes.{change_does}
use Rattle.lowering_relation.proofs.Conditions.{cond_runs, test_runs}
use Rattle.lowering_relation.proofs.Context.{resources, Kept, Context, means, tells, Agree, agree_first, agree_rest, In, in_typed}
use Rattle.lowering_relation.proofs.Declarators.{around_of, DeclaratorDoes, declarators_does}
use Rattle.lowering_relation.proofs.Declares.{declarators_in, declarators_stacked}
use Rattle.lowering_relation.proofs.Exprs.{Ready, expr_runs, ready_typed}
use Rattle.lowering_relation.proofs.Flows.{After, Does, went, ended, given_does, exactly, Extends, around, settled, AlignedIn, DoesFrom, went_on, flows_does, scope_does, jumped, branch_does, loop_does}
use Rattle.lowering_relation.proofs.Owning.{OfTask, Owns, OwnsAll}
use Rattle.lowering_relation.proofs.Static.{Onward, declarators_onward, stmt_onward, stmts_onward, made, made_first, made_all, none_made, first_extends, all_extend, extends_more, made_extends}
use Rattle.lowering_relation.proofs.Steps.{Store, at, Leads, stays, drop_top, jump}
use Rattle.window_check_laws.proofs.Summed.{stays_in}

-- what stands behind the first statement of a block
pub data HasRest (code : Parts) (b : Body) (rest : tree.Stmts) (broke continued next : ℕ) : (mid end to : ℕ) → Type 0 where
  last : {to : ℕ} → rest ≡ tree.no_stmts → HasRest code b rest broke continued next next to to
  more : {end to : ℕ} → HasStmts code b rest broke continued next end to → HasRest code b rest broke continued next end end to

pub has_rest : (code : Parts) (b : Body) (a : tree.StmtTree) (rest : tree.Stmts) (broke continued next from to : ℕ) → HasStmts code b (tree.stmt a rest) broke continued next from to →
    (mid end : ℕ) × HasStmt code b a broke continued mid from end × HasRest code b rest broke continued next mid end to
has_rest code b a tree.no_stmts broke continued next from to h = (next, to, h, last refl)
has_rest code b a (tree.stmt x rest) broke continued next from to h = (h.0, h.0, h.1, more h.2)

-- a pragma stands in `main` alone
pub main_pragma : (o : Owner) → not (is_main_body o) ≡ false → o ≡ owner.OfMain
main_pragma owner.OfMain h = refl
main_pragma owner.OfFunction h = absurd (cc)
main_pragma owner.OfTask h = absurd (cc)

module _ (c : Context) (callers : List Frame) (leaves : Instr) (total : ℕ) (sites : List Site) (tasks : List TaskTree) (known : OfTask) where
  abbrev pub body_of : Body
  body_of = record { tells = tells c; tasks = tasks; leaves = leaves }

  abbrev pub StmtDoes : tree.StmtTree → Type 0
  StmtDoes a =
      (s : Scope) (es : List Entry) (st : BodyState) (m : Store) (broke continued next from to : ℕ) (stack : List ℤ) (turns : ℕ) → Ready c s es st m →
      Stacked (means c) s.slots (es ++ c.bound) → (after_stmt s a).slots ≤ total → length m.slots ≡ total → Agree c (stmt_notes s a) → Owns known s a →
      HasStmt c.code body_of a broke continued next from to →
      Does c.code (at callers from stack m turns) (settled c callers leaves total next broke continued stack (exactly es) es) (run (around_of c sites) a st turns)

  abbrev pub Settled : ℕ → ℕ → ℕ → List ℤ → List Entry → After
  Settled next broke continued stack es = settled c callers leaves total next broke continued stack (exactly es) es

  moved_in : (s t : Scope) (es : List Entry) → In c s es → t.owner ≡ s.owner → t.captured ≡ s.captured → t.entries ≡ s.entries → s.depth ≤ t.depth → In c t es
  moved_in s t es is a b e d = record { owner = a ∙ is.owner; captured = b ∙ is.captured; entries = e ∙ is.entries; deep = omega (arith, is.deep, d); arrays = is.arrays }

  moved_on : (s t : Scope) (es : List Entry) (st : BodyState) (m : Store) → Ready c s es st m → Onward s t → t.entries ≡ s.entries → Ready c t es st m
  moved_on s t es st m ready o e = record { scope = moved_in s t es ready.scope o.owner o.captured e (omega (arith, o.depth)); aligned = ready.aligned; kept = ready.kept }

  -- the same state, in a scope that differs only in what it counts
  same_place : (s t : Scope) (es : List Entry) (st : BodyState) (m : Store) → Ready c s es st m → t.owner ≡ s.owner → t.captured ≡ s.captured → t.entries ≡ s.entries → s.depth ≤ t.depth → Ready c t es st m
  same_place s t es st m ready a b e d = record { scope = moved_in s t es ready.scope a b e d; aligned = ready.aligned; kept = ready.kept }

  onto_next : (from to next : ℕ) (stack : List ℤ) (m : Store) (turns : ℕ) → from ≡ to → next ≡ to → Leads c.code (at callers from stack m turns) (at callers next stack m turns)
  onto_next from to next stack m turns a b = subst (λ q. Leads c.code (at callers from stack m turns) (at callers q stack m turns)) (a ∙ sym b) stays

  ends_next : {s : machine.MachineState} {r : Ran} (next to broke continued : ℕ) (stack : List ℤ) (within : List Entry → Type 0) (after : List Entry) → next ≡ to →
      Does c.code s (settled c callers leaves total to broke continued stack within after) r → Does c.code s (settled c callers leaves total next broke continued stack within after) r
  ends_next {s = s} {r = r} next to broke continued stack within after e d = subst (λ q. Does c.code s (settled c callers leaves total q broke continued stack within after) r) (sym e) d

  -- what is known of more scopes
  widened : {s : machine.MachineState} {r : Ran} (es1 es after : List Entry) (next broke continued : ℕ) (stack : List ℤ) → Extends es1 es →
      Does c.code s (settled c callers leaves total next broke continued stack (around es1) after) r → Does c.code s (settled c callers leaves total next broke continued stack (around es) after) r
  widened es1 es after next broke continued stack ext (went GoesOn st turns w l) = went GoesOn st turns w l
  widened es1 es after next broke continued stack ext (went Breaks st turns (m, len, kept, (x, i, al)) l) = went Breaks st turns (m, len, kept, (x, extends_more ext i, al)) l
  widened es1 es after next broke continued stack ext (went Continues st turns (m, len, kept, (x, i, al)) l) = went Continues st turns (m, len, kept, (x, extends_more ext i, al)) l
  widened es1 es after next broke continued stack ext (went (Returns v) st turns w l) = went (Returns v) st turns w l
  widened es1 es after next broke continued stack ext (ended made h k) = ended made h k

  -- a part that goes on elsewhere
  ends_does : {part : (next from to : ℕ) → Type 0} (next broke continued from to : ℕ) (stack : List ℤ) (es : List Entry) {s : machine.MachineState} {r : Ran} →
      ((q end : ℕ) → part q from end → Does c.code s (Settled q broke continued stack es) r) → Ends c.code part next from to → Does c.code s (Settled next broke continued stack es) r
  ends_does next broke continued from to stack es runs (by_itself h) = runs next to h
  ends_does next broke continued from to stack es runs (by_jump end h is) = jumped c callers leaves total end next broke continued stack (exactly es) es is (runs end end h)

  module _ (control : c.owner ≡ owner.OfMain → (d : tree.DeclaratorTree) → DeclaratorDoes c callers leaves total sites d)
      (task_does : c.owner ≡ owner.OfMain → (mark : Mark) (cs : List tree.ClauseTree) (a : tree.StmtTree) → StmtDoes (tree.Task mark cs a))
      (tick_does : c.owner ≡ owner.OfMain → (mark : Mark) (t : tree.TargetTree) (arrow : Mark) (e : tree.ExprTree) → StmtDoes (tree.Tick mark t arrow e)) where
    -- the step of a loop, and the jump behind it
    step_does : (x : tree.ChangeTree) (s : Scope) (es : List Entry) (broke continued step end to again : ℕ) (stack : List ℤ) → ((st : BodyState) (m : Store) → AlignedIn c callers leaves total m st.bound es → Kept c.side st m → Ready c s es st m) →
        Stacked (means c) s.slots (es ++ c.bound) → s.slots ≤ total → Agree c (change_notes s x) → HasChange c.code (tells c) x step end → Stands c.code (instr.Jump again ∷ []) end to →
        DoesFrom c callers leaves total step stack es (Settled again broke continued stack es) (run_change c.file x)
    step_does x s es broke continued step end to again stack ready stacked fits agree h back st m turns len kept al =
        jumped c callers leaves total end again broke continued stack (exactly es) es back.0
        (change_does c callers leaves total s es s.slots st m (ready st m al kept) stacked fits len x broke continued step end stack turns (exactly es) agree h)

    -- what stands behind a first statement
    rest_does : (ss : tree.Stmts) (s1 : Scope) (es1 es : List Entry) (st1 : BodyState) (m1 : Store) (broke continued next mid end to : ℕ) (stack : List ℤ) (t1 : ℕ) → Extends es1 es → length m1.slots ≡ total → Kept c.side st1 m1 →
        AlignedIn c callers leaves total m1 st1.bound es1 → HasRest c.code body_of ss broke continued next mid end to →
        (HasStmts c.code body_of ss broke continued next end to → Does c.code (at callers end stack m1 t1) (settled c callers leaves total next broke continued stack (around es1) (made_all s1 ss es1)) (run_all (around_of c sites) ss st1 t1)) →
        Does c.code (at callers mid stack m1 t1) (settled c callers leaves total next broke continued stack (around es) (made_all s1 ss es1)) (run_all (around_of c sites) ss st1 t1)
    rest_does ss s1 es1 es st1 m1 broke continued next mid end to stack t1 ext len1 kept1 al1 (last none) go =
        subst (λ x. Does c.code (at callers next stack m1 t1) (settled c callers leaves total next broke continued stack (around es) (made_all s1 x es1)) (run_all (around_of c sites) x st1 t1)) (sym none)
        (went_on c callers leaves total es1 st1 m1 t1 len1 kept1 al1 stays)
    rest_does ss s1 es1 es st1 m1 broke continued next mid end to stack t1 ext len1 kept1 al1 (more has) go = widened es1 es (made_all s1 ss es1) next broke continued stack ext (go has)

    abbrev BodyDoes : tree.StmtTree → List ℤ → Type 0
    BodyDoes a stack =
        (s : Scope) (es : List Entry) (st : BodyState) (m : Store) (broke continued next from to turns : ℕ) → Ready c s es st m →
        Stacked (means c) s.slots (es ++ c.bound) → (after_stmt s a).slots ≤ total → length m.slots ≡ total → Agree c (stmt_notes s a) → Owns known s a →
        HasStmt c.code body_of a broke continued next from to →
        Does c.code (at callers from stack m turns) (Settled next broke continued stack es) (run (around_of c sites) a st turns)

    start_does : (t : tree.StartTree) (s : Scope) (es : List Entry) (st : BodyState) (m : Store) (broke continued from to : ℕ) (stack : List ℤ) (turns : ℕ) (within : List Entry → Type 0) → Ready c s es st m → c.floor < s.depth →
        Stacked (means c) s.slots (es ++ c.bound) → (after_start s t).slots ≤ total → length m.slots ≡ total → Agree c (start_notes s t) → HasStart c.code (tells c) t from to →
        Does c.code (at callers from stack m turns) (settled c callers leaves total to broke continued stack within (made_first s t es)) (run_start (around_of c sites) t st turns)
    start_does tree.StartTree.Empty s es st m broke continued from to stack turns within ready deep stacked fits len agree h =
        went_on c callers leaves total es st m turns len ready.kept ready.aligned (onto_next from to to stack m turns h refl)
    start_does (tree.StartTree.Declare ty ds) s es st m broke continued from to stack turns within ready deep stacked fits len agree h =
        declarators_does c callers leaves total sites control ds (typed ty s) es st m broke continued from to stack turns within (ready_typed c ty s es st m ready) deep stacked fits len agree h
    start_does (tree.StartTree.Change x) s es st m broke continued from to stack turns within ready deep stacked fits len agree h =
        change_does c callers leaves total s es s.slots st m ready stacked fits len x broke continued from to stack turns within agree h

    start_in : (t : tree.StartTree) (s : Scope) (es : List Entry) → In c s es → In c (after_start s t) (made_first s t es)
    start_in tree.StartTree.Empty s es is = is
    start_in (tree.StartTree.Declare ty ds) s es is = declarators_in c ds (typed ty s) es (in_typed c ty s es is)
    start_in (tree.StartTree.Change x) s es is = is

    start_stacked : (t : tree.StartTree) (s : Scope) (es : List Entry) → In c s es → Stacked (means c) s.slots (es ++ c.bound) → Stacked (means c) (after_start s t).slots (made_first s t es ++ c.bound)
    start_stacked tree.StartTree.Empty s es is st = st
    start_stacked (tree.StartTree.Declare ty ds) s es is st = declarators_stacked c ds (typed ty s) es (in_typed c ty s es is) st
    start_stacked (tree.StartTree.Change x) s es is st = st

    test_falls : (test : Option tree.ExprTree) (st : BodyState) (turns : ℕ) → Falls turns (run_test c.file test st turns)
    test_falls None st turns = omega arith
    test_falls (Some e) st turns = value-falls c.file c.falls e st turns

    step_keeps : (step : Option tree.ChangeTree) (st : BodyState) (turns : ℕ) → Keeps st turns (run_step c.file step st turns)
    step_keeps None st turns = (omega arith, refl)
    step_keeps (Some x) st turns = run-keeps (around_of c sites) c.falls (tree.StmtTree.Change x) st turns

    -- the rounds of a loop with a test and a step
    rounds_do : (test : Option tree.ExprTree) (step : Option tree.ChangeTree) (a : tree.StmtTree) (s : Scope) (es : List Entry) (broke continued next from to : ℕ) (stack : List ℤ) → In c s es → Stacked (means c) s.slots (es ++ c.bound) →
        (after_stmt (in_loop s) a).slots ≤ total → Agree c (value_notes s test) → Agree c (step_notes s step) → Agree c (stmt_notes (in_loop s) a) → Owns known (in_loop s) a → BodyDoes a stack →
        HasLoop c.code (tells c) test (HasStmt c.code body_of a next) step next from to → (st : BodyState) (m : Store) (turns : ℕ) → length m.slots ≡ total → Kept c.side st m → AlignedIn c callers leaves total m st.bound es →
        Does c.code (at callers from stack m turns) (Settled next broke continued stack es) (loop turns (run_test c.file test) (run (around_of c sites) a) (run_step c.file step) st turns)
    rounds_do test None a s es broke continued next from to stack is stacked fits agree_test agree_step agree_a own body h st m turns len kept al =
        loop_does c callers leaves total turns (run_test c.file test) (run (around_of c sites) a) (run_step c.file None) from h.0 from next broke continued stack es h.1
        (test_falls test) (run-keeps (around_of c sites) c.falls a) (step_keeps None)
        (λ st1 m1 t1 len1 kept1 al1. test_runs c callers s es st1 m1 (record { scope = is; aligned = al1; kept = kept1 }) stack test next (from + 1) h.0 t1 agree_test h.2)
        (λ st1 m1 t1 len1 kept1 al1. ends_does {part = HasStmt c.code body_of a next from} from next from h.0 to stack es
        (λ q end has. body (in_loop s) es st1 m1 next from q h.0 end t1 (same_place s (in_loop s) es st1 m1 (record { scope = is; aligned = al1; kept = kept1 }) refl refl refl (omega arith)) stacked fits len1 agree_a own has) h.3)
        (λ st1 m1 t1 len1 kept1 al1. went_on c callers leaves total es st1 m1 t1 len1 kept1 al1 stays)
        st m turns (omega arith) len kept al
    rounds_do test (Some x) a s es broke continued next from to stack is stacked fits agree_test agree_step agree_a own body h st m turns len kept al =
        let r = h.3 in
        loop_does c callers leaves total turns (run_test c.file test) (run (around_of c sites) a) (run_step c.file (Some x)) from h.0 r.0 next broke continued stack es h.1
        (test_falls test) (run-keeps (around_of c sites) c.falls a) (step_keeps (Some x))
        (λ st1 m1 t1 len1 kept1 al1. test_runs c callers s es st1 m1 (record { scope = is; aligned = al1; kept = kept1 }) stack test next (from + 1) h.0 t1 agree_test h.2)
        (λ st1 m1 t1 len1 kept1 al1. body (in_loop s) es st1 m1 next r.0 r.0 h.0 r.0 t1 (same_place s (in_loop s) es st1 m1 (record { scope = is; aligned = al1; kept = kept1 }) refl refl refl (omega arith)) stacked fits len1 agree_a own r.2)
        (step_does x s es broke continued r.0 r.1 to from stack (λ st1 m1 al1 kept1. record { scope = is; aligned = al1; kept = kept1 }) stacked (omega (arith, fits, (stmt_onward a (in_loop s)).slots)) agree_step r.3 r.4)
        st m turns (omega arith) len kept al

    for_does : (start : tree.StartTree) (test : Option tree.ExprTree) (step : Option tree.ChangeTree) (a : tree.StmtTree) (s : Scope) (es : List Entry) (st : BodyState) (m : Store) (broke continued next from to : ℕ) (stack : List ℤ) (turns : ℕ) → Ready c s es st m →
        Stacked (means c) s.slots (es ++ c.bound) → (after_stmt s (tree.For start test step a)).slots ≤ total → length m.slots ≡ total → Agree c (stmt_notes s (tree.For start test step a)) → Owns known s (tree.For start test step a) →
        HasStmt c.code body_of (tree.For start test step a) broke continued next from to → BodyDoes a stack →
        Does c.code (at callers from stack m turns) (Settled next broke continued stack es) (run (around_of c sites) (tree.For start test step a) st turns)
    for_does start test step a s es st m broke continued next from to stack turns ready stacked fits len agree own h body =
        let head = after_start (enter s) start in
        let es1 = made_first (enter s) start es in
        let agree3 = agree_first c (start_notes (enter s) start ++ value_notes head test ++ step_notes head step) (stmt_notes (in_loop head) a) agree in
        let agree_a = agree_rest c (start_notes (enter s) start ++ value_notes head test ++ step_notes head step) (stmt_notes (in_loop head) a) agree in
        let agree2 = agree_first c (start_notes (enter s) start ++ value_notes head test) (step_notes head step) agree3 in
        let agree_step = agree_rest c (start_notes (enter s) start ++ value_notes head test) (step_notes head step) agree3 in
        let agree_start = agree_first c (start_notes (enter s) start) (value_notes head test) agree2 in
        let agree_test = agree_rest c (start_notes (enter s) start) (value_notes head test) agree2 in
        let inside = same_place s (enter s) es st m ready refl refl refl (omega arith) in
        scope_does c callers leaves total st m next broke continued stack (exactly es1) es1 es (λ x e. subst (λ y. Extends y es) (sym e) (first_extends start (enter s) es)) (first_extends start (enter s) es) ready.aligned
        (flows_does c callers leaves total h.0 next broke continued stack (exactly es1) (exactly es1) es1 es1 (λ inner left. loop left (run_test c.file test) (run (around_of c sites) a) (run_step c.file step) inner left) (λ x i. i)
        (start_does start (enter s) es st m broke continued from h.0 stack turns (exactly es1) inside (omega (arith, ready.scope.deep)) stacked (omega (arith, fits, (stmt_onward a (in_loop head)).slots)) len agree_start h.1)
        (λ st1 m1 t1 e len1 kept1 al1.
        rounds_do test step a head es1 broke continued next h.0 to stack (start_in start (enter s) es inside.scope) (start_stacked start (enter s) es inside.scope stacked) fits agree_test agree_step agree_a own body h.2 st1 m1 t1 len1 kept1 al1))

    mutual
      pub stmt_does : {a : tree.StmtTree} → IsStmt a → StmtDoes a
      stmt_does IsStmt.empty s es st m broke continued next from to stack turns ready stacked fits len agree own h =
          went_on c callers leaves total es st m turns len ready.kept ready.aligned (onto_next from to next stack m turns h.0 h.1)
      stmt_does (IsStmt.block {ss = ss} is) s es st m broke continued next from to stack turns ready stacked fits len agree own h =
          scope_does c callers leaves total st m next broke continued stack (around es) (made_all (enter s) ss es) es (λ x y. y) (all_extend ss (enter s) es) ready.aligned
          (stmts_does is (enter s) es st m broke continued next from to stack turns (same_place s (enter s) es st m ready refl refl refl (omega arith)) (omega (arith, ready.scope.deep)) stacked fits len agree own h)
      stmt_does (IsStmt.change {c = x} _) s es st m broke continued next from to stack turns ready stacked fits len agree own h =
          ends_next next to broke continued stack (exactly es) es h.1 (change_does c callers leaves total s es s.slots st m ready stacked fits len x broke continued from to stack turns (exactly es) agree h.0)
      stmt_does (IsStmt.call {f = f} {args = args} _) s es st m broke continued next from to stack turns ready stacked fits len agree own h =
          given_does st m (λ n. goes_on st n.turns) refl ready.kept (expr_runs c callers s es st m ready (tree.ExprTree.Call f args) from h.0 stack turns agree h.1)
          (λ n u e. went_on c callers leaves total es st m n.turns len ready.kept ready.aligned
          (subst (λ q. Leads c.code (at callers h.0 (n.value ∷ stack) m n.turns) (at callers q stack m n.turns)) (h.2.1 ∙ sym h.3) (drop_top c.code callers n.value h.0 stack m n.turns h.2.0)))
      stmt_does (IsStmt.if_alone {c = x} {a = a} _ is) s es st m broke continued next from to stack turns ready stacked fits len agree own h =
          given_does st m (λ n. if is_zero n.value then goes_on st n.turns else run (around_of c sites) a st n.turns) refl ready.kept
          (cond_runs c callers s es st m ready stack h.1 turns (agree_first c (expr_notes s x) (stmt_notes s a) agree))
          (λ n u e. branch_does c callers leaves total n.value next h.0 stack m n.turns (Settled next broke continued stack es) (goes_on st n.turns) (run (around_of c sites) a st n.turns)
          (went_on c callers leaves total es st m n.turns len ready.kept ready.aligned stays)
          (ends_does {part = HasStmt c.code body_of a broke continued} next broke continued h.0 to stack es
          (λ q end has. stmt_does is s es st m broke continued q h.0 end stack n.turns ready stacked fits len (agree_rest c (expr_notes s x) (stmt_notes s a) agree) own has) h.2))
      stmt_does (IsStmt.if_else {c = x} {a = a} {b = b} _ is _ is2) s es st m broke continued next from to stack turns ready stacked fits len agree own h =
          let s1 = after_stmt s a in
          let on = stmt_onward a s in
          let front = agree_first c (expr_notes s x ++ stmt_notes s a) (stmt_notes s1 b) agree in
          given_does st m (λ n. if is_zero n.value then run (around_of c sites) b st n.turns else run (around_of c sites) a st n.turns) refl ready.kept
          (cond_runs c callers s es st m ready stack h.2 turns (agree_first c (expr_notes s x) (stmt_notes s a) front))
          (λ n u e. branch_does c callers leaves total n.value h.1 h.0 stack m n.turns (Settled next broke continued stack es) (run (around_of c sites) b st n.turns) (run (around_of c sites) a st n.turns)
          (ends_does {part = HasStmt c.code body_of b broke continued} next broke continued h.1 to stack es
          (λ q end has. stmt_does is2 s1 es st m broke continued q h.1 end stack n.turns (moved_on s s1 es st m ready on (stays_in is s))
          (stacked_more (resources c.side) (means c) s.slots s1.slots (es ++ c.bound) on.slots stacked) fits len (agree_rest c (expr_notes s x ++ stmt_notes s a) (stmt_notes s1 b) agree) own.1 has) h.4)
          (ends_does {part = HasStmt c.code body_of a broke continued} next broke continued h.0 h.1 stack es
          (λ q end has. stmt_does is s es st m broke continued q h.0 end stack n.turns ready stacked (omega (arith, fits, (stmt_onward b s1).slots)) len (agree_rest c (expr_notes s x) (stmt_notes s a) front) own.0 has) h.3))
      stmt_does (IsStmt.while {c = x} {s = a} _ is) s es st m broke continued next from to stack turns ready stacked fits len agree own h =
          let agree_x = agree_first c (expr_notes s x) (stmt_notes (in_loop s) a) agree in
          let agree_a = agree_rest c (expr_notes s x) (stmt_notes (in_loop s) a) agree in
          loop_does c callers leaves total turns (value c.file x) (run (around_of c sites) a) goes_on from h.0 from next broke continued stack es h.1
          (value-falls c.file c.falls x) (run-keeps (around_of c sites) c.falls a) (λ st1 t1. (omega arith, refl))
          (λ st1 m1 t1 len1 kept1 al1. cond_runs c callers s es st1 m1 (record { scope = ready.scope; aligned = al1; kept = kept1 }) stack h.2 t1 agree_x)
          (λ st1 m1 t1 len1 kept1 al1. ends_does {part = HasStmt c.code body_of a next from} from next from h.0 to stack es
          (λ q end has. stmt_does is (in_loop s) es st1 m1 next from q h.0 end stack t1 (same_place s (in_loop s) es st1 m1 (record { scope = ready.scope; aligned = al1; kept = kept1 }) refl refl refl (omega arith)) stacked fits len1 agree_a own has) h.3)
          (λ st1 m1 t1 len1 kept1 al1. went_on c callers leaves total es st1 m1 t1 len1 kept1 al1 stays)
          st m turns (omega arith) len ready.kept ready.aligned
      stmt_does (IsStmt.for {start = start} {test = test} {step = step} {s = a} _ _ _ is) s es st m broke continued next from to stack turns ready stacked fits len agree own h =
          for_does start test step a s es st m broke continued next from to stack turns ready stacked fits len agree own h
          (λ s1 es1 st1 m1 x y q p end t1 ready1 stacked1 fits1 len1 agree1 own1 has. stmt_does is s1 es1 st1 m1 x y q p end stack t1 ready1 stacked1 fits1 len1 agree1 own1 has)
      stmt_does IsStmt.break s es st m broke continued next from to stack turns ready stacked fits len agree own h =
          went Breaks st turns (m, len, ready.kept, (es, refl, ready.aligned)) (jump c.code callers from broke stack m turns h.0)
      stmt_does IsStmt.continue s es st m broke continued next from to stack turns ready stacked fits len agree own h =
          went Continues st turns (m, len, ready.kept, (es, refl, ready.aligned)) (jump c.code callers from continued stack m turns h.0)
      stmt_does (IsStmt.return {m = mark} {e = e} _) s es st m broke continued next from to stack turns ready stacked fits len agree own h =
          given_does st m (λ n. Went (Returns n.value) st n.turns) refl ready.kept (expr_runs c callers s es st m ready e from h.0 stack turns agree.1 h.1)
          (λ n u q. went (Returns n.value) st n.turns (m, len, ready.kept, (h.0, h.2.0)) stays)
      stmt_does (IsStmt.task {m = mark} {cs = cs} {s = a} _ _) s es st m broke continued next from to stack turns ready stacked fits len agree own h =
          let front = agree_first c (clauses_notes s mark (members cs) a) (stmt_notes (in_task_body s (members cs) a) a) agree in
          let note = agree_rest c (members_notes s [] (members cs)) (Task s mark (count_items (members cs)) (captured s.entries (members cs) a) ∷ []) front in
          task_does (sym ready.scope.owner ∙ main_pragma s.owner note.0.0.1.1.1.1.1.1.1.0) mark cs a s es st m broke continued next from to stack turns ready stacked fits len agree own h
      stmt_does (IsStmt.tick {m = mark} {t = t} {a = arrow} {e = e} _ _) s es st m broke continued next from to stack turns ready stacked fits len agree own h =
          tick_does (sym ready.scope.owner ∙ main_pragma s.owner agree.0.0.1.1.1.1.1.1.1.0) mark t arrow e s es st m broke continued next from to stack turns ready stacked fits len agree own h
      stmt_does IsStmt.taskwait s es st m broke continued next from to stack turns ready stacked fits len agree own h =
          went_on c callers leaves total es st m turns len ready.kept ready.aligned (onto_next from to next stack m turns h.0 h.1)

      pub stmts_does : {ss : tree.Stmts} → AreStmts ss → (s : Scope) (es : List Entry) (st : BodyState) (m : Store) (broke continued next from to : ℕ) (stack : List ℤ) (turns : ℕ) → Ready c s es st m → c.floor < s.depth →
          Stacked (means c) s.slots (es ++ c.bound) → (after_stmts s ss).slots ≤ total → length m.slots ≡ total → Agree c (stmts_notes s ss) → OwnsAll known s ss → HasStmts c.code body_of ss broke continued next from to →
          Does c.code (at callers from stack m turns) (settled c callers leaves total next broke continued stack (around es) (made_all s ss es)) (run_all (around_of c sites) ss st turns)
      stmts_does AreStmts.no_stmts s es st m broke continued next from to stack turns ready deep stacked fits len agree own h =
          went_on c callers leaves total es st m turns len ready.kept ready.aligned (onto_next from to next stack m turns h.0 h.1)
      stmts_does (AreStmts.declare {t = ty} {ds = ds} {ss = ss} _ rest) s0 es st m broke continued next from to stack turns before deep stacked fits len agree own h =
          let s = typed ty s0 in
          let ready = ready_typed c ty s0 es st m before in
          let s1 = after_declarators s ds in
          let p = has_rest c.code body_of (tree.StmtTree.Declare ty ds) ss broke continued next from to h in
          flows_does c callers leaves total p.0 next broke continued stack (exactly (made s ds es)) (around es) (made s ds es) (made_all s1 ss (made s ds es)) (run_all (around_of c sites) ss)
          (λ x e. subst (λ y. Extends y es) (sym e) (made_extends ds s es))
          (ends_next p.0 p.1 broke continued stack (exactly (made s ds es)) (made s ds es) p.2.1
          (declarators_does c callers leaves total sites control ds s es st m broke continued from p.1 stack turns (exactly (made s ds es)) ready deep stacked (omega (arith, fits, (stmts_onward ss s1).slots)) len
          (agree_first c (declarators_notes s ds) (stmts_notes s1 ss) agree) p.2.0))
          (λ st1 m1 t1 e len1 kept1 al1.
          rest_does ss s1 (made s ds es) es st1 m1 broke continued next p.0 p.1 to stack t1 (made_extends ds s es) len1 kept1 al1 p.3
          (λ has. stmts_does rest s1 (made s ds es) st1 m1 broke continued next p.1 to stack t1 (record { scope = declarators_in c ds s es ready.scope; aligned = al1; kept = kept1 }) (omega (arith, deep, (declarators_onward ds s).depth))
          (declarators_stacked c ds s es ready.scope stacked) fits len1 (agree_rest c (declarators_notes s ds) (stmts_notes s1 ss) agree) own.1 has))
      stmts_does (AreStmts.stmt {s = a} {ss = ss} is rest) s es st m broke continued next from to stack turns ready deep stacked fits len agree own h =
          let s1 = after_stmt s a in
          let on = stmt_onward a s in
          let p = has_rest c.code body_of a ss broke continued next from to h in
          subst (λ x. Does c.code (at callers from stack m turns) (settled c callers leaves total next broke continued stack (around es) (made_all s1 ss x)) (run_all (around_of c sites) (tree.stmt a ss) st turns)) (sym (none_made is s es))
          (flows_does c callers leaves total p.0 next broke continued stack (exactly es) (around es) es (made_all s1 ss es) (run_all (around_of c sites) ss) (λ x e. ([], e))
          (stmt_does is s es st m broke continued p.0 from p.1 stack turns ready stacked (omega (arith, fits, (stmts_onward ss s1).slots)) len (agree_first c (stmt_notes s a) (stmts_notes s1 ss) agree) own.0 p.2)
          (λ st1 m1 t1 e len1 kept1 al1.
          rest_does ss s1 es es st1 m1 broke continued next p.0 p.1 to stack t1 ([], refl) len1 kept1 al1 p.3
          (λ has. stmts_does rest s1 es st1 m1 broke continued next p.1 to stack t1 (moved_on s s1 es st1 m1 (record { scope = ready.scope; aligned = al1; kept = kept1 }) on (stays_in is s)) (omega (arith, deep, on.depth))
          (stacked_more (resources c.side) (means c) s.slots s1.slots (es ++ c.bound) on.slots stacked) fits len1 (agree_rest c (stmt_notes s a) (stmts_notes s1 ss) agree) own.1 has)))
