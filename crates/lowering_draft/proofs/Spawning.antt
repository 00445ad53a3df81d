-- How many tasks are spawned: those of statements, and none in expressions, conditions, changes, declarators and items.
use Rattle.std.proofs.Common.{◌≡◌, ◌∙◌, ℕ, zero, suc, ◌+◌, Bool, true, false, List, [], ◌∷◌, length, length-append, Option, Some, None, ap, refl, arith}
use Rattle.std.specs.Prelude.{ℤ}
use Rattle.lowering_draft.specs.Draft.{next_label, with_instr, with_instrs, with_label, with_place, with_spawn}
use Rattle.lowering_draft.specs.Emission.Changes.{aim_code, change_code, changed_code, operated_code, plain_aim, stepped_code, store_code}
use Rattle.lowering_draft.specs.Emission.Conditions.{condition_code, conditions_code}
use Rattle.lowering_draft.specs.Emission.Declarators.{cleared_code, declarators_code, declared_code, scalar_code, start_code, window_code}
use Rattle.lowering_draft.specs.Emission.Expressions.{Emission, args_code, expr_code, links_code, place_code, with_link, with_unary, worked_out}
use Rattle.lowering_draft.specs.Emission.Statements.{StmtPart, block_code, closed, end_of, jump_on, loop_code, opened, rest_code, stmt_code, test_code}
use Rattle.lowering_draft.specs.Emission.Tasks.{burst_code, item_code, items_code, join_code, stream_code, tick_code}
use Rattle.lowering_draft.specs.declared.draft.Draft.{Draft}
use Rattle.lowering_draft.specs.declared.draft.Label.{Label}
use Rattle.lowering_draft.specs.declared.exits.Exits.{Exits}
use Rattle.cddf_meaning.specs.Operators.{step_operator}
use Rattle.cddf_meaning.specs.ExpressionTypes.{type_of_two}
use Rattle.os_ast.specs.FreeNames.{expr_names}
use Rattle.os_ast.specs.ClauseMembers.{ClauseMember, Item, Private, is_in, members}
use Rattle.os_ast.specs.Trees as tree
use Rattle.os_ast.specs.declared.expr.Binary.{Binary}
use Rattle.os_ast.specs.declared.expr.Binary.TheVariants as binary
use Rattle.os_ast.specs.declared.expr.Level.TheVariants as level
use Rattle.os_ast.specs.declared.expr.Unary.{Unary}
use Rattle.os_ast.specs.declared.names.Direction.{Direction}
use Rattle.os_ast.specs.declared.names.Resolved.{Resolved}
use Rattle.os_ast.specs.declared.names.What.{What}
use Rattle.os_ast.specs.declared.names.What.TheVariants as what
use Rattle.os_ast.specs.declared.stmt.Assign.TheVariants as assign
use Rattle.os_code.specs.declared.instr.Instr.{Instr}
use Rattle.os_code.specs.declared.instr.Instr.TheVariants.{BurstIn, JumpZero, Push, Store, Tick, Turn}
use Rattle.os_code.specs.declared.instr.Instr.TheVariants as instr
use Rattle.lowering_relation.specs.Changes.{is_quiet, target_by}
use Rattle.lowering_relation.specs.Expressions.{operation, type_by}
use Rattle.lowering_relation.specs.Names.{aiming, calling, fetching, fetching_at, reading}
use Rattle.lowering_relation.specs.Tasks.{all_tasks_of, tasks_of}
use Rattle.std.specs.Prelude.{pos}

-- added code that spawns nothing
abbrev pub SpawnsNothing : Emission → Type 0
SpawnsNothing f = (d : Draft) → (f d).spawned ≡ d.spawned

pub instrs_spawned : (is : List Instr) (d : Draft) → (with_instrs d is).spawned ≡ d.spawned
instrs_spawned [] d = refl
instrs_spawned (i ∷ is) d = instrs_spawned is (with_instr d i)

unary_spawned : (v : Option ℤ) (op : Unary) (line : ℕ) (unsigned : Bool) (f : Emission) → SpawnsNothing f → SpawnsNothing (with_unary v op line unsigned f)
unary_spawned (Some v) op line unsigned f k d = refl
unary_spawned None op line unsigned f k d = k d

operated_link : (op : Binary) (line : ℕ) (u v : Bool) (f : Emission) → SpawnsNothing f → (d : Draft)
    → (with_instrs (f d) (operation op line u v)).spawned ≡ d.spawned
operated_link op line u v f k d = instrs_spawned (operation op line u v) (f d) ∙ k d

link_spawned : (op : Binary) (line : ℕ) (u v : Bool) (f : Emission) → SpawnsNothing f → SpawnsNothing (with_link op line u v f)
link_spawned binary.And line u v f k d = k _
link_spawned binary.Or line u v f k d = k _
link_spawned binary.BitOr line u v f k d = operated_link binary.BitOr line u v f k d
link_spawned binary.BitXor line u v f k d = operated_link binary.BitXor line u v f k d
link_spawned binary.BitAnd line u v f k d = operated_link binary.BitAnd line u v f k d
link_spawned binary.Equal line u v f k d = operated_link binary.Equal line u v f k d
link_spawned binary.Unequal line u v f k d = operated_link binary.Unequal line u v f k d
link_spawned binary.Less line u v f k d = operated_link binary.Less line u v f k d
link_spawned binary.LessEqual line u v f k d = operated_link binary.LessEqual line u v f k d
link_spawned binary.Greater line u v f k d = operated_link binary.Greater line u v f k d
link_spawned binary.GreaterEqual line u v f k d = operated_link binary.GreaterEqual line u v f k d
link_spawned binary.ShiftLeft line u v f k d = operated_link binary.ShiftLeft line u v f k d
link_spawned binary.ShiftRight line u v f k d = operated_link binary.ShiftRight line u v f k d
link_spawned binary.Add line u v f k d = operated_link binary.Add line u v f k d
link_spawned binary.Subtract line u v f k d = operated_link binary.Subtract line u v f k d
link_spawned binary.Multiply line u v f k d = operated_link binary.Multiply line u v f k d
link_spawned binary.Divide line u v f k d = operated_link binary.Divide line u v f k d
link_spawned binary.Remainder line u v f k d = operated_link binary.Remainder line u v f k d

module _ (tells : ℕ → Resolved) where
  mutual
    pub expr_spawned : (e : tree.ExprTree) → SpawnsNothing (expr_code tells e)
    expr_spawned (tree.Number n) d = refl
    expr_spawned (tree.Wide n) d = refl
    expr_spawned (tree.Place t) d = place_spawned t d
    expr_spawned (tree.ExprTree.Call f args) d = instrs_spawned (Turn ∷ calling (tells f.mark.place).what ∷ []) (args_code tells args d) ∙ args_spawned args d
    expr_spawned (tree.Paren e) d = expr_spawned e d
    expr_spawned (tree.Unary op m e) d = unary_spawned (worked_out op e) op m.line (type_by tells e) (expr_code tells e) (expr_spawned e) d
    expr_spawned (tree.Chain l first links) d = links_spawned links (type_by tells first) (expr_code tells first d) ∙ expr_spawned first d
    expr_spawned (tree.Choice c a b) d = expr_spawned b _ ∙ expr_spawned a _ ∙ expr_spawned c _

    place_spawned : (t : tree.TargetTree) → SpawnsNothing (place_code tells t)
    place_spawned (tree.Variable n) d = instrs_spawned (reading (tells n.mark.place).what n.mark.line) d
    place_spawned (tree.Element n m e) d = expr_spawned e d

    links_spawned : (ls : tree.Links) (u : Bool) → SpawnsNothing (links_code tells ls u)
    links_spawned tree.no_links u d = refl
    links_spawned (tree.link op m e rest) u d =
        let v = type_by tells e in
        links_spawned rest (type_of_two op u v) (with_link op m.line u v (expr_code tells e) d) ∙ link_spawned op m.line u v (expr_code tells e) (expr_spawned e) d

    args_spawned : (es : tree.Args) → SpawnsNothing (args_code tells es)
    args_spawned tree.no_args d = refl
    args_spawned (tree.arg e es) d = args_spawned es (expr_code tells e d) ∙ expr_spawned e d

  mutual
    pub condition_spawned : (e : tree.ExprTree) (fails : Label) → SpawnsNothing (condition_code tells e fails)
    condition_spawned (tree.Number zero) fails d = refl
    condition_spawned (tree.Number (suc n)) fails d = refl
    condition_spawned (tree.Wide n) fails d = refl
    condition_spawned (tree.Place t) fails d = expr_spawned (tree.Place t) d
    condition_spawned (tree.ExprTree.Call f args) fails d = expr_spawned (tree.ExprTree.Call f args) d
    condition_spawned (tree.Paren e) fails d = condition_spawned e fails d
    condition_spawned (tree.Unary op m e) fails d = expr_spawned (tree.Unary op m e) d
    condition_spawned (tree.Choice c a b) fails d = expr_spawned (tree.Choice c a b) d
    condition_spawned (tree.Chain level.And first links) fails d =
        conditions_spawned links fails (condition_code tells first fails d) ∙ condition_spawned first fails d
    condition_spawned (tree.Chain level.Or first links) fails d = expr_spawned (tree.Chain level.Or first links) d
    condition_spawned (tree.Chain level.BitOr first links) fails d = expr_spawned (tree.Chain level.BitOr first links) d
    condition_spawned (tree.Chain level.BitXor first links) fails d = expr_spawned (tree.Chain level.BitXor first links) d
    condition_spawned (tree.Chain level.BitAnd first links) fails d = expr_spawned (tree.Chain level.BitAnd first links) d
    condition_spawned (tree.Chain level.Equal first links) fails d = expr_spawned (tree.Chain level.Equal first links) d
    condition_spawned (tree.Chain level.Order first links) fails d = expr_spawned (tree.Chain level.Order first links) d
    condition_spawned (tree.Chain level.Shift first links) fails d = expr_spawned (tree.Chain level.Shift first links) d
    condition_spawned (tree.Chain level.Sum first links) fails d = expr_spawned (tree.Chain level.Sum first links) d
    condition_spawned (tree.Chain level.Product first links) fails d = expr_spawned (tree.Chain level.Product first links) d

    conditions_spawned : (ls : tree.Links) (fails : Label) → SpawnsNothing (conditions_code tells ls fails)
    conditions_spawned tree.no_links fails d = refl
    conditions_spawned (tree.link op m e rest) fails d = conditions_spawned rest fails (condition_code tells e fails d) ∙ condition_spawned e fails d

  aim_spawned : (old : Bool) (t : tree.TargetTree) → SpawnsNothing (aim_code tells old t)
  aim_spawned old (tree.Variable n) d =
      instrs_spawned (fetching old (tells n.mark.place).what n.mark.line) (with_instrs d (aiming (tells n.mark.place).what))
      ∙ instrs_spawned (aiming (tells n.mark.place).what) d
  aim_spawned old (tree.Element n m e) d = instrs_spawned (fetching_at old (tells n.mark.place).what m.line) (expr_code tells e d) ∙ expr_spawned e d

  store_spawned : (t : tree.TargetTree) → SpawnsNothing (store_code tells t)
  store_spawned (tree.Variable n) d = refl
  store_spawned (tree.Element n m e) d = refl

  changed_spawned : (old : Bool) (t : tree.TargetTree) (f : Emission) → SpawnsNothing f → SpawnsNothing (changed_code tells old t f)
  changed_spawned old t f k d = store_spawned t (f (aim_code tells old t d)) ∙ k (aim_code tells old t d) ∙ aim_spawned old t d

  operated_spawned : (op : Binary) (line : ℕ) (u : Bool) (e : tree.ExprTree) → SpawnsNothing (operated_code tells op line u e)
  operated_spawned op line u e d = instrs_spawned (operation op line u (type_by tells e)) (expr_code tells e d) ∙ expr_spawned e d

  stepped_spawned : (op : Binary) (line : ℕ) (u : Bool) → SpawnsNothing (stepped_code op line u)
  stepped_spawned op line u d = instrs_spawned (operation op line u false) (with_instr d (Push (pos 1)))

  plain_aim_spawned : (quiet : Bool) (t : tree.TargetTree) → SpawnsNothing (plain_aim tells quiet t)
  plain_aim_spawned true (tree.Variable n) d = aim_spawned false (tree.Variable n) d
  plain_aim_spawned true (tree.Element n m i) d = expr_spawned i d
  plain_aim_spawned false t d = aim_spawned false t d

  pub change_spawned : (c : tree.ChangeTree) → SpawnsNothing (change_code tells c)
  change_spawned (tree.Set t assign.Plain m e) d =
      store_spawned t (expr_code tells e (plain_aim tells (is_quiet e) t d))
      ∙ expr_spawned e (plain_aim tells (is_quiet e) t d) ∙ plain_aim_spawned (is_quiet e) t d
  change_spawned (tree.Set t (assign.With op) m e) d =
      changed_spawned true t (operated_code tells op m.line (target_by tells t) e) (operated_spawned op m.line (target_by tells t) e) d
  change_spawned (tree.After t p m) d = changed_spawned true t (stepped_code (step_operator p) m.line (target_by tells t)) (stepped_spawned (step_operator p) m.line (target_by tells t)) d
  change_spawned (tree.Before t p m) d = changed_spawned true t (stepped_code (step_operator p) m.line (target_by tells t)) (stepped_spawned (step_operator p) m.line (target_by tells t)) d

  cleared_spawned : (named : Bool) (slot : ℕ) → SpawnsNothing (cleared_code named slot)
  cleared_spawned true slot d = refl
  cleared_spawned false slot d = refl

  scalar_spawned : (id slot : ℕ) (first : Option tree.ExprTree) → SpawnsNothing (scalar_code tells id slot first)
  scalar_spawned id slot None d = refl
  scalar_spawned id slot (Some e) d =
      expr_spawned e (cleared_code (is_in id (expr_names e)) slot d) ∙ cleared_spawned (is_in id (expr_names e)) slot d

  window_spawned : (slot : ℕ) (size : Option tree.IndexTree) → SpawnsNothing (window_code tells slot size)
  window_spawned slot None d = refl
  window_spawned slot (Some i) d = expr_spawned i.value d

  declared_spawned : (w : What) (x : tree.DeclaratorTree) → SpawnsNothing (declared_code tells w x)
  declared_spawned (what.Scalar slot) x d = scalar_spawned x.name.id slot x.first d
  declared_spawned (what.Array first size) x d = refl
  declared_spawned (what.Window slot) x d = window_spawned slot x.size d
  declared_spawned (what.Constant v) x d = refl
  declared_spawned (what.Function n) x d = refl
  declared_spawned (what.Stream first count) x d = refl
  declared_spawned (what.Element item) x d = refl
  declared_spawned (what.View item) x d = refl

  pub declarators_spawned : (ds : List tree.DeclaratorTree) → SpawnsNothing (declarators_code tells ds)
  declarators_spawned [] d = refl
  declarators_spawned (x ∷ ds) d =
      declarators_spawned ds (declared_code tells (tells x.name.mark.place).what x d) ∙ declared_spawned (tells x.name.mark.place).what x d

  pub start_spawned : (start : tree.StartTree) → SpawnsNothing (start_code tells start)
  start_spawned tree.StartTree.Empty d = refl
  start_spawned (tree.StartTree.Declare ty ds) d = declarators_spawned ds d
  start_spawned (tree.StartTree.Change c) d = change_spawned c d

  stream_spawned : (t : tree.TargetTree) → SpawnsNothing (stream_code tells t)
  stream_spawned (tree.Variable n) d = refl
  stream_spawned (tree.Element n m e) d = expr_spawned e d

  burst_spawned : (r : Direction) (w : What) (b : Option tree.IndexTree) → SpawnsNothing (burst_code tells r w b)
  burst_spawned r w None d = refl
  burst_spawned r w (Some i) d = expr_spawned i.value d

  join_spawned : (r : Direction) (j : Option tree.JoinTree) → SpawnsNothing (join_code tells r j)
  join_spawned r None d = refl
  join_spawned r (Some j) d = burst_spawned r (tells j.name.mark.place).what j.burst d

  pub items_spawned : (ps : List ClauseMember) → SpawnsNothing (items_code tells ps)
  items_spawned [] d = refl
  items_spawned (Private n ∷ ps) d = items_spawned ps d
  items_spawned (Item r i ∷ ps) d =
      items_spawned ps (item_code tells r i d) ∙ join_spawned r i.window (stream_code tells i.stream d) ∙ stream_spawned i.stream d

  pub tick_spawned : (t : tree.TargetTree) (line : ℕ) (e : tree.ExprTree) → SpawnsNothing (tick_code tells t line e)
  tick_spawned t line e d = expr_spawned e (stream_code tells t d) ∙ stream_spawned t d

jump_spawned : (next : Option Label) (d : Draft) → (jump_on next d).spawned ≡ d.spawned
jump_spawned None d = refl
jump_spawned (Some next) d = refl

pub opened_spawned : (next : Option Label) (d : Draft) → (opened next d).spawned ≡ d.spawned
opened_spawned None d = refl
opened_spawned (Some next) d = refl

closed_spawned : (next : Option Label) (end : Label) (d : Draft) → (closed next end d).spawned ≡ d.spawned
closed_spawned None end d = refl
closed_spawned (Some next) end d = refl

-- A part spawns `n` tasks, wherever it is left and goes on.
abbrev pub Spawns : StmtPart → ℕ → Type 0
Spawns f n = (x : Exits) (next : Option Label) (d : Draft) → (f x next d).spawned ≡ d.spawned + n

module _ (tells : ℕ → Resolved) where
  pub test_spawned : (test : Option tree.ExprTree) (end : Label) → SpawnsNothing (test_code tells test end)
  test_spawned None end d = refl
  test_spawned (Some e) end d = condition_spawned tells e end d

  pub loop_spawned : (test : Option tree.ExprTree) (step : Option tree.ChangeTree) (x : Exits) (end : Label) (a : StmtPart) (n : ℕ) → Spawns a n → (d : Draft)
      → (loop_code tells test step x end a d).spawned ≡ d.spawned + n
  loop_spawned test None x end a n k d = k _ _ _ ∙ ap (λ m. m + n) (test_spawned test end _)
  loop_spawned test (Some c) x end a n k d = change_spawned tells c _ ∙ k _ _ _ ∙ ap (λ m. m + n) (test_spawned test end _)

  mutual
    pub stmt_spawned : (s : tree.StmtTree) → Spawns (stmt_code tells s) (length (tasks_of s))
    stmt_spawned tree.StmtTree.Empty x next d = omega (arith, jump_spawned next d)
    stmt_spawned (tree.Block ss) x next d = block_spawned ss x next d
    stmt_spawned (tree.StmtTree.Declare ty ds) x next d = omega (arith, jump_spawned next (declarators_code tells ds d), declarators_spawned tells ds d)
    stmt_spawned (tree.StmtTree.Change c) x next d = omega (arith, jump_spawned next (change_code tells c d), change_spawned tells c d)
    stmt_spawned (tree.StmtTree.Call f args) x next d =
        let made = expr_code tells (tree.ExprTree.Call f args) d in
        omega (arith, jump_spawned next (with_instr made instr.Drop), expr_spawned tells (tree.ExprTree.Call f args) d)
    stmt_spawned (tree.If c a) x next d =
        let end = end_of next d in
        let d1 = opened next d in
        let dc = condition_code tells c end d1 in
        omega (arith, closed_spawned next end (stmt_code tells a x next dc), stmt_spawned a x next dc, condition_spawned tells c end d1, opened_spawned next d)
    stmt_spawned (tree.IfElse c a b) x next d =
        let end = end_of next d in
        let d1 = opened next d in
        let otherwise = next_label d1 in
        let dc = condition_code tells c otherwise (with_label d1) in
        let da = stmt_code tells a x (Some end) dc in
        let d2 = with_place da otherwise in
        omega (
          arith,
          closed_spawned next end (stmt_code tells b x next d2),
          stmt_spawned b x next d2,
          stmt_spawned a x (Some end) dc,
          condition_spawned tells c otherwise (with_label d1),
          opened_spawned next d,
          length-append (tasks_of a) (tasks_of b),
        )
    stmt_spawned (tree.While c a) x next d =
        let end = end_of next d in
        let d1 = opened next d in
        omega (
          arith,
          closed_spawned next end (loop_code tells (Some c) None x end (stmt_code tells a) d1),
          loop_spawned (Some c) None x end (stmt_code tells a) (length (tasks_of a)) (stmt_spawned a) d1,
          opened_spawned next d,
        )
    stmt_spawned (tree.For start test step a) x next d =
        let end = end_of next d in
        let d1 = opened next d in
        let d2 = start_code tells start d1 in
        omega (
          arith,
          closed_spawned next end (loop_code tells test step x end (stmt_code tells a) d2),
          loop_spawned test step x end (stmt_code tells a) (length (tasks_of a)) (stmt_spawned a) d2,
          start_spawned tells start d1,
          opened_spawned next d,
        )
    stmt_spawned (tree.Break m) x next d = omega arith
    stmt_spawned (tree.Continue m) x next d = omega arith
    stmt_spawned (tree.Return m e) x next d = omega (arith, expr_spawned tells e d)
    stmt_spawned (tree.Task m cs a) x next d =
        let made = items_code tells (members cs) d in
        omega (arith, jump_spawned next (with_spawn made), items_spawned tells (members cs) d)
    stmt_spawned (tree.Tick m t arrow e) x next d = omega (arith, jump_spawned next (tick_code tells t arrow.line e d), tick_spawned tells t arrow.line e d)
    stmt_spawned (tree.Taskwait m) x next d = omega (arith, jump_spawned next d)

    pub block_spawned : (ss : tree.Stmts) → Spawns (block_code tells ss) (length (all_tasks_of ss))
    block_spawned tree.no_stmts x next d = omega (arith, jump_spawned next d)
    block_spawned (tree.stmt a rest) x next d =
        omega (arith, rest_spawned rest (stmt_code tells a) (length (tasks_of a)) (stmt_spawned a) x next d, length-append (tasks_of a) (all_tasks_of rest))

    rest_spawned : (rest : tree.Stmts) (a : StmtPart) (n : ℕ) → Spawns a n → (x : Exits) (next : Option Label) (d : Draft)
        → (rest_code tells rest x next a d).spawned ≡ d.spawned + n + length (all_tasks_of rest)
    rest_spawned tree.no_stmts a n k x next d = omega (arith, k x next d)
    rest_spawned (tree.stmt b rest) a n k x next d =
        omega (
          arith,
          rest_spawned rest (stmt_code tells b) (length (tasks_of b)) (stmt_spawned b) x next (a x None d),
          k x None d,
          length-append (tasks_of b) (all_tasks_of rest),
        )
