-- The code of statements begins and ends with no operands.
use Rattle.std.proofs.Common.{◌≡◌, ℕ, ◌+◌, ◌<◌, ◌≤◌, List, [], ◌∷◌, ◌++◌, Option, Some, None, refl, sym, ap, ◌∙◌, subst, inl, inr, arith}
use Rattle.std.proofs.lemmas.Bool.{cases_lt}
use Rattle.std.specs.Prelude.{⊤, ◌⊎◌, IsTrue, length}
use Rattle.os_ast.specs.Captured.{captured}
use Rattle.os_ast.specs.Names.{Scope, enter, in_loop, typed}
use Rattle.os_ast.specs.Notes.Clauses.{members_notes}
use Rattle.os_ast.specs.Notes.Declarators.{after_start, start_notes}
use Rattle.os_ast.specs.Notes.Expressions.{expr_notes, place_notes, value_notes, step_notes}
use Rattle.os_ast.specs.Notes.Kinds.{Task}
use Rattle.os_ast.specs.Notes.Statements.{after_stmt}
use Rattle.os_ast.specs.ClauseMembers.{members, count_items, target_name}
use Rattle.os_ast.specs.Trees as tree
use Rattle.os_ast.specs.declared.names.Direction.TheVariants as direction
use Rattle.os_ast.specs.declared.names.Role.TheVariants as role
use Rattle.os_code.specs.Effects.{operands_of, stands_in}
use Rattle.os_code.specs.Parts.{instr_at, Main}
use Rattle.os_code.specs.declared.instr.Instr.TheVariants as instr
use Rattle.lowering_relation.specs.Expressions.{Stands}
use Rattle.lowering_relation.specs.Names.{first_of}
use Rattle.lowering_relation.specs.Statements.{Ends, by_itself, by_jump, HasTest, HasRound, HasLoop, HasStmt, HasStmts}
use Rattle.lowering_relation.specs.Tasks.{TaskTree, tasks_of, all_tasks_of}
use Rattle.lowering_relation.proofs.Homes.{Home, tells, AllFit, AreSpawned}
use Rattle.lowering_relation.proofs.LaidChanges.{change_lays}
use Rattle.lowering_relation.proofs.LaidConditions.{Tests, condition_lays}
use Rattle.lowering_relation.proofs.LaidDeclarators.{declarators_lay, start_lays}
use Rattle.lowering_relation.proofs.LaidExprs.{expr_lays}
use Rattle.lowering_relation.proofs.LaidItems.{stream_lays, stream_fits, items_lay}
use Rattle.lowering_relation.proofs.Lays.{Lays, IsLabel, fit_first, fit_rest, label_before, label_target, nothing, then_lays, from_more, free, own_label, to_end, to_height, straight, jumping, turned, looping, leaving}
use Rattle.lowering_relation.proofs.OwnNotes.{own_notes, all_own_notes}

pub spawned_first : (h : Home) (ts us : List TaskTree) → AreSpawned h (ts ++ us) → AreSpawned h ts
spawned_first h [] us all = tt
spawned_first h (t ∷ ts) us all = (all.0, spawned_first h ts us all.1)

pub spawned_rest : (h : Home) (ts us : List TaskTree) → AreSpawned h (ts ++ us) → AreSpawned h us
spawned_rest h [] us all = all
spawned_rest h (t ∷ ts) us all = spawned_rest h ts us all.1

-- what ends a body fits the kind of its unit
abbrev pub IsLeft : Home → Type 0
IsLeft h = ((h.body.leaves ≡ instr.Return) × IsTrue (stands_in h.kind instr.Return)) ⊎ ((h.body.leaves ≡ instr.End) × IsTrue (stands_in h.kind instr.End))

module _ (h : Home) (left : IsLeft h) where
  -- where a statement may go
  abbrev pub Labels : (broke continued next from to : ℕ) → Type 0
  Labels broke continued next from to = from < to → IsLabel h to broke × IsLabel h to continued × IsLabel h to next

  -- Code of a statement: where it has no instruction, it goes on at its end.
  abbrev pub Runs : (broke continued next from to : ℕ) → Type 0
  Runs broke continued next from to = (from ≡ to → next ≡ to) × Lays h (Labels broke continued next from to) from 0 to 0

  -- the labels of a part at the beginning, and of one at the end
  labels_front : {broke continued next from mid to : ℕ} → mid ≤ to → Labels broke continued next from to → Labels broke continued next from mid
  labels_front le g lt =
      let l = g (omega (arith, lt, le)) in
      (label_before h le l.0, label_before h le l.1, label_before h le l.2)

  labels_back : {broke continued next from mid to : ℕ} → from ≤ mid → Labels broke continued next from to → Labels broke continued next mid to
  labels_back le g lt = g (omega (arith, lt, le))

  -- a part that goes on at its own end
  goes_to_end : {broke continued from mid to : ℕ} (next : ℕ) → mid ≤ to → Lays h (Labels broke continued mid from mid) from 0 mid 0 →
      Lays h (Labels broke continued next from to) from 0 mid 0
  goes_to_end {broke = broke} {continued = continued} {from = from} {mid = mid} {to = to} next le f = own_label h (from_more h own f)
    where
      own : Labels broke continued next from to × (from < mid → IsLabel h mid mid) → Labels broke continued mid from mid
      own g lt = let l = g.0 (omega (arith, lt, le)) in (label_before h le l.0, label_before h le l.1, g.1 lt)

  ends_lay : {part : ℕ → ℕ → ℕ → Type 0} {broke continued next from to : ℕ} → ((n p q : ℕ) → part n p q → Runs broke continued n p q) →
      Ends h.code part next from to →
      Runs broke continued next from to
  ends_lay {next = next} {from = from} {to = to} lays (by_itself s) = lays next from to s
  ends_lay {broke = broke} {continued = continued} {next = next} {from = from} lays (by_jump end s is) =
      let f = (lays end from end s).1 in (
        λ e. absurd (omega (arith, e, f.onward)),
        then_lays h (goes_to_end next (omega arith) f)
            (jumping h end next 0 0 is (omega arith) (λ g low high k. label_target h end (omega arith) (g (omega (arith, f.onward))).2)),
      )

  test_lays : (test : Option tree.ExprTree) (s : Scope) (fails from to : ℕ) → AllFit h (value_notes s test) → HasTest h.code (tells h) test fails from to →
      Tests h fails from to
  test_lays None s fails from to fit has = to_end h has (nothing h from 0)
  test_lays (Some e) s fails from to fit has = condition_lays h s fit has

  -- the round of a loop that begins at `again`, which is a label, and goes on at `next`
  abbrev Again : (next again from to : ℕ) → Type 0
  Again next again from to = Lays h ((from < to → IsLabel h to next) × IsLabel h to again) from 0 to 0

  round_lays : {part : ℕ → ℕ → ℕ → ℕ → Type 0} (step : Option tree.ChangeTree) (s : Scope) (next again from to : ℕ) → AllFit h (step_notes s step) →
      ((c n p q : ℕ) → part c n p q → Runs next c n p q) → HasRound h.code (tells h) part step again from to → (from ≡ to → again ≡ to) × Again next again from to
  round_lays None s next again from to fit lays has =
      let f = ends_lay (lays again) has in
      (f.0, from_more h (λ g lt. (g.0 lt, g.1, g.1)) f.1)
  round_lays (Some c) s next again from to fit lays has =
      let f = (lays has.0 has.0 from has.0 has.2).1 in
      let change = change_lays h s fit has.3 in
      let jump : Again next again has.1 to =
      to_end h has.4.1 (jumping h has.1 again 0 0 has.4.0 (omega arith) (λ g low high k. label_target h has.1 (omega arith) (subst (λ q. IsLabel h q again) (sym has.4.1) g.1))) in
      let front : Lays h ((from < to → IsLabel h to next) × IsLabel h to again) from 0 has.0 0 =
      own_label h
      (from_more h (λ g lt. (label_before h (omega (arith, change.onward, jump.onward)) (g.0.0 (omega (arith, lt, change.onward, jump.onward))), g.1 lt, g.1 lt)) f) in (
        λ e. absurd (omega (arith, e, f.onward, change.onward, has.4.1)),
        then_lays h front
            (then_lays h (free h change)
            (from_more h (λ g. (λ lt. g.0 (omega (arith, lt, f.onward, change.onward)), g.1)) jump)),
      )

  -- a loop goes nowhere but to what follows it
  loop_lays : {part : ℕ → ℕ → ℕ → ℕ → Type 0} (test : Option tree.ExprTree) (step : Option tree.ChangeTree) (s : Scope) (next from to : ℕ) →
      AllFit h (value_notes s test) → AllFit h (step_notes s step) →
      ((c n p q : ℕ) → part c n p q → Runs next c n p q) → HasLoop h.code (tells h) test part step next from to → (from < to) × Lays h (from < to → IsLabel h to next) from 0 to 0
  loop_lays test step s next from to fit_test fit_step lays has =
      let head = test_lays test s next (from + 1) has.0 fit_test has.2 in
      let round = round_lays step s next from has.0 to fit_step lays has.3 in
      let some : from + 1 < to = is_some round.0 head.onward round.1.onward in (
        omega (arith, some),
        looping h from to has.1 some
            (then_lays h
            (from_more h (λ g lt. label_before h round.1.onward (g.0 (omega (arith, some)))) head)
            (from_more h (λ g. (λ lt. g.0 (omega (arith, some)), g.1)) round.1)),
      )
    where
      is_some : (has.0 ≡ to → from ≡ to) → from + 1 ≤ has.0 → has.0 ≤ to → from + 1 < to
      is_some none a b = by_order (cases_lt (from + 1) to)
        where
          by_order : (from + 1 < to) ⊎ (to ≤ from + 1) → from + 1 < to
          by_order (inl lt) = lt
          by_order (inr ge) = let e : has.0 ≡ to = omega (arith, a, b, ge) in absurd (omega (arith, none e, a, b))

  -- a branch behind its condition
  branch_lays : {broke continued next from test to : ℕ} → Tests h next from test → Runs broke continued next test to → Runs broke continued next from to
  branch_lays c a = (
    λ e. a.0 (omega (arith, e, c.onward, a.1.onward)),
    then_lays h
        (from_more h (λ g lt. label_before h a.1.onward (g (omega (arith, lt, a.1.onward))).2) c)
        (from_more h (labels_back c.onward) a.1),
  )

  branches_lay : {broke continued next from test otherwise to : ℕ} → Tests h otherwise from test → Runs broke continued next test otherwise →
      Runs broke continued next otherwise to → Runs broke continued next from to
  branches_lay {broke = broke} {continued = continued} {next = next} {from = from} {test = test} {otherwise = otherwise} {to = to} c a b = (
    λ e. b.0 (omega (arith, e, c.onward, a.1.onward, b.1.onward)),
    then_lays h (own_label h (then_lays h (from_more h other c) (from_more h first a.1))) (from_more h (labels_back (omega (arith, c.onward, a.1.onward))) b.1),
  )
    where
      other : Labels broke continued next from to × (from < otherwise → IsLabel h otherwise otherwise) → from < test → IsLabel h test otherwise
      other g lt = label_before h a.1.onward (g.1 (omega (arith, lt, a.1.onward)))

      first : Labels broke continued next from to × (from < otherwise → IsLabel h otherwise otherwise) → Labels broke continued next test otherwise
      first g = labels_back c.onward (labels_front b.1.onward g.0)

  jump_lays : {given : Type 0} (label from to : ℕ) → (given → IsLabel h to label) → Stands h.code (instr.Jump label ∷ []) from to →
      (from < to) × Lays h given from 0 to 0
  jump_lays label from to is has = (
    omega (arith, has.1),
    to_end h has.1 (jumping h from label 0 0 has.0 (omega arith) (λ g low high k. label_target h from (omega arith) (subst (λ q. IsLabel h q label) (sym has.1) (is g)))),
  )

  leave_lays : (place : ℕ) → instr_at h.code place ≡ Some h.body.leaves → Lays h ⊤ place 1 (place + 1) 0
  leave_lays place is = by_kind left
    where
      by_kind : IsLeft h → Lays h ⊤ place 1 (place + 1) 0
      by_kind (inl (e, fits)) = to_height h (omega arith) (leaving h place 1 instr.Return (is ∙ ap Some e) refl refl refl refl (omega arith) fits)
      by_kind (inr (e, fits)) = to_height h (omega arith) (leaving h place 1 instr.End (is ∙ ap Some e) refl refl refl refl (omega arith) fits)

  spawn_lays : (number items from to : ℕ) → h.kind ≡ Main → (operands_of h.code (instr.Spawn number) ≡ items) × (number < length h.code.sites) →
      Stands h.code (instr.Spawn number ∷ []) from to →
      Lays h ⊤ from (0 + items) to 0
  spawn_lays number items from to in_main there has =
      straight h (instr.Spawn number ∷ []) from to (0 + items) 0 has ((refl, refl, refl, refl), omega (arith, there.0), (in_main, there.1), omega (arith, there.0))

  tick_lays : (line stream from to : ℕ) → h.kind ≡ Main → stream < h.code.streams →
      Stands h.code (instr.BurstIn line ∷ instr.Turn ∷ instr.Tick stream ∷ []) from to → Lays h ⊤ from 2 to 0
  tick_lays line stream from to in_main fits has =
      then_lays h (straight h (instr.BurstIn line ∷ []) from (from + 1) 2 2 (has.0, refl) ((refl, refl, refl, refl), omega arith, in_main, omega arith))
      (turned h (from + 1) to 2 0 (instr.Tick stream) has.1 refl refl refl (omega arith) (omega arith) (in_main, fits))

  mutual
    pub stmt_lays : (a : tree.StmtTree) (s : Scope) (broke continued next from to : ℕ) → AllFit h (own_notes s a) → AreSpawned h (tasks_of a) →
        HasStmt h.code h.body a broke continued next from to → Runs broke continued next from to
    stmt_lays tree.StmtTree.Empty s broke continued next from to fit spawned has = (λ e. has.1, to_end h has.0 (nothing h from 0))
    stmt_lays (tree.Block ss) s broke continued next from to fit spawned has = stmts_lay ss (enter s) broke continued next from to fit spawned has
    stmt_lays (tree.StmtTree.Declare ty ds) s broke continued next from to fit spawned has = (λ e. has.1, free h (declarators_lay h ds (typed ty s) from to fit has.0))
    stmt_lays (tree.StmtTree.Change c) s broke continued next from to fit spawned has = (λ e. has.1, free h (change_lays h s fit has.0))
    stmt_lays (tree.StmtTree.Call f args) s broke continued next from to fit spawned has = (
      λ e. has.3,
      free h
          (then_lays h (expr_lays h (tree.ExprTree.Call f args) s from has.0 0 fit has.1).1 (straight h (instr.Drop ∷ []) has.0 to 1 0 has.2 ((refl, refl, refl, refl), omega arith, tt, omega arith))),
    )
    stmt_lays (tree.If c a) s broke continued next from to fit spawned has =
        branch_lays (condition_lays h s (fit_first h (expr_notes s c) (own_notes s a) fit) has.1)
        (ends_lay (λ n p q k. stmt_lays a s broke continued n p q (fit_rest h (expr_notes s c) (own_notes s a) fit) spawned k) has.2)
    stmt_lays (tree.IfElse c a b) s broke continued next from to fit spawned has =
        let first = expr_notes s c ++ own_notes s a in
        let rest = own_notes (after_stmt s a) b in
        let fits = fit_first h first rest fit in
        branches_lay (condition_lays h s (fit_first h (expr_notes s c) (own_notes s a) fits) has.2)
        (ends_lay (λ n p q k. stmt_lays a s broke continued n p q (fit_rest h (expr_notes s c) (own_notes s a) fits) (spawned_first h (tasks_of a) (tasks_of b) spawned) k) has.3)
        (ends_lay (λ n p q k. stmt_lays b (after_stmt s a) broke continued n p q (fit_rest h first rest fit) (spawned_rest h (tasks_of a) (tasks_of b) spawned) k) has.4)
    stmt_lays (tree.While c a) s broke continued next from to fit spawned has =
        let loop =
        loop_lays (Some c) None s next from to (fit_first h (expr_notes s c) (own_notes (in_loop s) a) fit) tt
        (λ k n p q has_part. stmt_lays a (in_loop s) next k n p q (fit_rest h (expr_notes s c) (own_notes (in_loop s) a) fit) spawned has_part) has in
        (λ e. absurd (omega (arith, e, loop.0)), from_more h (λ g lt. (g lt).2) loop.1)
    stmt_lays (tree.For start test step a) s broke continued next from to fit spawned has =
        let head = after_start (enter s) start in
        let x = start_notes (enter s) start in
        let y = value_notes head test in
        let z = step_notes head step in
        let w = own_notes (in_loop head) a in
        let fit_x = fit_first h (x ++ y ++ z) w fit in
        let fit_y = fit_first h (x ++ y) z fit_x in
        let first = start_lays h start (enter s) from has.0 (fit_first h x y fit_y) has.1 in
        let loop =
        loop_lays test step head next has.0 to (fit_rest h x y fit_y) (fit_rest h (x ++ y) z fit_x)
        (λ k n p q has_part. stmt_lays a (in_loop head) next k n p q (fit_rest h (x ++ y ++ z) w fit) spawned has_part) has.2 in
        (λ e. absurd (omega (arith, e, first.onward, loop.0)), then_lays h (free h first) (from_more h (λ g lt. (g (omega (arith, lt, first.onward))).2) loop.1))
    stmt_lays (tree.Break m) s broke continued next from to fit spawned has =
        let j = jump_lays {given = Labels broke continued next from to} broke from to (λ g. (g (omega (arith, has.1))).0) has in
        (λ e. absurd (omega (arith, e, j.0)), j.1)
    stmt_lays (tree.Continue m) s broke continued next from to fit spawned has =
        let j = jump_lays {given = Labels broke continued next from to} continued from to (λ g. (g (omega (arith, has.1))).1) has in
        (λ e. absurd (omega (arith, e, j.0)), j.1)
    stmt_lays (tree.Return m e) s broke continued next from to fit spawned has =
        let v = expr_lays h e s from has.0 0 fit.1 has.1 in
        (λ same. absurd (omega (arith, same, v.0, has.2.1)), free h (then_lays h v.1 (to_end h has.2.1 (leave_lays has.0 has.2.0))))
    stmt_lays (tree.Task m cs a) s broke continued next from to fit spawned has =
        let ps = members cs in
        let note = Task s m (count_items ps) (captured s.entries ps a) ∷ [] in
        let fit_task = fit_rest h (members_notes s [] ps) note fit in (
          λ e. has.5,
          free h
              (then_lays h (items_lay h fit_task.0.0 ps s [] from has.1 0 (fit_first h (members_notes s [] ps) note fit) has.3)
              (spawn_lays has.0 (count_items ps + count_items ps) has.1 to fit_task.0.0 (spawned.0 has.0 has.2) has.4)),
        )
    stmt_lays (tree.Tick m t arrow e) s broke continued next from to fit spawned has =
        let x = place_notes s (role.Flow direction.Reads) t in
        let fit_x = fit_first h x (expr_notes s e) fit.1 in (
          λ same. has.5,
          free h
              (then_lays h (stream_lays h fit.0 t direction.Reads s from has.0 0 fit_x has.2)
              (then_lays h (expr_lays h e s has.0 has.1 1 (fit_rest h x (expr_notes s e) fit.1) has.3).1
              (tick_lays arrow.line (first_of (tells h (target_name t).mark.place).what) has.1 to fit.0 (stream_fits h direction.Reads t s fit_x) has.4))),
        )
    stmt_lays (tree.Taskwait m) s broke continued next from to fit spawned has = (λ e. has.1, to_end h has.0 (nothing h from 0))

    pub stmts_lay : (ss : tree.Stmts) (s : Scope) (broke continued next from to : ℕ) → AllFit h (all_own_notes s ss) → AreSpawned h (all_tasks_of ss) →
        HasStmts h.code h.body ss broke continued next from to → Runs broke continued next from to
    stmts_lay tree.no_stmts s broke continued next from to fit spawned has = (λ e. has.1, to_end h has.0 (nothing h from 0))
    stmts_lay (tree.stmt a tree.no_stmts) s broke continued next from to fit spawned has =
        stmt_lays a s broke continued next from to (fit_first h (own_notes s a) [] fit) (spawned_first h (tasks_of a) [] spawned) has
    stmts_lay (tree.stmt a (tree.stmt c rest)) s broke continued next from to fit spawned has =
        let y = all_own_notes (after_stmt s a) (tree.stmt c rest) in
        let us = all_tasks_of (tree.stmt c rest) in
        let first = stmt_lays a s broke continued has.0 from has.0 (fit_first h (own_notes s a) y fit) (spawned_first h (tasks_of a) us spawned) has.1 in
        let others = stmts_lay (tree.stmt c rest) (after_stmt s a) broke continued next has.0 to (fit_rest h (own_notes s a) y fit) (spawned_rest h (tasks_of a) us spawned) has.2 in (
          λ e. others.0 (omega (arith, e, first.1.onward, others.1.onward)),
          then_lays h (goes_to_end next others.1.onward first.1) (from_more h (labels_back first.1.onward) others.1),
        )
