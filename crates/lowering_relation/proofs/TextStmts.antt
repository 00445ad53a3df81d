-- What stands in the statements of a body of a lawful program fits.
use Rattle.std.proofs.Common.{◌≡◌, ℕ, zero, suc, ◌+◌, ◌<◌, ◌≤◌, ◌&&◌, ◌||◌, Bool, true, false, not, if◌then◌else◌, List, [], ◌∷◌, ◌++◌, Option, Some, None, ℤ, pos, negsuc, refl, sym, ◌∙◌, subst, arith}
use Rattle.std.proofs.lemmas.Bool.{leb-true}
use Rattle.std.specs.Prelude.{All, unwrap_or, leb}
use Rattle.os_ast.specs.Captured.{Scalar, captured, slots_of}
use Rattle.os_ast.specs.FreeNames.{task_names}
use Rattle.os_ast.specs.Leveled.{IsStmt, AreStmts}
use Rattle.os_ast.specs.Limits.{is_size, size_limit}
use Rattle.os_ast.specs.Names.{Scope, lookup, entity_of, enter, in_loop, typed}
use Rattle.os_ast.specs.Notes.Clauses.{in_task_body, members_notes, clauses_notes}
use Rattle.os_ast.specs.Notes.Declarators.{scalar_entity, sized_form, form_with, form_entity, size_of, size_told, limited, taken, after_declarator, after_declarators, declarator_notes, declarators_notes, sized_notes, after_start, start_notes}
use Rattle.os_ast.specs.Notes.Expressions.{count_args, expr_notes, place_notes, args_notes, value_notes, change_notes, step_notes}
use Rattle.os_ast.specs.Notes.Kinds.{Note, Used, Declared, Pragma, Task}
use Rattle.os_ast.specs.Notes.Statements.{after_stmt, after_stmts, stmt_notes, stmts_notes}
use Rattle.os_ast.specs.ClauseMembers.{members, count_items}
use Rattle.os_ast.specs.Rules.{is_outermost, is_main_body, has_no_size, has_too_many}
use Rattle.os_ast.specs.Trees as tree
use Rattle.os_ast.specs.declared.names.Direction.TheVariants as direction
use Rattle.os_ast.specs.declared.names.Entity.{Entity}
use Rattle.os_ast.specs.declared.names.Entity.TheVariants as entity
use Rattle.os_ast.specs.declared.names.Owner.{Owner}
use Rattle.os_ast.specs.declared.names.Owner.TheVariants as owner
use Rattle.os_ast.specs.declared.names.Role.TheVariants as role
use Rattle.os_ast.specs.declared.names.Use.TheVariants as usage
use Rattle.os_ast.specs.declared.ty.Ty.{Ty}
use Rattle.lowering_relation.proofs.Capturing.{HasSlot, AreScalars, captured_scalars}
use Rattle.lowering_relation.proofs.Homes.{Home, AllFit}
use Rattle.lowering_relation.proofs.OwnNotes.{own_notes, all_own_notes}
use Rattle.lowering_relation.proofs.Static.{declarator_entries, declarator_onward, declarators_onward, stmt_onward, stmts_onward}
use Rattle.lowering_relation.proofs.TextNotes.{expr_scoped, place_scoped, args_scoped, value_scoped, change_scoped, step_scoped, sized_scoped, parts_scoped}
use Rattle.lowering_relation.proofs.Texts.{or_none_first, may_found, Text, OfMainAlone, May, AllMay, In, Known, known_first, known_rest, scoped_both, all_fit}
use Rattle.window_check_laws.proofs.Summed.{stays_in}
use Rattle.window_check_laws.specs.Told.{KeepsAll, rules}

pub fit_both : (h : Home) (xs ys : List Note) → AllFit h xs → AllFit h ys → AllFit h (xs ++ ys)
fit_both h [] ys a b = b
fit_both h (x ∷ xs) ys a b = (a.0, fit_both h xs ys a.1 b)

-- a size is at least 1
size_some : (v : Option ℤ) → not (is_size v) ≡ false → 1 ≤ unwrap_or (limited v) 0
size_some None h = absurd (cc)
size_some (Some (negsuc n)) h = absurd (cc)
size_some (Some (pos n)) h = by_test (leb 1 n && leb n size_limit) refl h
  where
    first : (a b : Bool) → (a && b) ≡ true → a ≡ true
    first true b e = refl
    first false b e = absurd (cc)

    by_test : (t : Bool) → (leb 1 n && leb n size_limit) ≡ t → not t ≡ false → 1 ≤ unwrap_or (if t then Some n else None) 0
    by_test true e k = leb-true 1 n (first (leb 1 n) (leb n size_limit) e)
    by_test false e k = absurd (cc)

-- Slots of a scope that the unit has, and streams that the program has: `main` alone declares some.
pub record HasRoom (t : Text) (s : Scope) : Type 0 where
  pub slots : s.slots ≤ t.home.slots
  pub streams : t.owner ≡ owner.OfMain → 2 + s.streams ≤ t.home.code.streams

module _ (t : Text) where
  pub before_all : {s u : Scope} → s.slots ≤ u.slots → s.streams ≤ u.streams → HasRoom t u → HasRoom t s
  before_all slots streams room = record { slots = omega (arith, slots, room.slots); streams = λ e. omega (arith, streams, room.streams e) }

  main_alone : (o : Owner) (T : Type 0) → o ≡ owner.OfMain → T → OfMainAlone o T
  main_alone o T e x = subst (λ p. OfMainAlone p T) (sym e) x

  pub scalar_may : (o : Owner) (id slot : ℕ) → o ≡ t.owner → slot + 1 ≤ t.home.slots → May t.home t.owner id (scalar_entity o slot)
  scalar_may owner.OfMain id slot e le = main_alone t.owner (slot + 1 ≤ t.home.slots) (sym e) le
  scalar_may owner.OfFunction id slot e le = le
  scalar_may owner.OfTask id slot e le = le

  sized_may : (o : Owner) (s : Scope) (id : ℕ) (size : Option ℕ) → o ≡ t.owner → (taken s (sized_form o size)).slots ≤ t.home.slots →
      May t.home t.owner id (form_entity s (sized_form o size))
  sized_may owner.OfMain s id size e le = main_alone t.owner _ (sym e) (t.in_main (sym e), le)
  sized_may owner.OfFunction s id size e le = le
  sized_may owner.OfTask s id size e le = le

  outermost : (o : Owner) (depth : ℕ) → not (is_outermost o depth) ≡ false → o ≡ owner.OfMain
  outermost owner.OfMain depth h = refl
  outermost owner.OfFunction depth h = absurd (cc)
  outermost owner.OfTask depth h = absurd (cc)

  in_main_body : (o : Owner) → not (is_main_body o) ≡ false → o ≡ owner.OfMain
  in_main_body owner.OfMain h = refl
  in_main_body owner.OfFunction h = absurd (cc)
  in_main_body owner.OfTask h = absurd (cc)

  module _ (s : Scope) (id : ℕ) (is : In t s) where
    form_may : (stream : Bool) (size : Option tree.IndexTree) → HasRoom t (taken s (form_with s stream size)) →
        (stream && not (is_outermost s.owner s.depth)) ≡ false →
        (stream ≡ true → (i : tree.IndexTree) → size ≡ Some i → 1 ≤ unwrap_or (size_of s i.value) 0) → May t.home t.owner id (form_entity s (form_with s stream size))
    form_may true None room outer some =
        let main = sym is.owner ∙ outermost s.owner s.depth outer in
        main_alone t.owner _ main (omega (arith, room.streams main))
    form_may true (Some i) room outer some =
        let main = sym is.owner ∙ outermost s.owner s.depth outer in
        main_alone t.owner _ main (omega (arith, room.streams main, some refl i refl))
    form_may false None room outer some = scalar_may s.owner id s.slots is.owner room.slots
    form_may false (Some i) room outer some = sized_may s.owner s id (size_of s i.value) is.owner room.slots

    size_lawful : (stream : Bool) (size : Option tree.IndexTree) (d : Scope) →
        (has_no_size (form_with s stream size) (size_told s size) || has_too_many d (form_with s stream size)) ≡ false →
        stream ≡ true → (i : tree.IndexTree) → size ≡ Some i → 1 ≤ unwrap_or (size_of s i.value) 0
    size_lawful false size d lawful e i is_size = absurd (cc)
    size_lawful true None d lawful e i is_size = absurd (cc)
    size_lawful true (Some j) d lawful e i is_size =
        let same : j ≡ i = cc in
        subst (λ (k : tree.IndexTree). 1 ≤ unwrap_or (size_of s k.value) 0) same (size_some (size_told s (Some j)) (or_none_first _ _ lawful))

  declarator_in : (d : tree.DeclaratorTree) (s : Scope) → In t s → HasRoom t (after_declarator s d) → KeepsAll rules (Declared s d) →
      In t (after_declarator s d)
  declarator_in d s is room lawful = record {
    owner = (declarator_onward s d).owner ∙ is.owner;
    captured = (declarator_onward s d).captured ∙ is.captured;
    may = subst (AllMay t.home t.owner) (sym (declarator_entries s d)) (
      form_may s d.name.id is d.stream d.size (record { slots = room.slots; streams = room.streams }) lawful.1.1.1.1.1.1.1.0
          (size_lawful s d.name.id is d.stream d.size (after_declarator s d) lawful.1.1.1.1.1.0),
      is.may,
    );
  }

  declarators_in : (ds : List tree.DeclaratorTree) (s : Scope) → In t s → HasRoom t (after_declarators s ds) → Known t (declarators_notes s ds) →
      In t (after_declarators s ds)
  declarators_in [] s is room known = is
  declarators_in (d ∷ ds) s is room known =
      let rest = declarators_notes (after_declarator s d) ds in
      let next = before_all (declarators_onward ds (after_declarator s d)).slots (declarators_onward ds (after_declarator s d)).streams room in
      declarators_in ds (after_declarator s d) (declarator_in d s is next known.0.0) room (known_rest t (declarator_notes s d) rest known)

  declarators_fit : (ds : List tree.DeclaratorTree) (s : Scope) → In t s → HasRoom t (after_declarators s ds) → Known t (declarators_notes s ds) →
      AllFit t.home (declarators_notes s ds)
  declarators_fit [] s is room known = tt
  declarators_fit (d ∷ ds) s is room known =
      let here = declarator_notes s d in
      let rest = declarators_notes (after_declarator s d) ds in
      let next = before_all (declarators_onward ds (after_declarator s d)).slots (declarators_onward ds (after_declarator s d)).streams room in
      let inner = declarator_in d s is next known.0.0 in
      fit_both t.home here rest
      (all_fit t here
      ((is, next.slots), scoped_both t (sized_notes s d.stream d.size) (value_notes (after_declarator s d) d.first) (sized_scoped t s is d.stream d.size) (value_scoped t (after_declarator s d) inner d.first))
      (known_first t here rest known))
      (declarators_fit ds (after_declarator s d) inner room (known_rest t here rest known))

  -- a declaration of a type begins
  typed_in : (ty : Ty) (s : Scope) → In t s → In t (typed ty s)
  typed_in ty s is = record { owner = is.owner; captured = is.captured; may = is.may }

  start_in : (x : tree.StartTree) (s : Scope) → In t s → HasRoom t (after_start s x) → Known t (start_notes s x) → In t (after_start s x)
  start_in tree.StartTree.Empty s is room known = is
  start_in (tree.StartTree.Declare ty ds) s is room known = declarators_in ds (typed ty s) (typed_in ty s is) room known
  start_in (tree.StartTree.Change c) s is room known = is

  start_fits : (x : tree.StartTree) (s : Scope) → In t s → HasRoom t (after_start s x) → Known t (start_notes s x) → AllFit t.home (start_notes s x)
  start_fits tree.StartTree.Empty s is room known = tt
  start_fits (tree.StartTree.Declare ty ds) s is room known = declarators_fit ds (typed ty s) (typed_in ty s is) room known
  start_fits (tree.StartTree.Change c) s is room known = all_fit t (change_notes s c) (change_scoped t s is c) known

  -- captured scalars have slots of `main`
  caught_below : (s : Scope) → In t s → t.owner ≡ owner.OfMain → (cs : List Scalar) → AreScalars s.entries cs → All (λ slot. slot < t.home.slots) (slots_of cs)
  caught_below s is main [] are k d lt = absurd (omega (arith, lt))
  caught_below s is main (c ∷ cs) are zero d lt = by_entity (entity_of (lookup s.entries c.id)) refl are.0
    where
      by_entity : (o : Option Entity) → entity_of (lookup s.entries c.id) ≡ o → HasSlot o c.slot → c.slot < t.home.slots
      by_entity None found has = absurd (cc)
      by_entity (Some (entity.Control n)) found has =
          let e : n ≡ c.slot = cc in
          let may : May t.home owner.OfMain c.id (entity.Control n) = subst (λ o. May t.home o c.id (entity.Control n)) main (may_found t.home t.owner s.entries c.id (entity.Control n) is.may found) in
          omega (arith, e, may)
      by_entity (Some entity.InputLength) found has =
          let e : 0 ≡ c.slot = cc in
          let may : May t.home owner.OfMain c.id entity.InputLength = subst (λ o. May t.home o c.id entity.InputLength) main (may_found t.home t.owner s.entries c.id entity.InputLength is.may found) in
          omega (arith, e, may)
      by_entity (Some (entity.Constant v)) found has = absurd (cc)
      by_entity (Some (entity.Function n k)) found has = absurd (cc)
      by_entity (Some (entity.Scalar n)) found has = absurd (cc)
      by_entity (Some (entity.Array n k)) found has = absurd (cc)
      by_entity (Some (entity.Window n)) found has = absurd (cc)
      by_entity (Some (entity.Stream n)) found has = absurd (cc)
      by_entity (Some (entity.Streams n k)) found has = absurd (cc)
      by_entity (Some (entity.Element n x)) found has = absurd (cc)
      by_entity (Some (entity.View n x)) found has = absurd (cc)
  caught_below s is main (c ∷ cs) are (suc k) d lt = caught_below s is main cs are.1 k d (omega (arith, lt))

  -- behind a statement
  stmt_in : {a : tree.StmtTree} → IsStmt a → (s : Scope) → In t s → In t (after_stmt s a)
  stmt_in {a = a} leveled s is = record {
    owner = (stmt_onward a s).owner ∙ is.owner;
    captured = (stmt_onward a s).captured ∙ is.captured;
    may = subst (AllMay t.home t.owner) (sym (stays_in leveled s)) is.may;
  }

  same_in : (s u : Scope) → In t s → u.owner ≡ s.owner → u.captured ≡ s.captured → u.entries ≡ s.entries → In t u
  same_in s u is own caps entries = record { owner = own ∙ is.owner; captured = caps ∙ is.captured; may = subst (AllMay t.home t.owner) (sym entries) is.may }

  mutual
    pub stmt_fits : {a : tree.StmtTree} → IsStmt a → (s : Scope) → In t s → HasRoom t (after_stmt s a) → Known t (stmt_notes s a) →
        AllFit t.home (own_notes s a)
    stmt_fits IsStmt.empty s is room known = tt
    stmt_fits (IsStmt.block ss) s is room known =
        stmts_fit ss (enter s) (same_in s (enter s) is refl refl refl) (record { slots = room.slots; streams = room.streams }) known
    stmt_fits (IsStmt.change {c = c} _) s is room known = all_fit t (change_notes s c) (change_scoped t s is c) known
    stmt_fits (IsStmt.call {f = f} {args = args} _) s is room known =
        all_fit t (Used s f (usage.Called (count_args args)) ∷ args_notes s args) ((is, tt), args_scoped t s is args) known
    stmt_fits (IsStmt.if_alone {c = c} {a = a} _ leveled) s is room known =
        fit_both t.home (expr_notes s c) (own_notes s a)
        (all_fit t (expr_notes s c) (expr_scoped t s is c) (known_first t (expr_notes s c) (stmt_notes s a) known))
        (stmt_fits leveled s is room (known_rest t (expr_notes s c) (stmt_notes s a) known))
    stmt_fits (IsStmt.if_else {c = c} {a = a} {b = b} _ first _ second) s is room known =
        let x = expr_notes s c in
        let y = stmt_notes s a in
        let z = stmt_notes (after_stmt s a) b in
        let known_xy = known_first t (x ++ y) z known in
        fit_both t.home (x ++ own_notes s a) (own_notes (after_stmt s a) b)
        (fit_both t.home x (own_notes s a) (all_fit t x (expr_scoped t s is c) (known_first t x y known_xy))
        (stmt_fits first s is (before_all (stmt_onward b (after_stmt s a)).slots (stmt_onward b (after_stmt s a)).streams room) (known_rest t x y known_xy)))
        (stmt_fits second (after_stmt s a) (stmt_in first s is) room (known_rest t (x ++ y) z known))
    stmt_fits (IsStmt.while {c = c} {s = a} _ leveled) s is room known =
        let y = stmt_notes (in_loop s) a in
        fit_both t.home (expr_notes s c) (own_notes (in_loop s) a)
        (all_fit t (expr_notes s c) (expr_scoped t s is c) (known_first t (expr_notes s c) y known))
        (stmt_fits leveled (in_loop s) (same_in s (in_loop s) is refl refl refl) (record { slots = room.slots; streams = room.streams }) (known_rest t (expr_notes s c) y known))
    stmt_fits (IsStmt.for {start = start} {test = test} {step = step} {s = a} _ _ _ leveled) s is room known =
        let head = after_start (enter s) start in
        let x = start_notes (enter s) start in
        let y = value_notes head test in
        let z = step_notes head step in
        let w = stmt_notes (in_loop head) a in
        let known_z = known_first t (x ++ y ++ z) w known in
        let known_y = known_first t (x ++ y) z known_z in
        let inner : HasRoom t (after_stmt (in_loop head) a) = record { slots = room.slots; streams = room.streams } in
        let room_head : HasRoom t head = before_all (stmt_onward a (in_loop head)).slots (stmt_onward a (in_loop head)).streams inner in
        let is_enter = same_in s (enter s) is refl refl refl in
        let is_head = start_in start (enter s) is_enter room_head (known_first t x y known_y) in
        fit_both t.home (x ++ y ++ z) (own_notes (in_loop head) a)
        (fit_both t.home (x ++ y) z
        (fit_both t.home x y (start_fits start (enter s) is_enter room_head (known_first t x y known_y)) (all_fit t y (value_scoped t head is_head test) (known_rest t x y known_y)))
        (all_fit t z (step_scoped t head is_head step) (known_rest t (x ++ y) z known_z)))
        (stmt_fits leveled (in_loop head) (same_in head (in_loop head) is_head refl refl refl) inner (known_rest t (x ++ y ++ z) w known))
    stmt_fits IsStmt.break s is room known = (tt, tt)
    stmt_fits IsStmt.continue s is room known = (tt, tt)
    stmt_fits (IsStmt.return {e = e} _) s is room known = (tt, all_fit t (expr_notes s e) (expr_scoped t s is e) known.1)
    stmt_fits (IsStmt.task {m = m} {cs = cs} {s = a} _ _) s is room known =
        let ps = members cs in
        let note = Task s m (count_items ps) (captured s.entries ps a) ∷ [] in
        let known_own = known_first t (clauses_notes s m ps a) (stmt_notes (in_task_body s ps a) a) known in
        let lawful = (known_rest t (members_notes s [] ps) note known_own).0.0 in
        let main = sym is.owner ∙ in_main_body s.owner lawful.1.1.1.1.1.1.1.0 in
        all_fit t (clauses_notes s m ps a) (scoped_both t (members_notes s [] ps) note (parts_scoped t s is main ps []) ((is, caught_below s is main (captured s.entries ps a) (captured_scalars s.entries (task_names ps a))), tt)) known_own
    stmt_fits (IsStmt.tick {m = m} {t = p} {e = e} _ _) s is room known =
        let main = sym is.owner ∙ in_main_body s.owner known.0.0.1.1.1.1.1.1.1.0 in
        let x = place_notes s (role.Flow direction.Reads) p in
        all_fit t (Pragma s m ∷ x ++ expr_notes s e)
        (is, scoped_both t x (expr_notes s e) (place_scoped t s is p (role.Flow direction.Reads) main main) (expr_scoped t s is e)) known
    stmt_fits (IsStmt.taskwait {m = m}) s is room known = all_fit t (Pragma s m ∷ []) (is, tt) known

    pub stmts_fit : {ss : tree.Stmts} → AreStmts ss → (s : Scope) → In t s → HasRoom t (after_stmts s ss) → Known t (stmts_notes s ss) →
        AllFit t.home (all_own_notes s ss)
    stmts_fit AreStmts.no_stmts s is room known = tt
    stmts_fit (AreStmts.declare {t = ty} {ds = ds} {ss = ss} _ rest) s0 in_round room known =
        let s = typed ty s0 in
        let is = typed_in ty s0 in_round in
        let next = after_declarators s ds in
        let x = declarators_notes s ds in
        let y = stmts_notes next ss in
        let here = before_all (stmts_onward ss next).slots (stmts_onward ss next).streams room in
        fit_both t.home x (all_own_notes next ss) (declarators_fit ds s is here (known_first t x y known))
        (stmts_fit rest next (declarators_in ds s is here (known_first t x y known)) room (known_rest t x y known))
    stmts_fit (AreStmts.stmt {s = a} {ss = ss} leveled rest) s is room known =
        let next = after_stmt s a in
        let x = stmt_notes s a in
        let y = stmts_notes next ss in
        fit_both t.home (own_notes s a) (all_own_notes next ss)
        (stmt_fits leveled s is (before_all (stmts_onward ss next).slots (stmts_onward ss next).streams room) (known_first t x y known))
        (stmts_fit rest next (stmt_in leveled s is) room (known_rest t x y known))
