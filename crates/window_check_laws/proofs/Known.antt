-- What stands in a lawful program stands where all that is in scope is known.
use Rattle.std.proofs.Common.{◌≡◌, ◌≤◌, ℕ, zero, suc, ◌+◌, ◌==◌, ◌&&◌, ◌||◌, Bool, true, false, not, if◌then◌else◌, List, [], ◌∷◌, ◌++◌, length, Option, Some, None, ℤ, refl, sym, ap, subst, ◌∙◌, arith, eq-eqb, Contains}
use Rattle.std.specs.Prelude.{⊤, unwrap_or}
use Rattle.window_check_laws.proofs.NamePlaces.{or-first}
use Rattle.os_ast.specs.Unsigned.{is_unsigned}
use Rattle.os_ast.specs.declared.program.Param.{Param}
use Rattle.os_ast.specs.Captured.{captured, slots_of}
use Rattle.os_ast.specs.Leveled.{AreAll, cons, IsItem, IsStmt, AreStmts, IsLeveled}
use Rattle.os_ast.specs.Limits.{is_size}
use Rattle.os_ast.specs.Names.{Scope, lookup, entity_of, declare, enter, in_loop, constant_value, typed}
use Rattle.os_ast.specs.Notes.Clauses.{in_task, in_task_body, captured_in, window_notes, member_notes, members_notes, clauses_notes}
use Rattle.os_ast.specs.Notes.Declarators.{limited, constant_of, size_value, size_told, size_of, form, form_with, after_declarator, after_declarators, is_window, declarator_notes, declarators_notes, size_notes, sized_notes, after_start, start_notes}
use Rattle.os_ast.specs.Notes.Expressions.{expr_notes, place_notes, args_notes, links_notes, value_notes, index_notes, change_notes, step_notes}
use Rattle.os_ast.specs.Notes.Kinds.{Note, Used, Sized, Declared, Parameter, Global, Left, Returned, Pragma, Task, Listed}
use Rattle.os_ast.specs.Notes.Programs.{in_body, in_function, after_param, after_item, after_items, params_notes, item_notes, items_notes, owner_of, param_list, file, program_notes}
use Rattle.os_ast.specs.Notes.Statements.{after_stmt, after_stmts, stmt_notes, stmts_notes}
use Rattle.os_ast.specs.ClauseMembers.{ClauseMember, Item, Private, members, member_name, count_items, is_in}
use Rattle.os_ast.specs.Rules.{has_no_size, has_too_many, is_main_body}
use Rattle.os_ast.specs.Stacked.{Stacked}
use Rattle.os_ast.specs.Trees as tree
use Rattle.os_ast.specs.Violations.{streams, violations}
use Rattle.os_ast.specs.declared.names.Direction.TheVariants as direction
use Rattle.os_ast.specs.declared.names.Entity.{Entity}
use Rattle.os_ast.specs.declared.names.Entity.TheVariants as entity
use Rattle.os_ast.specs.declared.names.Owner.{Owner}
use Rattle.os_ast.specs.declared.names.Owner.TheVariants as owner
use Rattle.os_ast.specs.declared.names.Role.{Role}
use Rattle.os_ast.specs.declared.names.Role.TheVariants as role
use Rattle.os_ast.specs.declared.program.Constant.{Constant as ConstantItem}
use Rattle.window_check_laws.proofs.Counted.{functions_stmts, functions_in_body}
use Rattle.window_check_laws.proofs.Globals.{distinct-program}
use Rattle.window_check_laws.proofs.Holds.{Holds, sound, holds-declared, holds-declarator, holds-declarators, holds-start, holds-stmt, holds-enter, holds-in_loop, holds-task, holds-param, holds-params, holds-inside, holds-on, AreSlotless, inside, stacked-free, holds-typed}
use Rattle.window_check_laws.proofs.Rise.{grow_taken, grow_declarators, grow_stmt, grow_stmts, grow_items, streams_items, streams_in_body}
use Rattle.window_check_laws.proofs.Told.{lawful-first, lawful-rest, lawful-program}
use Rattle.window_check_laws.specs.Globals.{AreApart}
use Rattle.window_check_laws.specs.Known.{global_behind, global, IsSoundScope, Stands, size_in}
use Rattle.window_check_laws.specs.Sums.{HasSize, HasSizes, IsArraySize, extent_in}
use Rattle.window_check_laws.specs.Told.{AreLawful}

-- and the declared arrays have their sizes by name
abbrev StandsSized : tree.ProgramTree → Note → Type 0
StandsSized p (Used s n u) = Stands p (Used s n u)
StandsSized p (Sized s n) = Stands p (Sized s n)
StandsSized p (Declared s d) = Stands p (Declared s d) × HasSize (size_in p) s d.size
StandsSized p (Parameter s n) = Stands p (Parameter s n)
StandsSized p (Global s n) = Stands p (Global s n)
StandsSized p (Left s m) = Stands p (Left s m)
StandsSized p (Returned s m) = Stands p (Returned s m)
StandsSized p (Pragma s m) = Stands p (Pragma s m)
StandsSized p (Task s m items captured) = Stands p (Task s m items captured)
StandsSized p (Listed before n) = Stands p (Listed before n)

stands-sized : (p : tree.ProgramTree) (n : Note) → StandsSized p n → Stands p n
stands-sized p (Used s n u) h = h
stands-sized p (Sized s n) h = h
stands-sized p (Declared s d) h = h.0
stands-sized p (Parameter s n) h = h
stands-sized p (Global s n) h = h
stands-sized p (Left s m) h = h
stands-sized p (Returned s m) h = h
stands-sized p (Pragma s m) h = h
stands-sized p (Task s m items captured) h = h
stands-sized p (Listed before n) h = h

-- each of these notes
abbrev AllStand : tree.ProgramTree → List Note → Type 0
AllStand p [] = ⊤
AllStand p (n ∷ ns) = StandsSized p n × AllStand p ns

stands-among : (p : tree.ProgramTree) (ns : List Note) (n : Note) → AllStand p ns → Contains ns n → Stands p n
stands-among p [] n h (k, lt, is) = absurd (omega (arith, lt))
stands-among p (x ∷ ns) n h (zero, lt, is) = subst (Stands p) is (stands-sized p x h.0)
stands-among p (x ∷ ns) n h (suc k, lt, is) = stands-among p ns n h.1 (k, omega (arith, lt), is)

all-sized : (p : tree.ProgramTree) (ns : List Note) → AllStand p ns → HasSizes (size_in p) ns
all-sized p [] h = tt
all-sized p (Declared s d ∷ ns) h = (h.0.1, all-sized p ns h.1)
all-sized p (Used s n u ∷ ns) h = all-sized p ns h.1
all-sized p (Sized s n ∷ ns) h = all-sized p ns h.1
all-sized p (Parameter s n ∷ ns) h = all-sized p ns h.1
all-sized p (Global s n ∷ ns) h = all-sized p ns h.1
all-sized p (Left s m ∷ ns) h = all-sized p ns h.1
all-sized p (Returned s m ∷ ns) h = all-sized p ns h.1
all-sized p (Pragma s m ∷ ns) h = all-sized p ns h.1
all-sized p (Task s m items captured ∷ ns) h = all-sized p ns h.1
all-sized p (Listed before n ∷ ns) h = all-sized p ns h.1

-- notes of two parts
all-stand : (p : tree.ProgramTree) (xs ys : List Note) → AllStand p xs → AllStand p ys → AllStand p (xs ++ ys)
all-stand p [] ys a b = b
all-stand p (x ∷ xs) ys a b = (a.0, all-stand p xs ys a.1 b)

-- Expressions declare nothing.
module _ (p : tree.ProgramTree) (s : Scope) (ok : IsSoundScope p s) where
  mutual
    stand-expr : (e : tree.ExprTree) → AllStand p (expr_notes s e)
    stand-expr (tree.Number n) = tt
    stand-expr (tree.Wide n) = tt
    stand-expr (tree.Place t) = stand-place role.Value t
    stand-expr (tree.ExprTree.Call f args) = (ok, stand-args args)
    stand-expr (tree.Paren e) = stand-expr e
    stand-expr (tree.Unary op m e) = stand-expr e
    stand-expr (tree.Chain l first links) = all-stand p (expr_notes s first) (links_notes s links) (stand-expr first) (stand-links links)
    stand-expr (tree.Choice c a b) =
        all-stand p (expr_notes s c ++ expr_notes s a) (expr_notes s b) (all-stand p (expr_notes s c) (expr_notes s a) (stand-expr c) (stand-expr a))
        (stand-expr b)

    stand-place : (r : Role) (t : tree.TargetTree) → AllStand p (place_notes s r t)
    stand-place r (tree.Variable n) = (ok, tt)
    stand-place r (tree.Element n m e) = (ok, stand-expr e)

    stand-args : (es : tree.Args) → AllStand p (args_notes s es)
    stand-args tree.no_args = tt
    stand-args (tree.arg e es) = all-stand p (expr_notes s e) (args_notes s es) (stand-expr e) (stand-args es)

    stand-links : (ls : tree.Links) → AllStand p (links_notes s ls)
    stand-links tree.no_links = tt
    stand-links (tree.link op m e rest) = all-stand p (expr_notes s e) (links_notes s rest) (stand-expr e) (stand-links rest)

  stand-value : (o : Option tree.ExprTree) → AllStand p (value_notes s o)
  stand-value None = tt
  stand-value (Some e) = stand-expr e

  stand-index : (o : Option tree.IndexTree) → AllStand p (index_notes s o)
  stand-index None = tt
  stand-index (Some i) = stand-expr i.value

  stand-change : (c : tree.ChangeTree) → AllStand p (change_notes s c)
  stand-change (tree.Set t a m e) = all-stand p (place_notes s role.Changed t) (expr_notes s e) (stand-place role.Changed t) (stand-expr e)
  stand-change (tree.After t step m) = stand-place role.Changed t
  stand-change (tree.Before t step m) = stand-place role.Changed t

  stand-step : (o : Option tree.ChangeTree) → AllStand p (step_notes s o)
  stand-step None = tt
  stand-step (Some c) = stand-change c

  stand-window : (before : List ℕ) (stream : tree.TargetTree) (w : Option tree.JoinTree) → AllStand p (window_notes s before stream w)
  stand-window before stream None = (tt, tt)
  stand-window before stream (Some j) = (tt, (ok, stand-index j.burst))

  stand-member : (before : List ℕ) (part : ClauseMember) → AllStand p (member_notes s before part)
  stand-member before (Item d i) =
      all-stand p (place_notes s (role.Flow d) i.stream) (window_notes s before i.stream i.window) (stand-place (role.Flow d) i.stream)
      (stand-window before i.stream i.window)
  stand-member before (Private n) = (tt, (ok, tt))

  stand-members : (before : List ℕ) (ps : List ClauseMember) → AllStand p (members_notes s before ps)
  stand-members before [] = tt
  stand-members before (part ∷ ps) =
      let again = (member_name part).id ∷ before in
      all-stand p (member_notes s before part) (members_notes s again ps) (stand-member before part) (stand-members again ps)

pub not-false : (a : Bool) → not a ≡ false → a ≡ true
not-false true h = refl
not-false false h = absurd (cc)

size-there : (told : Option ℤ) → is_size told ≡ true → (v : ℤ) × (told ≡ Some v)
size-there None h = absurd (cc)
size-there (Some v) h = (v, refl)

constant-there : (o : Option Entity) (v : ℤ) → constant_of o ≡ Some v → o ≡ Some (entity.Constant v)
constant-there None v h = absurd (cc)
constant-there (Some (entity.Constant x)) v h = let e : x ≡ v = cc in ap (λ y. Some (entity.Constant y)) e
constant-there (Some (entity.Function n k)) v h = absurd (cc)
constant-there (Some (entity.Scalar n)) v h = absurd (cc)
constant-there (Some (entity.Control n)) v h = absurd (cc)
constant-there (Some entity.InputLength) v h = absurd (cc)
constant-there (Some (entity.Array n k)) v h = absurd (cc)
constant-there (Some (entity.Window n)) v h = absurd (cc)
constant-there (Some (entity.Stream n)) v h = absurd (cc)
constant-there (Some (entity.Streams n k)) v h = absurd (cc)
constant-there (Some (entity.Element n x)) v h = absurd (cc)
constant-there (Some (entity.View n x)) v h = absurd (cc)

module _ (p : tree.ProgramTree) (s : Scope) (ok : IsSoundScope p s) where
  stand-size : (e : tree.ExprTree) → (v : ℤ) × (size_value s e ≡ Some v) → AllStand p (size_notes s e)
  stand-size (tree.Number n) h = tt
  stand-size (tree.Wide n) h = tt
  stand-size (tree.Place (tree.Variable n)) h =
      let there = constant-there (entity_of (lookup s.entries n.id)) h.0 h.1 in
      ((ok, record { value = h.0; there = there; declared = ok.known n.id (entity.Constant h.0) there }), tt)
  stand-size (tree.Place (tree.Element n m e)) h = tt
  stand-size (tree.ExprTree.Call f args) h = tt
  stand-size (tree.Paren e) h = tt
  stand-size (tree.Unary op m e) h = tt
  stand-size (tree.Chain l first links) h = tt
  stand-size (tree.Choice c a b) h = tt

  -- outside windows
  size-told : (o : Owner) (stream : Bool) (i : tree.IndexTree) →
      has_no_size (form_with (record s { owner = o }) stream (Some i)) (size_told s (Some i)) ≡ false →
      (is_window o && not stream) ≡ false → (v : ℤ) × (size_value s i.value ≡ Some v)
  size-told owner.OfMain false i h w = absurd (cc)
  size-told owner.OfMain true i h w = size-there (size_value s i.value) (not-false (is_size (size_value s i.value)) h)
  size-told owner.OfFunction false i h w = size-there (size_value s i.value) (not-false (is_size (size_value s i.value)) h)
  size-told owner.OfFunction true i h w = size-there (size_value s i.value) (not-false (is_size (size_value s i.value)) h)
  size-told owner.OfTask false i h w = size-there (size_value s i.value) (not-false (is_size (size_value s i.value)) h)
  size-told owner.OfTask true i h w = size-there (size_value s i.value) (not-false (is_size (size_value s i.value)) h)

  stand-sized : (stream : Bool) (o : Option tree.IndexTree) → has_no_size (form_with s stream o) (size_told s o) ≡ false → AllStand p (sized_notes s stream o)
  stand-sized stream None h = tt
  stand-sized stream (Some i) h = by_case (is_window s.owner && not stream) refl
    where
      by_case : (t : Bool) → (is_window s.owner && not stream) ≡ t → AllStand p (if t then expr_notes s i.value else size_notes s i.value)
      by_case true w = stand-expr p s ok i.value
      by_case false w = stand-size i.value (size-told s.owner stream i h w)

  named-size : (e : tree.ExprTree) → (v : ℤ) × (size_value s e ≡ Some v) → unwrap_or (size_of s e) 0 ≡ size_in p e
  named-size (tree.Number n) h = refl
  named-size (tree.Wide n) h = refl
  named-size (tree.Place (tree.Variable n)) h =
      let there = constant-there (entity_of (lookup s.entries n.id)) h.0 h.1 in
      ap (λ (o : Option Entity). unwrap_or (limited (constant_of o)) 0) (there ∙ sym (ok.known n.id (entity.Constant h.0) there))
  named-size (tree.Place (tree.Element n m e)) h = refl
  named-size (tree.ExprTree.Call f args) h = refl
  named-size (tree.Paren e) h = refl
  named-size (tree.Unary op m e) h = refl
  named-size (tree.Chain l first links) h = refl
  named-size (tree.Choice c a b) h = refl

  has-size : (stream : Bool) (o : Option tree.IndexTree) → has_no_size (form_with s stream o) (size_told s o) ≡ false → HasSize (size_in p) s o
  has-size stream None h = tt
  has-size stream (Some i) h = by_owner s.owner h
    where
      by_owner : (o : Owner) → has_no_size (form_with (record s { owner = o }) stream (Some i)) (size_told s (Some i)) ≡ false →
          IsArraySize o (unwrap_or (size_of s i.value) 0) (size_in p i.value)
      by_owner owner.OfMain h = tt
      by_owner owner.OfFunction h = named-size i.value (size-told owner.OfFunction stream i h refl)
      by_owner owner.OfTask h = named-size i.value (size-told owner.OfTask stream i h refl)

-- Statements, in a program with at least `top` streams besides the input and the output.
module _ (p : tree.ProgramTree) (top : ℕ) (few : 2 + top ≤ streams p) where
  sound-below : (s : Scope) → s.streams ≤ top → Holds p s → IsSoundScope p s
  sound-below s below h = sound p s (omega (arith, below, few)) h

  stand-declarators : (s : Scope) (ds : List tree.DeclaratorTree) → Holds p s → (after_declarators s ds).streams ≤ top → AreLawful (declarators_notes s ds) →
      AllStand p (declarators_notes s ds)
  stand-declarators s [] h below k = tt
  stand-declarators s (d ∷ ds) h below k =
      let after = after_declarator s d in
      let behind = holds-declarator p s d h in
      let more = grow_declarators after ds in
      let ok = sound-below s (omega (arith, below, more, grow_taken s (form s d))) h in
      let own = lawful-first (declarator_notes s d) (declarators_notes after ds) k in
      let size = or-first (has_no_size (form s d) (size_told s d.size)) (has_too_many after (form s d)) own.0.1.1.1.1.1.0 in
      all-stand p (declarator_notes s d) (declarators_notes after ds) (
        (ok, has-size p s ok d.stream d.size size),
        all-stand p (sized_notes s d.stream d.size) (value_notes after d.first) (stand-sized p s ok d.stream d.size size)
            (stand-value p after (sound-below after (omega (arith, below, more)) behind) d.first),
      )
      (stand-declarators after ds behind below (lawful-rest (declarator_notes s d) (declarators_notes after ds) k))

  stand-start : (s : Scope) (t : tree.StartTree) → Holds p s → (after_start s t).streams ≤ top → AreLawful (start_notes s t) → AllStand p (start_notes s t)
  stand-start s tree.StartTree.Empty h below k = tt
  stand-start s (tree.StartTree.Declare t ds) h below k = stand-declarators (typed t s) ds (holds-typed p t s h) below k
  stand-start s (tree.StartTree.Change c) h below k = stand-change p s (sound-below s below h) c

  in-main : (o : Owner) → is_main_body o ≡ true → o ≡ owner.OfMain
  in-main owner.OfMain h = refl
  in-main owner.OfFunction h = absurd (cc)
  in-main owner.OfTask h = absurd (cc)

  mutual
    stand-stmt : {a : tree.StmtTree} → IsStmt a → (s : Scope) → Holds p s → (after_stmt s a).streams ≤ top → AreLawful (stmt_notes s a) →
        AllStand p (stmt_notes s a)
    stand-stmt IsStmt.empty s h below k = tt
    stand-stmt (IsStmt.block is) s h below k = stand-stmts is (enter s) (holds-enter p s h) below k
    stand-stmt (IsStmt.change {c = c} _) s h below k = stand-change p s (sound-below s below h) c
    stand-stmt (IsStmt.call {f = f} {args = args} _) s h below k = let ok = sound-below s below h in (ok, stand-args p s ok args)
    stand-stmt (IsStmt.if_alone {c = c} {a = a} _ is) s h below k =
        let ok = sound-below s (omega (arith, below, grow_stmt s a)) h in
        all-stand p (expr_notes s c) (stmt_notes s a) (stand-expr p s ok c) (stand-stmt is s h below (lawful-rest (expr_notes s c) (stmt_notes s a) k))
    stand-stmt (IsStmt.if_else {c = c} {a = a} {b = b} _ is _ is2) s h below k =
        let after = after_stmt s a in
        let front = expr_notes s c ++ stmt_notes s a in
        let first : after.streams ≤ top = omega (arith, below, grow_stmt after b) in
        let ok = sound-below s (omega (arith, first, grow_stmt s a)) h in
        let one = lawful-first front (stmt_notes after b) k in
        all-stand p front (stmt_notes after b)
        (all-stand p (expr_notes s c) (stmt_notes s a) (stand-expr p s ok c) (stand-stmt is s h first (lawful-rest (expr_notes s c) (stmt_notes s a) one)))
        (stand-stmt is2 after (holds-stmt p is s h) below (lawful-rest front (stmt_notes after b) k))
    stand-stmt (IsStmt.while {c = c} {s = a} _ is) s h below k =
        let ok = sound-below s (omega (arith, below, grow_stmt (in_loop s) a)) h in
        all-stand p (expr_notes s c) (stmt_notes (in_loop s) a) (stand-expr p s ok c)
        (stand-stmt is (in_loop s) (holds-in_loop p s h) below (lawful-rest (expr_notes s c) (stmt_notes (in_loop s) a) k))
    stand-stmt (IsStmt.for {start = start} {test = test} {step = step} {s = a} _ _ _ is) s h below k =
        let head = after_start (enter s) start in
        let at_head = holds-start p (enter s) start (holds-enter p s h) in
        let first = start_notes (enter s) start in
        let second = value_notes head test in
        let third = step_notes head step in
        let last = stmt_notes (in_loop head) a in
        let low : head.streams ≤ top = omega (arith, below, grow_stmt (in_loop head) a) in
        let ok = sound-below head low at_head in
        let heads = lawful-first first second (lawful-first (first ++ second) third (lawful-first (first ++ second ++ third) last k)) in
        all-stand p (first ++ second ++ third) last
        (all-stand p (first ++ second) third (all-stand p first second (stand-start (enter s) start (holds-enter p s h) low heads)
        (stand-value p head ok test)) (stand-step p head ok step))
        (stand-stmt is (in_loop head) (holds-in_loop p head at_head) below (lawful-rest (first ++ second ++ third) last k))
    stand-stmt IsStmt.break s h below k = (sound-below s below h, tt)
    stand-stmt IsStmt.continue s h below k = (sound-below s below h, tt)
    stand-stmt (IsStmt.return {e = e} _) s h below k = let ok = sound-below s below h in (ok, stand-expr p s ok e)
    stand-stmt (IsStmt.task {m = m} {cs = cs} {s = a} _ is) s h below k =
        let ps = members cs in
        let inner = in_task_body s ps a in
        let round = in_task s (captured_in s.owner (slots_of (captured s.entries ps a))) in
        let note = Task s m (count_items ps) (captured s.entries ps a) ∷ [] in
        let front = members_notes s [] ps in
        let start = lawful-rest front note (lawful-first (clauses_notes s m ps a) (stmt_notes inner a) k) in
        let main : s.owner ≡ owner.OfMain = in-main s.owner (not-false (is_main_body s.owner) start.0.1.1.1.1.1.1.1.0) in
        let ok = sound-below s (omega (arith, below, grow_stmt inner a, streams_items s round 0 ps)) h in
        all-stand p (clauses_notes s m ps a) (stmt_notes inner a)
        (all-stand p front note (stand-members p s ok [] ps) (ok, tt))
        (stand-stmt is inner (holds-task p s ps a main h) below (lawful-rest (clauses_notes s m ps a) (stmt_notes inner a) k))
    stand-stmt (IsStmt.tick {m = m} {t = t} {e = e} _ _) s h below k =
        let ok = sound-below s below h in (
          ok,
          all-stand p (place_notes s (role.Flow direction.Reads) t) (expr_notes s e) (stand-place p s ok (role.Flow direction.Reads) t)
              (stand-expr p s ok e),
        )
    stand-stmt IsStmt.taskwait s h below k = (sound-below s below h, tt)

    stand-stmts : {ss : tree.Stmts} → AreStmts ss → (s : Scope) → Holds p s → (after_stmts s ss).streams ≤ top → AreLawful (stmts_notes s ss) →
        AllStand p (stmts_notes s ss)
    stand-stmts AreStmts.no_stmts s h below k = tt
    stand-stmts (AreStmts.declare {t = t} {ds = ds} {ss = ss} _ rest) around known below k =
        let s = typed t around in
        let h = holds-typed p t around known in
        let after = after_declarators s ds in
        all-stand p (declarators_notes s ds) (stmts_notes after ss)
        (stand-declarators s ds h (omega (arith, below, grow_stmts after ss)) (lawful-first (declarators_notes s ds) (stmts_notes after ss) k))
        (stand-stmts rest after (holds-declarators p s ds h) below (lawful-rest (declarators_notes s ds) (stmts_notes after ss) k))
    stand-stmts (AreStmts.stmt {s = a} {ss = ss} is rest) s h below k =
        let after = after_stmt s a in
        all-stand p (stmt_notes s a) (stmts_notes after ss)
        (stand-stmt is s h (omega (arith, below, grow_stmts after ss)) (lawful-first (stmt_notes s a) (stmts_notes after ss) k))
        (stand-stmts rest after (holds-stmt p is s h) below (lawful-rest (stmt_notes s a) (stmts_notes after ss) k))

  stand-params : (s : Scope) (ns : List Param) → Holds p s → s.streams ≤ top → AllStand p (params_notes s ns)
  stand-params s [] h below = tt
  stand-params s (n ∷ ns) h below = (sound-below s below h, stand-params (after_param s n) ns (holds-param p s n h) below)

-- Items, where the names `before` are declared before them.
or-false : (a b : Bool) → a ≡ false → b ≡ false → (a || b) ≡ false
or-false true b h k = absurd (cc)
or-false false b h k = k

or-parts : (a b : Bool) → (a || b) ≡ false → (a ≡ false) × (b ≡ false)
or-parts true b h = absurd (cc)
or-parts false b h = (refl, h)

-- what the program's items declare under other names is what these declare
abbrev AreLeft : tree.ProgramTree → (before : List ℕ) → ℕ → List tree.ItemTree → Type 0
AreLeft p before number is = (id : ℕ) → is_in id before ≡ false → global p id ≡ global_behind number is id

left-constant : (p : tree.ProgramTree) (before : List ℕ) (number : ℕ) (c : ConstantItem) (is : List tree.ItemTree) →
    AreLeft p before number (tree.Constant c ∷ is) →
    AreLeft p (c.name.id ∷ before) number is
left-constant p before number c is left id out =
    let parts = or-parts (c.name.id == id) (is_in id before) out in
    left id parts.1 ∙ ap (λ (t : Bool). if t then Some (entity.Constant (constant_value c)) else global_behind number is id) parts.0

left-function : (p : tree.ProgramTree) (before : List ℕ) (number : ℕ) (f : tree.FunctionTree) (is : List tree.ItemTree) →
    AreLeft p before number (tree.Function f ∷ is) →
    AreLeft p (f.name.id ∷ before) (suc number) is
left-function p before number f is left id out =
    let parts = or-parts (f.name.id == id) (is_in id before) out in
    left id parts.1 ∙ ap (λ (t : Bool). if t then Some (entity.Function number (length (param_list f.params))) else global_behind (suc number) is id) parts.0

module _ (p : tree.ProgramTree) (top : ℕ) (few : 2 + top ≤ streams p) where
  -- what is known of the file's scope
  record InFile (s : Scope) (before : List ℕ) (is : List tree.ItemTree) : Type 0 where
    holds : Holds p s
    own : s.owner ≡ owner.OfFunction
    none : AreSlotless s.entries
    left : AreLeft p before s.functions is

  body-holds : (s : Scope) (f : tree.FunctionTree) → AreSlotless s.entries → Holds p s → Holds p (in_body s f)
  body-holds s f none h =
      holds-params p (in_function s f.name.id) (param_list f.params) (holds-inside p (owner_of f.name.id) s none h)

  constant-in : (s : Scope) (before : List ℕ) (c : ConstantItem) (is : List tree.ItemTree) → is_in c.name.id before ≡ false →
      InFile s before (tree.Constant c ∷ is) →
      InFile (after_item s (tree.Constant c)) (c.name.id ∷ before) is
  constant-in s before c is out h =
      let v = constant_value c in
      let new : global p c.name.id ≡ Some (entity.Constant v) =
      h.left c.name.id out ∙ ap (λ (t : Bool). if t then Some (entity.Constant v) else global_behind s.functions is c.name.id)
      (eq-eqb c.name.id c.name.id refl) in
      record {
        holds = holds-declared p (typed c.ty s) c.name.id (entity.Constant v) (holds-typed p c.ty s h.holds) new
            (subst (λ (o : Owner). Stacked (extent_in o) s.slots (after_item s (tree.Constant c)).entries) (sym h.own)
            (stacked-free s.slots c.name.id s.depth (entity.Constant v) (is_unsigned c.ty) s.entries refl
            (subst (λ (o : Owner). Stacked (extent_in o) s.slots s.entries) h.own h.holds.stacked)))
            (λ is. refl);
        own = h.own;
        none = (record { unit = refl; main = refl }, h.none);
        left = left-constant p before s.functions c is h.left;
      }

  function-in : (s : Scope) (before : List ℕ) (f : tree.FunctionTree) (is : List tree.ItemTree) → is_in f.name.id before ≡ false →
      InFile s before (tree.Function f ∷ is) →
      InFile (after_item s (tree.Function f)) (f.name.id ∷ before) is
  function-in s before f is out h =
      let inner = after_stmts (in_body s f) f.body in
      let count : inner.functions ≡ s.functions = functions_stmts (in_body s f) f.body ∙ functions_in_body s f in
      let params = length (param_list f.params) in
      let next = typed f.ty (record s { functions = inner.functions + 1; streams = inner.streams; arrays = inner.arrays }) in
      let new : global p f.name.id ≡ Some (entity.Function inner.functions params) =
      h.left f.name.id out
      ∙ ap (λ (t : Bool). if t then Some (entity.Function s.functions params) else global_behind (suc s.functions) is f.name.id)
      (eq-eqb f.name.id f.name.id refl)
      ∙ ap (λ (n : ℕ). Some (entity.Function n params)) (sym count) in
      let at_next : Holds p next = holds-on p s next refl refl (omega (arith, count)) (omega arith)
      (omega (arith, streams_in_body s f, grow_stmts (in_body s f) f.body)) h.holds in
      let e = entity.Function inner.functions params in
      let declared : Holds p (declare next f.name.id e) = holds-declared p next f.name.id e at_next (new, omega arith)
      (subst (λ (o : Owner). Stacked (extent_in o) s.slots (declare next f.name.id e).entries) (sym h.own)
      (stacked-free s.slots f.name.id s.depth e (is_unsigned f.ty) s.entries refl (subst (λ (o : Owner). Stacked (extent_in o) s.slots s.entries) h.own h.holds.stacked)))
      (λ is. refl) in
      let after = after_item s (tree.Function f) in
      record {
        holds = holds-on p (declare next f.name.id e) after refl refl (omega arith) (omega arith) (omega arith) declared;
        own = h.own;
        none = (record { unit = refl; main = refl }, h.none);
        left = subst (λ (n : ℕ). AreLeft p (f.name.id ∷ before) n is) (omega (arith, count)) (left-function p before s.functions f is h.left);
      }

  stand-items : (is : List tree.ItemTree) (s : Scope) (before : List ℕ) → AreAll IsItem is → InFile s before is → AreApart before is →
      (after_items s is).streams ≤ top → AreLawful (items_notes s is) → AllStand p (items_notes s is)
  stand-items [] s before leveled h apart below k = tt
  stand-items (tree.Constant c ∷ is) s before (cons _ leveled) h apart below k =
      let after = after_item s (tree.Constant c) in
      let ok = sound-below p top few s (omega (arith, below, grow_items after is)) h.holds in
      (ok, stand-items is after (c.name.id ∷ before) leveled (constant-in s before c is apart.0 h) apart.1 below k.1)
  stand-items (tree.Function f ∷ is) s before (cons (IsItem.function _ body) leveled) h apart below k =
      let i = tree.Function f in
      let after = after_item s i in
      let inside = in_body s f in
      let given = params_notes (in_function s f.name.id) (param_list f.params) in
      let low : (after_stmts inside f.body).streams ≤ top = omega (arith, below, grow_items after is) in
      let first : s.streams ≤ top = omega (arith, low, grow_stmts inside f.body, streams_in_body s f) in
      let own = lawful-first (item_notes s i) (items_notes after is) k in
      all-stand p (item_notes s i) (items_notes after is) (
        sound-below p top few s first h.holds,
        all-stand p given (stmts_notes inside f.body)
            (stand-params p top few (in_function s f.name.id) (param_list f.params) (holds-inside p (owner_of f.name.id) s h.none h.holds)
            (round-low (owner_of f.name.id) s first))
            (stand-stmts p top few body inside (body-holds s f h.none h.holds) low (lawful-rest given (stmts_notes inside f.body) own.1)),
      )
      (stand-items is after (f.name.id ∷ before) leveled (function-in s before f is apart.0 h) apart.1 below
      (lawful-rest (item_notes s i) (items_notes after is) k))
    where
      round-low : (o : Owner) (s : Scope) → s.streams ≤ top → (inside o s).streams ≤ top
      round-low owner.OfMain s h = h
      round-low owner.OfFunction s h = h
      round-low owner.OfTask s h = h

-- what stands in a lawful program
all-in : (p : tree.ProgramTree) → IsLeveled p → violations p ≡ [] → AllStand p (program_notes p)
all-in p leveled none =
    let lawful = lawful-program p none in
    stand-items p (after_items file p).streams (omega arith) p file [] leveled.items (record {
      holds = record { known = λ id e is. absurd (cc); stacked = tt; bare = λ is. absurd (cc) };
      own = refl;
      none = tt;
      left = λ id out. refl;
    })
    (distinct-program p lawful) (omega arith) lawful

pub stands-in : (p : tree.ProgramTree) (n : Note) → IsLeveled p → violations p ≡ [] → Contains (program_notes p) n → Stands p n
stands-in p n leveled none there = stands-among p (program_notes p) n (all-in p leveled none) there

pub sizes-in : (p : tree.ProgramTree) → IsLeveled p → violations p ≡ [] → HasSizes (size_in p) (program_notes p)
sizes-in p leveled none = all-sized p (program_notes p) (all-in p leveled none)
