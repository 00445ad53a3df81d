-- Tasks are numbered in the order of the text: no two PragmaStarts have one place.
use Rattle.std.proofs.Common.{◌≡◌, ℕ, zero, suc, ◌+◌, ◌<◌, ◌≤◌, ◌==◌, Bool, true, false, if◌then◌else◌, List, [], ◌∷◌, ◌++◌, length, get_or, Option, Some, None, slice_get, ap, subst, sym, refl, arith, append_assoc}
use Rattle.std.specs.Prelude.{⊤}
use Rattle.std.specs.List.{position_or_len}
use Rattle.std.proofs.lemmas.Bool.{ne_eqb, eq-eqb, lt-ltb}
use Rattle.std.proofs.lemmas.List.Sums.{position_or_len_is}
use Rattle.std.proofs.lemmas.Option.{slice_get_within}
use Rattle.os_ast.proofs.Prints.{prints_expr, prints_stmt, prints_item}
use Rattle.os_ast.specs.Marks.{HasMark, HasPlaces}
use Rattle.os_ast.specs.Names.{main_id}
use Rattle.os_ast.specs.Operators.{assign_mark, step_mark}
use Rattle.os_ast.specs.Spelling as spelling
use Rattle.os_ast.specs.Spelling.{Symbol, bare, marked, symbols, ◌⨾◌}
use Rattle.os_ast.specs.Trees as tree
use Rattle.os_ast.specs.declared.expr.Mark.{Mark}
use Rattle.os_ast.specs.declared.program.Param.{Param}
use Rattle.os_ast.specs.declared.program.Params.{Params}
use Rattle.os_ast.specs.declared.program.Params.TheVariants as params_of
use Rattle.os_ast.specs.declared.ty.Ty.{Ty}
use Rattle.os_ast.specs.declared.ty.Ty.TheVariants as ty_of
use Rattle.os_lexer.specs.declared.token.Key.TheVariants as keys
use Rattle.os_lexer.specs.declared.token.Kind.{Kind}
use Rattle.os_lexer.specs.declared.token.Kind.TheVariants as kind
use Rattle.os_lexer.specs.declared.token.Punct.TheVariants as puncts
use Rattle.lowering_relation.specs.Tasks.{TaskTree, tasks_of, all_tasks_of, program_tasks, task_index}

-- the PragmaStarts of these tasks stand among symbols, in order
data Among : List TaskTree → List Symbol → Type 0 where
  none : {ps : List Symbol} → Among [] ps
  skip : {ts : List TaskTree} {p : Symbol} {ps : List Symbol} → Among ts ps → Among ts (p ∷ ps)
  take : {t : TaskTree} {ts : List TaskTree} {k : Kind} {ps : List Symbol} → Among ts ps → Among (t ∷ ts) (marked k t.mark ∷ ps)

among_behind : (front : List Symbol) {ts : List TaskTree} {ps : List Symbol} → Among ts ps → Among ts (front ++ ps)
among_behind [] h = h
among_behind (p ∷ front) h = skip (among_behind front h)

-- an expression, and a statement of which no task is told
past_expr : (e : tree.ExprTree) (rest : List Symbol) (ts : List TaskTree) → Among ts rest → Among ts (spelling.expr e rest)
past_expr e rest ts h = subst (Among ts) (sym ((prints_expr e).in_front rest)) (among_behind (spelling.expr e []) h)

past_stmt : (a : tree.StmtTree) (rest : List Symbol) (ts : List TaskTree) → Among ts rest → Among ts (spelling.stmt a rest)
past_stmt a rest ts h = subst (Among ts) (sym ((prints_stmt a).in_front rest)) (among_behind (spelling.stmt a []) h)

past_item : (i : tree.ItemTree) (rest : List Symbol) (ts : List TaskTree) → Among ts rest → Among ts (spelling.item i rest)
past_item i rest ts h = subst (Among ts) (sym ((prints_item i).in_front rest)) (among_behind (spelling.item i []) h)

past_test : (test : Option tree.ExprTree) (rest : List Symbol) (ts : List TaskTree) → Among ts rest → Among ts (spelling.optional spelling.expr test rest)
past_test None rest ts h = h
past_test (Some e) rest ts h = past_expr e rest ts h

past_change : (c : tree.ChangeTree) (rest : List Symbol) (ts : List TaskTree) → Among ts rest → Among ts (spelling.change c rest)
past_change (tree.Set t a m e) rest ts h =
    past_expr (tree.Place t) (spelling.punct_at (assign_mark a) m (spelling.expr e rest)) ts (skip (past_expr e rest ts h))
past_change (tree.After t s m) rest ts h = past_expr (tree.Place t) (spelling.punct_at (step_mark s) m rest) ts (skip h)
past_change (tree.Before t s m) rest ts h = skip (past_expr (tree.Place t) rest ts h)

past_step : (c : Option tree.ChangeTree) (rest : List Symbol) (ts : List TaskTree) → Among ts rest → Among ts (spelling.optional spelling.change c rest)
past_step None rest ts h = h
past_step (Some c) rest ts h = past_change c rest ts h

past_start : (t : tree.StartTree) (rest : List Symbol) (ts : List TaskTree) → Among ts rest → Among ts (spelling.start t rest)
past_start tree.StartTree.Empty rest ts h = skip h
past_start (tree.StartTree.Declare ty ds) rest ts h = past_stmt (tree.StmtTree.Declare ty ds) rest ts h
past_start (tree.StartTree.Change c) rest ts h = past_change c (spelling.punct puncts.Semicolon rest) ts (skip h)

past_type : (t : Ty) (rest : List Symbol) (ts : List TaskTree) → Among ts rest → Among ts (spelling.type_words t rest)
past_type ty_of.Int rest ts h = skip h
past_type ty_of.Unsigned rest ts h = skip h
past_type ty_of.UnsignedInt rest ts h = skip (skip h)

abbrev further : List Param → List Symbol → List Symbol
further ps rest = spelling.each (λ p. spelling.punct puncts.Comma ⨾ spelling.param p) ps rest

more_params : (ps : List Param) (rest : List Symbol) (ts : List TaskTree) → Among ts rest → Among ts (further ps rest)
more_params [] rest ts h = h
more_params (p ∷ ps) rest ts h = skip (past_type p.ty (spelling.name p.name (further ps rest)) ts (skip (more_params ps rest ts h)))

past_params : (ps : Params) (rest : List Symbol) (ts : List TaskTree) → Among ts rest → Among ts (spelling.params ps rest)
past_params params_of.Empty rest ts h = h
past_params params_of.Void rest ts h = skip h
past_params (params_of.Names []) rest ts h = h
past_params (params_of.Names (p ∷ ps)) rest ts h = past_type p.ty (spelling.name p.name (further ps rest)) ts (skip (more_params ps rest ts h))

-- a task, whose PragmaStart is its first symbol
abbrev tail_of : List Symbol → List Symbol
tail_of [] = []
tail_of (p ∷ ps) = ps

past_task : (m : Mark) (cs : List tree.ClauseTree) (a : tree.StmtTree) (t : TaskTree) (rest : List Symbol) (ts : List TaskTree) → t.mark ≡ m → Among ts rest →
    Among (t ∷ ts) (spelling.stmt (tree.Task m cs a) rest)
past_task m cs a t rest ts is h =
    subst (Among (t ∷ ts)) (sym ((prints_stmt (tree.Task m cs a)).in_front rest))
    (subst (λ mark. Among (t ∷ ts) (marked kind.PragmaStart mark ∷ tail_of (spelling.stmt (tree.Task m cs a) []) ++ rest)) is
    (take (among_behind (tail_of (spelling.stmt (tree.Task m cs a) [])) h)))

mutual
  among_stmt : (a : tree.StmtTree) (rest : List Symbol) (ts : List TaskTree) → Among ts rest → Among (tasks_of a ++ ts) (spelling.stmt a rest)
  among_stmt tree.StmtTree.Empty rest ts h = skip h
  among_stmt (tree.Block ss) rest ts h = skip (among_stmts ss (spelling.punct puncts.CloseBrace rest) ts (skip h))
  among_stmt (tree.StmtTree.Declare ty ds) rest ts h = past_stmt (tree.StmtTree.Declare ty ds) rest ts h
  among_stmt (tree.StmtTree.Change c) rest ts h = past_stmt (tree.StmtTree.Change c) rest ts h
  among_stmt (tree.StmtTree.Call f args) rest ts h = past_stmt (tree.StmtTree.Call f args) rest ts h
  among_stmt (tree.If c a) rest ts h =
      skip (skip (past_expr c (spelling.punct puncts.CloseParen (spelling.stmt a rest)) (tasks_of a ++ ts) (skip (among_stmt a rest ts h))))
  among_stmt (tree.IfElse c a b) rest ts h =
      let second = spelling.key keys.Else (spelling.stmt b rest) in
      subst (λ us. Among us (spelling.stmt (tree.IfElse c a b) rest)) (sym (append_assoc (tasks_of a) (tasks_of b) ts))
      (skip (skip (past_expr c (spelling.punct puncts.CloseParen (spelling.stmt a second)) (tasks_of a ++ (tasks_of b ++ ts))
      (skip (among_stmt a second (tasks_of b ++ ts) (skip (among_stmt b rest ts h)))))))
  among_stmt (tree.While c a) rest ts h =
      skip (skip (past_expr c (spelling.punct puncts.CloseParen (spelling.stmt a rest)) (tasks_of a ++ ts) (skip (among_stmt a rest ts h))))
  among_stmt (tree.For start test step a) rest ts h =
      let body = spelling.punct puncts.CloseParen (spelling.stmt a rest) in
      let steps = spelling.optional spelling.change step body in
      let tests = spelling.optional spelling.expr test (spelling.punct puncts.Semicolon steps) in
      let us = tasks_of a ++ ts in
      skip (skip (past_start start tests us
      (past_test test (spelling.punct puncts.Semicolon steps) us (skip (past_step step body us (skip (among_stmt a rest ts h)))))))
  among_stmt (tree.Break m) rest ts h = past_stmt (tree.Break m) rest ts h
  among_stmt (tree.Continue m) rest ts h = past_stmt (tree.Continue m) rest ts h
  among_stmt (tree.Return m e) rest ts h = past_stmt (tree.Return m e) rest ts h
  among_stmt (tree.Task m cs a) rest ts h = past_task m cs a _ rest ts refl h
  among_stmt (tree.Tick m t arrow e) rest ts h = past_stmt (tree.Tick m t arrow e) rest ts h
  among_stmt (tree.Taskwait m) rest ts h = past_stmt (tree.Taskwait m) rest ts h

  among_stmts : (ss : tree.Stmts) (rest : List Symbol) (ts : List TaskTree) → Among ts rest → Among (all_tasks_of ss ++ ts) (spelling.stmts ss rest)
  among_stmts tree.no_stmts rest ts h = h
  among_stmts (tree.stmt a ss) rest ts h =
      subst (λ us. Among us (spelling.stmts (tree.stmt a ss) rest)) (sym (append_assoc (tasks_of a) (all_tasks_of ss) ts))
      (among_stmt a (spelling.stmts ss rest) (all_tasks_of ss ++ ts) (among_stmts ss rest ts h))

append_none : (ts : List TaskTree) → ts ++ [] ≡ ts
append_none [] = refl
append_none (t ∷ ts) = ap (λ us. t ∷ us) (append_none ts)

-- the tasks of a function, and those of a program
among_function : (f : tree.FunctionTree) (rest : List Symbol) → Among (all_tasks_of f.body) (spelling.item (tree.Function f) rest)
among_function f rest =
    let body = spelling.stmts f.body (spelling.punct puncts.CloseBrace rest) in
    let behind = spelling.punct puncts.CloseParen (spelling.punct puncts.OpenBrace body) in
    let inner : Among (all_tasks_of f.body) body =
    subst (λ us. Among us body) (append_none (all_tasks_of f.body)) (among_stmts f.body (spelling.punct puncts.CloseBrace rest) [] none) in
    past_type f.ty (spelling.name f.name (spelling.punct puncts.OpenParen (spelling.params f.params behind))) (all_tasks_of f.body)
    (skip (skip (past_params f.params behind (all_tasks_of f.body) (skip (skip inner)))))

among_program : (is : List tree.ItemTree) → Among (program_tasks is) (spelling.each spelling.item is [])
among_program [] = none
among_program (tree.Constant c ∷ is) = past_item (tree.Constant c) (spelling.each spelling.item is []) (program_tasks is) (among_program is)
among_program (tree.Function f ∷ is) = by_case (f.name.id == main_id) (among_program is)
  where
    all : List Symbol
    all = spelling.item (tree.Function f) (spelling.each spelling.item is [])

    by_case : (t : Bool) → Among (program_tasks is) (spelling.each spelling.item is []) → Among (if t then all_tasks_of f.body else program_tasks is) all
    by_case true more = among_function f (spelling.each spelling.item is [])
    by_case false more = past_item (tree.Function f) (spelling.each spelling.item is []) (program_tasks is) more

-- tasks whose places ascend, from one place on
abbrev Ascend : ℕ → List TaskTree → Type 0
Ascend lo [] = ⊤
Ascend lo (t ∷ ts) = (lo ≤ t.mark.place) × Ascend (suc t.mark.place) ts

lower : (lo from : ℕ) (ts : List TaskTree) → lo ≤ from → Ascend from ts → Ascend lo ts
lower lo from [] le a = tt
lower lo from (t ∷ ts) le a = (omega (arith, le, a.0), a.1)

-- what stands among symbols that have their places ascends
ascending : (ts : List TaskTree) (ps : List Symbol) (from : ℕ) → ((i : ℕ) (m : Mark) → HasMark ps i m → m.place ≡ from + i) → Among ts ps → Ascend from ts
ascending [] ps from f none = tt
ascending ts (p ∷ ps) from f (skip h) = lower from (suc from) ts (omega arith) (ascending ts ps (suc from) (λ i m is. omega (arith, f (suc i) m is)) h)
ascending (t ∷ ts) (marked k m ∷ ps) from f (take h) =
    let here : t.mark.place ≡ from = omega (arith, f 0 t.mark (k, refl)) in (
      omega (arith, here),
      lower (suc t.mark.place) (suc from) ts (omega (arith, here)) (ascending ts ps (suc from) (λ i q is. omega (arith, f (suc i) q is)) h),
    )

at_least : (lo : ℕ) (ts : List TaskTree) (k : ℕ) (d : TaskTree) → Ascend lo ts → k < length ts → lo ≤ (get_or ts k d).mark.place
at_least lo [] k d a lt = absurd (omega (arith, lt))
at_least lo (t ∷ ts) zero d a lt = a.0
at_least lo (t ∷ ts) (suc k) d a lt = omega (arith, a.0, at_least (suc t.mark.place) ts k d a.1 (omega (arith, lt)))

apart : (lo : ℕ) (ts : List TaskTree) (j k : ℕ) (d : TaskTree) → Ascend lo ts → j < k → k < length ts
    → (get_or ts j d).mark.place < (get_or ts k d).mark.place
apart lo [] j k d a less lt = absurd (omega (arith, lt))
apart lo (t ∷ ts) j zero d a less lt = absurd (omega (arith, less))
apart lo (t ∷ ts) zero (suc k) d a less lt = at_least (suc t.mark.place) ts k d a.1 (omega (arith, lt))
apart lo (t ∷ ts) (suc j) (suc k) d a less lt = apart (suc t.mark.place) ts j k d a.1 (omega (arith, less)) (omega (arith, lt))

get_there : (ts : List TaskTree) (k : ℕ) (t : TaskTree) → slice_get ts k ≡ Some t → get_or ts k t ≡ t
get_there [] k t is = refl
get_there (u ∷ ts) zero t is = cc
get_there (u ∷ ts) (suc k) t is = get_there ts k t is

numbered : (lo : ℕ) (ts : List TaskTree) (k : ℕ) (t : TaskTree) → Ascend lo ts → slice_get ts k ≡ Some t → task_index ts t.mark ≡ Some k
numbered lo ts k t a is =
    let within : k < length ts = slice_get_within ts k t is in
    let here : get_or ts k t ≡ t = get_there ts k t is in
    let first : position_or_len (λ (u : TaskTree). u.mark.place == t.mark.place) ts ≡ k =
    position_or_len_is (λ (u : TaskTree). u.mark.place == t.mark.place) ts k t (omega (arith, within))
    (λ j less. ne_eqb (get_or ts j t).mark.place t.mark.place
    (λ same. absurd (omega (arith, apart lo ts j k t a less within, ap (λ (u : TaskTree). u.mark.place) here, same))))
    (λ below. eq-eqb (get_or ts k t).mark.place t.mark.place (ap (λ (u : TaskTree). u.mark.place) here)) in
    rw (first, lt-ltb k (length ts) within) refl

-- The k-th task of a program has the number k.
pub program_numbered : (p : tree.ProgramTree) → HasPlaces p → (k : ℕ) (t : TaskTree) → slice_get (program_tasks p) k ≡ Some t →
    task_index (program_tasks p) t.mark ≡ Some k
program_numbered p places k t is =
    numbered 0 (program_tasks p) k t (ascending (program_tasks p) (symbols p) 0 (λ i m has. omega (arith, places i m has)) (among_program p)) is
