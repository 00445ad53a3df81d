-- The tasks of a program stand at rising places, so that a place tells which task it is.
use Rattle.std.proofs.Common.{◌≡◌, ℕ, zero, suc, ◌+◌, ◌<◌, ◌≤◌, ◌==◌, Bool, true, false, if◌then◌else◌, List, [], ◌∷◌, ◌++◌, length, map, get_or, position, Option, Some, None, slice_get, cond, nat_lt, unwrap_or, sym, ap, ◌∙◌, subst, arith, eq-eqb, ne_eqb, lt-ltb}
use Rattle.std.proofs.lemmas.Option.{slice_get_within, unwrap_or-slice_get}
use Rattle.std.proofs.lemmas.List.Sums.{position_or_len_is}
use Rattle.os_ast.specs.Marks.{HasPlaces}
use Rattle.os_ast.specs.Names.{main_id}
use Rattle.os_ast.specs.Spelling as spelling
use Rattle.os_ast.specs.Spelling.{Symbol, bare, marked, Printer, ◌⨾◌, symbols}
use Rattle.os_ast.specs.Trees as tree
use Rattle.os_ast.specs.declared.expr.Mark.{Mark}
use Rattle.os_ast.specs.declared.program.Param.{Param}
use Rattle.os_ast.specs.declared.program.Params.{Params}
use Rattle.os_ast.specs.declared.program.Params.TheVariants as params_of
use Rattle.os_ast.proofs.Prints.{Prints, prints_expr, prints_stmt, prints_item}
use Rattle.os_ast.specs.declared.ty.Ty.{Ty}
use Rattle.os_ast.specs.declared.ty.Ty.TheVariants as ty_of
use Rattle.os_lexer.specs.declared.token.Kind.{Kind}
use Rattle.os_lexer.specs.declared.token.Punct.TheVariants as puncts
use Rattle.lowering_relation.specs.Tasks.{TaskTree, tasks_of, all_tasks_of, program_tasks}
use Rattle.window_check_laws.proofs.Ordered.{HasFrom, has-from}

-- places rise, from one on and below another
abbrev pub Rises : {A : Type 0} → (A → ℕ) → ℕ → List A → ℕ → Type 0
Rises place lo [] hi = lo ≤ hi
Rises place lo (x ∷ xs) hi = (lo ≤ place x) × Rises place (suc (place x)) xs hi

abbrev pub place_of : TaskTree → ℕ
place_of t = t.mark.place

rises_lower : (lo from : ℕ) (ts : List TaskTree) (hi : ℕ) → lo ≤ from → Rises place_of from ts hi → Rises place_of lo ts hi
rises_lower lo from [] hi h a = omega (arith, h, a)
rises_lower lo from (t ∷ ts) hi h a = (omega (arith, h, a.0), a.1)

rises_both : (lo : ℕ) (ts : List TaskTree) (mid : ℕ) (us : List TaskTree) (hi : ℕ) → Rises place_of lo ts mid → Rises place_of mid us hi → Rises place_of lo (ts ++ us) hi
rises_both lo [] mid us hi a b = rises_lower lo mid us hi a b
rises_both lo (t ∷ ts) mid us hi a b = (a.0, rises_both (suc t.mark.place) ts mid us hi a.1 b)

rises_higher : (lo : ℕ) (ts : List TaskTree) (mid hi : ℕ) → mid ≤ hi → Rises place_of lo ts mid → Rises place_of lo ts hi
rises_higher lo [] mid hi h a = omega (arith, h, a)
rises_higher lo (t ∷ ts) mid hi h a = (a.0, rises_higher (suc t.mark.place) ts mid hi h a.1)

-- the tasks of a part rise, and what follows it has its places
record Walked (lo : ℕ) (ts : List TaskTree) (rest : List Symbol) : Type 0 where
  to : ℕ
  order : Rises place_of lo ts to
  after : HasFrom to rest

record Walks (p : Printer) (ts : List TaskTree) : Type 0 where
  walk : (lo : ℕ) (rest : List Symbol) → HasFrom lo (p rest) → Walked lo ts rest

behind : (front rest : List Symbol) (lo : ℕ) → HasFrom lo (front ++ rest) → (to : ℕ) × (to ≡ lo + length front) × HasFrom to rest
behind [] rest lo h = (lo, omega arith, h)
behind (bare k ∷ front) rest lo h = let r = behind front rest (suc lo) h in (r.0, (let e = r.1 in omega (arith, e)), r.2)
behind (marked k m ∷ front) rest lo h = let r = behind front rest (suc lo) h.1 in (r.0, (let e = r.1 in omega (arith, e)), r.2)

-- a part without tasks
silent : {p : Printer} → Prints p → Walks p []
silent {p = p} a = record {
  walk = λ lo rest h.
      let r = behind (p []) rest lo (subst (HasFrom lo) (a.in_front rest) h) in
      record { to = r.0; order = (let e = r.1 in omega (arith, e)); after = r.2 };
}

token : {k : Kind} → Walks (spelling.token k) []
token = record { walk = λ lo rest h. record { to = suc lo; order = omega arith; after = h } }

infixr 20 ◌and◌
◌and◌ : {p q : Printer} {ts us : List TaskTree} → Walks p ts → Walks q us → Walks (p ⨾ q) (ts ++ us)
◌and◌ {q = q} {ts = ts} {us = us} a b = record {
  walk = λ lo rest h.
      let one = a.walk lo (q rest) h in
      let two = b.walk one.to rest one.after in
      record { to = two.to; order = rises_both lo ts one.to us two.to one.order two.order; after = two.after };
}

-- tokens behind a part
closed : {p q : Printer} {ts : List TaskTree} → Walks p ts → Walks q [] → Walks (p ⨾ q) ts
closed {q = q} {ts = ts} a b = record {
  walk = λ lo rest h.
      let one = a.walk lo (q rest) h in
      let two = b.walk one.to rest one.after in
      record { to = two.to; order = rises_higher lo ts one.to two.to two.order one.order; after = two.after };
}

in_parens : {p : Printer} → Walks p [] → Walks (spelling.in_parens p) []
in_parens a = token and a and token

token_at : {k : Kind} {m : Mark} → Walks (spelling.token_at k m) []
token_at = record { walk = λ lo rest h. record { to = suc lo; order = omega arith; after = h.1 } }

change : (c : tree.ChangeTree) → Walks (spelling.change c) []
change (tree.Set t a m e) = silent (prints_expr (tree.Place t)) and token_at and silent (prints_expr e)
change (tree.After t s m) = silent (prints_expr (tree.Place t)) and token_at
change (tree.Before t s m) = token_at and silent (prints_expr (tree.Place t))

start : (t : tree.StartTree) → Walks (spelling.start t) []
start tree.StartTree.Empty = token
start (tree.StartTree.Declare ty ds) = silent (prints_stmt (tree.StmtTree.Declare ty ds))
start (tree.StartTree.Change c) = change c and token

nothing : Walks spelling.nothing []
nothing = record { walk = λ lo rest h. record { to = lo; order = omega arith; after = h } }

test : (e : Option tree.ExprTree) → Walks (spelling.optional spelling.expr e) []
test None = nothing
test (Some e) = silent (prints_expr e)

step : (c : Option tree.ChangeTree) → Walks (spelling.optional spelling.change c) []
step None = nothing
step (Some c) = change c

mutual
  walks_stmt : (a : tree.StmtTree) → Walks (spelling.stmt a) (tasks_of a)
  walks_stmt tree.StmtTree.Empty = token
  walks_stmt (tree.Block ss) = token and closed (walks_stmts ss) token
  walks_stmt (tree.StmtTree.Declare ty ds) = silent (prints_stmt (tree.StmtTree.Declare ty ds))
  walks_stmt (tree.StmtTree.Change c) = silent (prints_stmt (tree.StmtTree.Change c))
  walks_stmt (tree.StmtTree.Call f args) = silent (prints_stmt (tree.StmtTree.Call f args))
  walks_stmt (tree.If c a) = token and in_parens (silent (prints_expr c)) and walks_stmt a
  walks_stmt (tree.IfElse c a b) = token and in_parens (silent (prints_expr c)) and walks_stmt a and token and walks_stmt b
  walks_stmt (tree.While c a) = token and in_parens (silent (prints_expr c)) and walks_stmt a
  walks_stmt (tree.For t e c a) = token and in_parens (start t and test e and token and step c) and walks_stmt a
  walks_stmt (tree.Break m) = silent (prints_stmt (tree.Break m))
  walks_stmt (tree.Continue m) = silent (prints_stmt (tree.Continue m))
  walks_stmt (tree.Return m e) = silent (prints_stmt (tree.Return m e))
  walks_stmt (tree.Task m cs a) = record {
    walk = λ lo rest h.
        let r = behind (spelling.stmt (tree.Task m cs a) []) rest lo (subst (HasFrom lo) ((prints_stmt (tree.Task m cs a)).in_front rest) h) in
        let here : m.place ≡ lo = h.0 in
        record { to = r.0; order = (omega (arith, here), (let e = r.1 in omega (arith, e, here))); after = r.2 };
  }
  walks_stmt (tree.Tick m t arrow e) = silent (prints_stmt (tree.Tick m t arrow e))
  walks_stmt (tree.Taskwait m) = silent (prints_stmt (tree.Taskwait m))

  walks_stmts : (ss : tree.Stmts) → Walks (spelling.stmts ss) (all_tasks_of ss)
  walks_stmts tree.no_stmts = nothing
  walks_stmts (tree.stmt a rest) = walks_stmt a and walks_stmts rest

type_words : (t : Ty) → Walks (spelling.type_words t) []
type_words ty_of.Int = token
type_words ty_of.Unsigned = token
type_words ty_of.UnsignedInt = token and token

more_params : (ns : List Param) → Walks (spelling.each (λ n. spelling.punct puncts.Comma ⨾ spelling.param n) ns) []
more_params [] = nothing
more_params (n ∷ ns) = (token and type_words n.ty and token_at) and more_params ns

params : (ps : Params) → Walks (spelling.params ps) []
params params_of.Empty = nothing
params params_of.Void = token
params (params_of.Names []) = nothing
params (params_of.Names (n ∷ ns)) = (type_words n.ty and token_at) and more_params ns

-- those of `main`, wherever it stands
abbrev pub Rising : List TaskTree → Type 0
Rising ts = (lo : ℕ) × (hi : ℕ) × Rises place_of lo ts hi

walks_items : (is : List tree.ItemTree) (lo : ℕ) → HasFrom lo (spelling.each spelling.item is []) → Rising (program_tasks is)
walks_items [] lo h = (lo, lo, omega arith)
walks_items (tree.Constant c ∷ is) lo h =
    let r = (silent (prints_item (tree.Constant c))).walk lo (spelling.each spelling.item is []) h in
    walks_items is r.to r.after
walks_items (tree.Function f ∷ is) lo h = by_case (f.name.id == main_id) (λ from k. walks_items is from k)
  where
    by_case : (t : Bool) → ((from : ℕ) → HasFrom from (spelling.each spelling.item is []) → Rising (program_tasks is)) → Rising (if t then all_tasks_of f.body else program_tasks is)
    by_case true next =
        let body : Walks (spelling.item (tree.Function f)) (all_tasks_of f.body) = type_words f.ty and token_at and in_parens (params f.params) and token and closed (walks_stmts f.body) token in
        let r = body.walk lo (spelling.each spelling.item is []) h in
        (lo, r.to, r.order)
    by_case false next =
        let r = (silent (prints_item (tree.Function f))).walk lo (spelling.each spelling.item is []) h in
        next r.to r.after

pub tasks_rise : (p : tree.ProgramTree) → HasPlaces p → Rising (program_tasks p)
tasks_rise p h = walks_items p 0 (has-from (symbols p) 0 (λ i m is. omega (arith, h i m is)))

pub got : {A : Type 0} (xs : List A) (k : ℕ) (x d : A) → slice_get xs k ≡ Some x → get_or xs k d ≡ x
got xs k x d is = sym (unwrap_or-slice_get xs k d) ∙ ap (λ o. unwrap_or o d) is

-- A place tells where a task stands among them.
module _ {A : Type 0} (place : A → ℕ) where
  rises_up : (lo : ℕ) (xs : List A) (hi k : ℕ) (d : A) → Rises place lo xs hi → k < length xs → lo ≤ place (get_or xs k d)
  rises_up lo [] hi k d h lt = absurd (omega (arith, lt))
  rises_up lo (y ∷ xs) hi zero d h lt = h.0
  rises_up lo (y ∷ xs) hi (suc k) d h lt = let r = rises_up (suc (place y)) xs hi k d h.1 (omega (arith, lt)) in let a = h.0 in omega (arith, r, a)

  rises_on : (lo : ℕ) (xs : List A) (hi j k : ℕ) (d : A) → Rises place lo xs hi → j < k → k < length xs → place (get_or xs j d) < place (get_or xs k d)
  rises_on lo [] hi j k d h jk lt = absurd (omega (arith, lt))
  rises_on lo (y ∷ xs) hi j zero d h jk lt = absurd (omega (arith, jk))
  rises_on lo (y ∷ xs) hi zero (suc k) d h jk lt = let r = rises_up (suc (place y)) xs hi k d h.1 (omega (arith, lt)) in omega (arith, r)
  rises_on lo (y ∷ xs) hi (suc j) (suc k) d h jk lt = rises_on (suc (place y)) xs hi j k d h.1 (omega (arith, jk)) (omega (arith, lt))

  pub position_is : (lo : ℕ) (xs : List A) (hi k : ℕ) (x : A) → Rises place lo xs hi → slice_get xs k ≡ Some x → position (λ y. place y == place x) xs ≡ Some k
  position_is lo xs hi k x h is =
      let at_k = got xs k x x is in
      let lt = slice_get_within xs k x is in
      ap (λ n. cond (nat_lt n (length xs)) (Some n) None)
      (position_or_len_is (λ y. place y == place x) xs k x (omega (arith, lt))
      (λ j jk. let less : place (get_or xs j x) < place (get_or xs k x) = rises_on lo xs hi j k x h jk lt in let e = ap place at_k in ne_eqb (place (get_or xs j x)) (place x) (λ q. omega (arith, q, e, less)))
      (λ _. eq-eqb (place (get_or xs k x)) (place x) (ap place at_k)))
      ∙ ap (λ t. cond t (Some k) None) (lt-ltb k (length xs) lt)

-- places of what a list is made of
pub rises_mapped : {A B : Type 0} (place : B → ℕ) (f : A → B) (xs : List A) (lo hi : ℕ) → Rises (λ x. place (f x)) lo xs hi → Rises place lo (map f xs) hi
rises_mapped place f [] lo hi h = h
rises_mapped place f (x ∷ xs) lo hi h = (h.0, rises_mapped place f xs (suc (place (f x))) hi h.1)

pub rises_unmapped : {A B : Type 0} (place : B → ℕ) (f : A → B) (xs : List A) (lo hi : ℕ) → Rises place lo (map f xs) hi → Rises (λ x. place (f x)) lo xs hi
rises_unmapped place f [] lo hi h = h
rises_unmapped place f (x ∷ xs) lo hi h = (h.0, rises_unmapped place f xs (suc (place (f x))) hi h.1)
