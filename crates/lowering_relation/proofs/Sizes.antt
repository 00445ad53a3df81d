-- The sizes of arrays, by the names that are told.
use Rattle.std.proofs.Common.{◌≡◌, ℕ, ◌&&◌, Bool, true, false, not, if◌then◌else◌, List, [], ◌∷◌, ◌++◌, Option, Some, None, ℤ, pos, refl, sym, ap, ◌∙◌, subst}
use Rattle.std.specs.Prelude.{unwrap_or}
use Rattle.window_check_laws.proofs.NamePlaces.{or-first}
use Rattle.window_check_laws.proofs.Known.{not-false}
use Rattle.os_ast.specs.Captured.{captured}
use Rattle.os_ast.specs.Limits.{is_size}
use Rattle.os_ast.specs.Meanings.{meaning_in}
use Rattle.os_ast.specs.Names.{Scope, lookup, entity_of, enter, in_loop, typed, flag_of}
use Rattle.os_ast.specs.Notes.Clauses.{in_task_body, members_notes, window_notes, clauses_notes}
use Rattle.os_ast.specs.Notes.Declarators.{limited, constant_of, size_value, size_of, size_told, form, form_with, is_window, after_declarator, declarator_notes, declarators_notes, size_notes, sized_notes, after_start, start_notes}
use Rattle.os_ast.specs.Notes.Expressions.{expr_notes, place_notes, args_notes, links_notes, value_notes, index_notes, change_notes, step_notes}
use Rattle.os_ast.specs.Notes.Kinds.{Note, Used, Sized, Declared, Parameter, Global, Left, Returned, Pragma, Task, Listed}
use Rattle.os_ast.specs.Notes.Statements.{after_stmt, stmt_notes, stmts_notes}
use Rattle.os_ast.specs.ClauseMembers.{ClauseMember, Item, Private, members, member_name, count_items}
use Rattle.os_ast.specs.Rules.{has_no_size, has_too_many}
use Rattle.os_ast.specs.Trees as tree
use Rattle.os_ast.specs.Violations.{constant_meaning}
use Rattle.os_ast.specs.declared.expr.Name.{Name}
use Rattle.os_ast.specs.declared.names.Entity.{Entity}
use Rattle.os_ast.specs.declared.names.Entity.TheVariants as entity
use Rattle.os_ast.specs.declared.names.Owner.{Owner}
use Rattle.os_ast.specs.declared.names.Owner.TheVariants as owner
use Rattle.os_ast.specs.declared.names.Resolved.{Resolved}
use Rattle.os_ast.specs.declared.names.Role.{Role}
use Rattle.os_ast.specs.declared.names.Role.TheVariants as role
use Rattle.os_ast.specs.declared.names.Shape.TheVariants as shape
use Rattle.os_ast.specs.declared.names.Use.{Use}
use Rattle.os_ast.specs.declared.names.Use.TheVariants as usage
use Rattle.os_ast.specs.declared.names.Direction.TheVariants as direction
use Rattle.os_ast.specs.declared.names.What.TheVariants as what
use Rattle.lowering_relation.specs.Names.{told_at}
use Rattle.lowering_relation.specs.Programs.{constant_size, size_by}
use Rattle.lowering_relation.proofs.Context.{told_is}
use Rattle.lowering_relation.proofs.Declares.{size_known}
use Rattle.window_check_laws.specs.Order.{InOrder}
use Rattle.window_check_laws.specs.Sums.{HasSize, HasSizes, IsArraySize}
use Rattle.window_check_laws.specs.Told.{AreIn, Tells, AreLawful}
use Rattle.window_check_laws.proofs.Told.{tells-first, tells-rest, lawful-first, lawful-rest, told-use, declared-use}

-- a size that is known
abbrev IsKnown : Scope → tree.ExprTree → Type 0
IsKnown s e = (k : ℕ) × (size_value s e ≡ Some (pos k))

module _ (size : tree.ExprTree → ℕ) where
  pub sizes_both : (xs ys : List Note) → HasSizes size xs → HasSizes size ys → HasSizes size (xs ++ ys)
  sizes_both [] ys a b = b
  sizes_both (Declared s d ∷ xs) ys a b = (a.0, sizes_both xs ys a.1 b)
  sizes_both (Used s n u ∷ xs) ys a b = sizes_both xs ys a b
  sizes_both (Sized s n ∷ xs) ys a b = sizes_both xs ys a b
  sizes_both (Parameter s n ∷ xs) ys a b = sizes_both xs ys a b
  sizes_both (Global s n ∷ xs) ys a b = sizes_both xs ys a b
  sizes_both (Left s m ∷ xs) ys a b = sizes_both xs ys a b
  sizes_both (Returned s m ∷ xs) ys a b = sizes_both xs ys a b
  sizes_both (Pragma s m ∷ xs) ys a b = sizes_both xs ys a b
  sizes_both (Task s m n cs ∷ xs) ys a b = sizes_both xs ys a b
  sizes_both (Listed before n ∷ xs) ys a b = sizes_both xs ys a b

  -- Expressions declare nothing.
  mutual
    expr_sizes : (e : tree.ExprTree) (s : Scope) → HasSizes size (expr_notes s e)
    expr_sizes (tree.Number n) s = tt
    expr_sizes (tree.Wide n) s = tt
    expr_sizes (tree.Place t) s = place_sizes t s role.Value
    expr_sizes (tree.ExprTree.Call f args) s = args_sizes args s
    expr_sizes (tree.Paren e) s = expr_sizes e s
    expr_sizes (tree.Unary op m e) s = expr_sizes e s
    expr_sizes (tree.Chain l first links) s = sizes_both (expr_notes s first) (links_notes s links) (expr_sizes first s) (links_sizes links s)
    expr_sizes (tree.Choice c a b) s =
        sizes_both (expr_notes s c ++ expr_notes s a) (expr_notes s b) (sizes_both (expr_notes s c) (expr_notes s a) (expr_sizes c s) (expr_sizes a s)) (expr_sizes b s)

    place_sizes : (t : tree.TargetTree) (s : Scope) (r : Role) → HasSizes size (place_notes s r t)
    place_sizes (tree.Variable n) s r = tt
    place_sizes (tree.Element n m e) s r = expr_sizes e s

    args_sizes : (es : tree.Args) (s : Scope) → HasSizes size (args_notes s es)
    args_sizes tree.no_args s = tt
    args_sizes (tree.arg e es) s = sizes_both (expr_notes s e) (args_notes s es) (expr_sizes e s) (args_sizes es s)

    links_sizes : (ls : tree.Links) (s : Scope) → HasSizes size (links_notes s ls)
    links_sizes tree.no_links s = tt
    links_sizes (tree.link op m e rest) s = sizes_both (expr_notes s e) (links_notes s rest) (expr_sizes e s) (links_sizes rest s)

  value_sizes : (o : Option tree.ExprTree) (s : Scope) → HasSizes size (value_notes s o)
  value_sizes None s = tt
  value_sizes (Some e) s = expr_sizes e s

  index_sizes : (o : Option tree.IndexTree) (s : Scope) → HasSizes size (index_notes s o)
  index_sizes None s = tt
  index_sizes (Some i) s = expr_sizes i.value s

  change_sizes : (c : tree.ChangeTree) (s : Scope) → HasSizes size (change_notes s c)
  change_sizes (tree.Set t a m e) s = sizes_both (place_notes s role.Changed t) (expr_notes s e) (place_sizes t s role.Changed) (expr_sizes e s)
  change_sizes (tree.After t p m) s = place_sizes t s role.Changed
  change_sizes (tree.Before t p m) s = place_sizes t s role.Changed

  step_sizes : (o : Option tree.ChangeTree) (s : Scope) → HasSizes size (step_notes s o)
  step_sizes None s = tt
  step_sizes (Some c) s = change_sizes c s

  window_sizes : (s : Scope) (before : List ℕ) (stream : tree.TargetTree) (w : Option tree.JoinTree) → HasSizes size (window_notes s before stream w)
  window_sizes s before stream None = tt
  window_sizes s before stream (Some j) = index_sizes j.burst s

  parts_sizes : (ps : List ClauseMember) (s : Scope) (before : List ℕ) → HasSizes size (members_notes s before ps)
  parts_sizes [] s before = tt
  parts_sizes (Private n ∷ ps) s before = parts_sizes ps s (n.id ∷ before)
  parts_sizes (Item d i ∷ ps) s before =
      sizes_both (place_notes s (role.Flow d) i.stream ++ window_notes s before i.stream i.window) (members_notes s ((member_name (Item d i)).id ∷ before) ps)
      (sizes_both (place_notes s (role.Flow d) i.stream) (window_notes s before i.stream i.window) (place_sizes i.stream s (role.Flow d)) (window_sizes s before i.stream i.window))
      (parts_sizes ps s ((member_name (Item d i)).id ∷ before))

  sized_sizes : (s : Scope) (e : tree.ExprTree) → HasSizes size (size_notes s e)
  sized_sizes s (tree.Number n) = tt
  sized_sizes s (tree.Wide n) = tt
  sized_sizes s (tree.Place (tree.Variable n)) = tt
  sized_sizes s (tree.Place (tree.Element n m e)) = tt
  sized_sizes s (tree.ExprTree.Call f args) = tt
  sized_sizes s (tree.Paren e) = tt
  sized_sizes s (tree.Unary op m e) = tt
  sized_sizes s (tree.Chain l first links) = tt
  sized_sizes s (tree.Choice c a b) = tt

  declared_sizes : (s : Scope) (stream : Bool) (o : Option tree.IndexTree) → HasSizes size (sized_notes s stream o)
  declared_sizes s stream None = tt
  declared_sizes s stream (Some i) = by_case (is_window s.owner && not stream)
    where
      by_case : (t : Bool) → HasSizes size (if t then expr_notes s i.value else size_notes s i.value)
      by_case true = expr_sizes i.value s
      by_case false = sized_sizes s i.value

module _ (rs : List Resolved) (ordered : InOrder rs) where
  abbrev size : tree.ExprTree → ℕ
  size = size_by (told_at rs)

  constant_limit : (o : Owner) (xs : List ℕ) (d : Entity) → unwrap_or (limited (constant_of (Some d))) 0 ≡ constant_size (meaning_in o xs d)
  constant_limit owner.OfFunction xs (entity.Constant v) = refl
  constant_limit owner.OfTask xs (entity.Constant v) = refl
  constant_limit owner.OfMain xs (entity.Constant v) = refl
  constant_limit owner.OfFunction xs (entity.Function n k) = refl
  constant_limit owner.OfTask xs (entity.Function n k) = refl
  constant_limit owner.OfMain xs (entity.Function n k) = refl
  constant_limit owner.OfFunction xs (entity.Scalar n) = refl
  constant_limit owner.OfTask xs (entity.Scalar n) = refl
  constant_limit owner.OfMain xs (entity.Scalar n) = refl
  constant_limit owner.OfFunction xs (entity.Control n) = refl
  constant_limit owner.OfTask xs (entity.Control n) = refl
  constant_limit owner.OfMain xs (entity.Control n) = refl
  constant_limit owner.OfFunction xs entity.InputLength = refl
  constant_limit owner.OfTask xs entity.InputLength = refl
  constant_limit owner.OfMain xs entity.InputLength = refl
  constant_limit owner.OfFunction xs (entity.Array n k) = refl
  constant_limit owner.OfTask xs (entity.Array n k) = refl
  constant_limit owner.OfMain xs (entity.Array n k) = refl
  constant_limit owner.OfFunction xs (entity.Window n) = refl
  constant_limit owner.OfTask xs (entity.Window n) = refl
  constant_limit owner.OfMain xs (entity.Window n) = refl
  constant_limit owner.OfFunction xs (entity.Stream n) = refl
  constant_limit owner.OfTask xs (entity.Stream n) = refl
  constant_limit owner.OfMain xs (entity.Stream n) = refl
  constant_limit owner.OfFunction xs (entity.Streams n k) = refl
  constant_limit owner.OfTask xs (entity.Streams n k) = refl
  constant_limit owner.OfMain xs (entity.Streams n k) = refl
  constant_limit owner.OfFunction xs (entity.Element n d) = refl
  constant_limit owner.OfTask xs (entity.Element n d) = refl
  constant_limit owner.OfMain xs (entity.Element n d) = refl
  constant_limit owner.OfFunction xs (entity.View n d) = refl
  constant_limit owner.OfTask xs (entity.View n d) = refl
  constant_limit owner.OfMain xs (entity.View n d) = refl

  -- a size that is a used name
  used_size : (s : Scope) (n : Name) (u : Use) (ns : List Note) → AreLawful (Used s n u ∷ ns) → Tells rs (Used s n u ∷ ns) → unwrap_or (size_of s (tree.Place (tree.Variable n))) 0 ≡ size (tree.Place (tree.Variable n))
  used_size s n u ns lawful tells =
      let d = declared-use s n u (lawful.0, tt) in
      let w = told_is rs n.mark.place (meaning_in s.owner s.captured d.0) (flag_of (lookup s.entries n.id)) ordered (told-use rs s n u d.0 d.1 (tells.0, tt)) in
      ap (λ o. unwrap_or (limited (constant_of o)) 0) d.1 ∙ constant_limit s.owner s.captured d.0 ∙ ap (λ (r : Resolved). constant_size r.what) (sym w)

  -- one that is the name of a constant
  named_size : (s : Scope) (n : Name) (o : Option ℤ) (k : ℕ) → o ≡ Some (pos k) → AreIn rs (constant_meaning n.mark (flag_of (lookup s.entries n.id)) o) → unwrap_or (limited o) 0 ≡ size (tree.Place (tree.Variable n))
  named_size s n o k is h =
      let w = told_is rs n.mark.place (what.Constant (pos k)) (flag_of (lookup s.entries n.id)) ordered (subst (λ x. AreIn rs (constant_meaning n.mark (flag_of (lookup s.entries n.id)) x)) is h).0 in
      ap (λ x. unwrap_or (limited x) 0) is ∙ ap (λ (r : Resolved). constant_size r.what) (sym w)

  by_name : (s : Scope) (e : tree.ExprTree) → IsKnown s e → Tells rs (size_notes s e) → unwrap_or (size_of s e) 0 ≡ size e
  by_name s (tree.Number n) h tells = refl
  by_name s (tree.Wide n) h tells = refl
  by_name s (tree.Place (tree.Variable n)) h tells = named_size s n (constant_of (entity_of (lookup s.entries n.id))) h.0 h.1 tells.0
  by_name s (tree.Place (tree.Element n m e)) h tells = refl
  by_name s (tree.ExprTree.Call f args) h tells = refl
  by_name s (tree.Paren e) h tells = refl
  by_name s (tree.Unary op m e) h tells = refl
  by_name s (tree.Chain l first links) h tells = refl
  by_name s (tree.Choice c a b) h tells = refl

  by_value : (s : Scope) (e : tree.ExprTree) → AreLawful (expr_notes s e) → Tells rs (expr_notes s e) → unwrap_or (size_of s e) 0 ≡ size e
  by_value s (tree.Number n) lawful tells = refl
  by_value s (tree.Wide n) lawful tells = refl
  by_value s (tree.Place (tree.Variable n)) lawful tells = used_size s n (usage.Place role.Value shape.Bare) [] lawful tells
  by_value s (tree.Place (tree.Element n m e)) lawful tells = refl
  by_value s (tree.ExprTree.Call f args) lawful tells = refl
  by_value s (tree.Paren e) lawful tells = refl
  by_value s (tree.Unary op m e) lawful tells = refl
  by_value s (tree.Chain l first links) lawful tells = refl
  by_value s (tree.Choice c a b) lawful tells = refl

  -- in `main` it doesn't count
  counts : (o : Owner) (told n : ℕ) → told ≡ n → IsArraySize o told n
  counts owner.OfMain told n h = tt
  counts owner.OfFunction told n h = h
  counts owner.OfTask told n h = h

  -- a declarator
  declarator_size : (s : Scope) (d : tree.DeclaratorTree) → AreLawful (declarator_notes s d) → Tells rs (declarator_notes s d) → HasSize size s d.size
  declarator_size s d lawful tells = by_size d.size d.stream
      (or-first (has_no_size (form s d) (size_told s d.size)) (has_too_many (after_declarator s d) (form s d)) lawful.0.1.1.1.1.1.0)
      (lawful-first (sized_notes s d.stream d.size) (value_notes (after_declarator s d) d.first) lawful.1) (tells-first rs (sized_notes s d.stream d.size) (value_notes (after_declarator s d) d.first) tells.1)
    where
      local : (o : Owner) (stream : Bool) (i : tree.IndexTree) → has_no_size (form_with (record s { owner = o }) stream (Some i)) (size_told s (Some i)) ≡ false → (is_window o && not stream) ≡ false →
          IsKnown s i.value
      local owner.OfMain true i h w = let k = size_known (size_value s i.value) (not-false (is_size (size_value s i.value)) h) in (k.size, k.is)
      local owner.OfMain false i h w = absurd (cc)
      local owner.OfFunction true i h w = let k = size_known (size_value s i.value) (not-false (is_size (size_value s i.value)) h) in (k.size, k.is)
      local owner.OfFunction false i h w = let k = size_known (size_value s i.value) (not-false (is_size (size_value s i.value)) h) in (k.size, k.is)
      local owner.OfTask true i h w = let k = size_known (size_value s i.value) (not-false (is_size (size_value s i.value)) h) in (k.size, k.is)
      local owner.OfTask false i h w = let k = size_known (size_value s i.value) (not-false (is_size (size_value s i.value)) h) in (k.size, k.is)

      by_form : (stream : Bool) (i : tree.IndexTree) (t : Bool) → (is_window s.owner && not stream) ≡ t → has_no_size (form_with s stream (Some i)) (size_told s (Some i)) ≡ false →
          AreLawful (if t then expr_notes s i.value else size_notes s i.value) → Tells rs (if t then expr_notes s i.value else size_notes s i.value) → unwrap_or (size_of s i.value) 0 ≡ size i.value
      by_form stream i true w h lawful tells = by_value s i.value lawful tells
      by_form stream i false w h lawful tells = by_name s i.value (local s.owner stream i h w) tells

      by_size : (o : Option tree.IndexTree) (stream : Bool) → has_no_size (form_with s stream o) (size_told s o) ≡ false → AreLawful (sized_notes s stream o) → Tells rs (sized_notes s stream o) → HasSize size s o
      by_size None stream h lawful tells = tt
      by_size (Some i) stream h lawful tells = counts s.owner (unwrap_or (size_of s i.value) 0) (size i.value) (by_form stream i (is_window s.owner && not stream) refl h lawful tells)

  declarators_sizes : (ds : List tree.DeclaratorTree) (s : Scope) → AreLawful (declarators_notes s ds) → Tells rs (declarators_notes s ds) → HasSizes size (declarators_notes s ds)
  declarators_sizes [] s lawful tells = tt
  declarators_sizes (d ∷ ds) s lawful tells =
      let more = declarators_notes (after_declarator s d) ds in
      sizes_both size (declarator_notes s d) more (
        declarator_size s d (lawful-first (declarator_notes s d) more lawful) (tells-first rs (declarator_notes s d) more tells),
        sizes_both size (sized_notes s d.stream d.size) (value_notes (after_declarator s d) d.first) (declared_sizes size s d.stream d.size) (value_sizes size d.first (after_declarator s d)),
      )
      (declarators_sizes ds (after_declarator s d) (lawful-rest (declarator_notes s d) more lawful) (tells-rest rs (declarator_notes s d) more tells))

  start_sizes : (t : tree.StartTree) (s : Scope) → AreLawful (start_notes s t) → Tells rs (start_notes s t) → HasSizes size (start_notes s t)
  start_sizes tree.StartTree.Empty s lawful tells = tt
  start_sizes (tree.StartTree.Declare ty ds) s lawful tells = declarators_sizes ds (typed ty s) lawful tells
  start_sizes (tree.StartTree.Change c) s lawful tells = change_sizes size c s

  mutual
    pub stmt_sizes : (a : tree.StmtTree) (s : Scope) → AreLawful (stmt_notes s a) → Tells rs (stmt_notes s a) → HasSizes size (stmt_notes s a)
    stmt_sizes tree.StmtTree.Empty s lawful tells = tt
    stmt_sizes (tree.Block ss) s lawful tells = stmts_sizes ss (enter s) lawful tells
    stmt_sizes (tree.StmtTree.Declare ty ds) s lawful tells = declarators_sizes ds (typed ty s) lawful tells
    stmt_sizes (tree.StmtTree.Change c) s lawful tells = change_sizes size c s
    stmt_sizes (tree.StmtTree.Call f args) s lawful tells = args_sizes size args s
    stmt_sizes (tree.If c a) s lawful tells =
        sizes_both size (expr_notes s c) (stmt_notes s a) (expr_sizes size c s) (stmt_sizes a s (lawful-rest (expr_notes s c) (stmt_notes s a) lawful) (tells-rest rs (expr_notes s c) (stmt_notes s a) tells))
    stmt_sizes (tree.IfElse c a b) s lawful tells =
        let x = expr_notes s c ++ stmt_notes s a in
        let y = stmt_notes (after_stmt s a) b in
        let lawful1 = lawful-first x y lawful in
        let tells1 = tells-first rs x y tells in
        sizes_both size x y
        (sizes_both size (expr_notes s c) (stmt_notes s a) (expr_sizes size c s) (stmt_sizes a s (lawful-rest (expr_notes s c) (stmt_notes s a) lawful1) (tells-rest rs (expr_notes s c) (stmt_notes s a) tells1)))
        (stmt_sizes b (after_stmt s a) (lawful-rest x y lawful) (tells-rest rs x y tells))
    stmt_sizes (tree.While c a) s lawful tells =
        sizes_both size (expr_notes s c) (stmt_notes (in_loop s) a) (expr_sizes size c s)
        (stmt_sizes a (in_loop s) (lawful-rest (expr_notes s c) (stmt_notes (in_loop s) a) lawful) (tells-rest rs (expr_notes s c) (stmt_notes (in_loop s) a) tells))
    stmt_sizes (tree.For start test step a) s lawful tells =
        let head = after_start (enter s) start in
        let x = start_notes (enter s) start in
        let y = x ++ value_notes head test in
        let z = y ++ step_notes head step in
        let w = stmt_notes (in_loop head) a in
        let lawful_x = lawful-first x (value_notes head test) (lawful-first y (step_notes head step) (lawful-first z w lawful)) in
        let tells_x = tells-first rs x (value_notes head test) (tells-first rs y (step_notes head step) (tells-first rs z w tells)) in
        sizes_both size z w
        (sizes_both size y (step_notes head step) (sizes_both size x (value_notes head test) (start_sizes start (enter s) lawful_x tells_x) (value_sizes size test head)) (step_sizes size step head))
        (stmt_sizes a (in_loop head) (lawful-rest z w lawful) (tells-rest rs z w tells))
    stmt_sizes (tree.Break m) s lawful tells = tt
    stmt_sizes (tree.Continue m) s lawful tells = tt
    stmt_sizes (tree.Return m e) s lawful tells = expr_sizes size e s
    stmt_sizes (tree.Task m cs a) s lawful tells =
        let x = clauses_notes s m (members cs) a in
        let inner = in_task_body s (members cs) a in
        sizes_both size x (stmt_notes inner a) (sizes_both size (members_notes s [] (members cs)) (Task s m (count_items (members cs)) (captured s.entries (members cs) a) ∷ []) (parts_sizes size (members cs) s []) tt)
        (stmt_sizes a inner (lawful-rest x (stmt_notes inner a) lawful) (tells-rest rs x (stmt_notes inner a) tells))
    stmt_sizes (tree.Tick m t arrow e) s lawful tells =
        sizes_both size (Pragma s m ∷ place_notes s (role.Flow direction.Reads) t) (expr_notes s e) (place_sizes size t s (role.Flow direction.Reads)) (expr_sizes size e s)
    stmt_sizes (tree.Taskwait m) s lawful tells = tt

    pub stmts_sizes : (ss : tree.Stmts) (s : Scope) → AreLawful (stmts_notes s ss) → Tells rs (stmts_notes s ss) → HasSizes size (stmts_notes s ss)
    stmts_sizes tree.no_stmts s lawful tells = tt
    stmts_sizes (tree.stmt a rest) s lawful tells =
        let more = stmts_notes (after_stmt s a) rest in
        sizes_both size (stmt_notes s a) more (stmt_sizes a s (lawful-first (stmt_notes s a) more lawful) (tells-first rs (stmt_notes s a) more tells))
        (stmts_sizes rest (after_stmt s a) (lawful-rest (stmt_notes s a) more lawful) (tells-rest rs (stmt_notes s a) more tells))
