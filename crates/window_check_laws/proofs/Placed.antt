-- Every token that is noted is one whose mark the tree keeps.
use Rattle.std.proofs.Common.{ℕ, List, [], ◌∷◌, ◌++◌, map, Option, Some, None, Bool, true, false, not, ◌&&◌, if◌then◌else◌}
use Rattle.std.specs.Prelude.{⊤}
use Rattle.os_ast.specs.declared.ty.Ty.TheVariants as ty_of
use Rattle.os_ast.specs.declared.ty.Ty.{Ty}
use Rattle.os_ast.specs.declared.program.Param.{Param}
use Rattle.os_ast.specs.Names.{Scope, enter, in_loop, typed}
use Rattle.os_ast.specs.Notes.Clauses.{member_notes, members_notes, window_notes, clauses_notes, in_task_body}
use Rattle.os_ast.specs.Notes.Declarators.{declarator_notes, declarators_notes, after_declarator, after_start, start_notes, sized_notes, size_notes, is_window}
use Rattle.os_ast.specs.Notes.Expressions.{expr_notes, place_notes, args_notes, links_notes, value_notes, index_notes, change_notes, step_notes}
use Rattle.os_ast.specs.Notes.Kinds.{Note, mark_of}
use Rattle.os_ast.specs.Notes.Programs.{params_notes, after_param, param_list, item_notes, items_notes, after_item, in_function, in_body}
use Rattle.os_ast.specs.Notes.Statements.{stmt_notes, stmts_notes, after_stmt}
use Rattle.os_ast.specs.ClauseMembers.{ClauseMember, Item, Private, members, clause_members, member_name, target_name}
use Rattle.os_ast.specs.Spelling as spelling
use Rattle.os_ast.specs.Spelling.{Symbol, bare, marked, ◌⨾◌}
use Rattle.os_ast.specs.Trees as tree
use Rattle.os_ast.specs.declared.expr.Mark.{Mark}
use Rattle.os_ast.specs.declared.expr.Name.{Name}
use Rattle.os_ast.specs.declared.names.Direction.{Direction}
use Rattle.os_ast.specs.declared.names.Direction.TheVariants as direction
use Rattle.os_ast.specs.declared.names.Role.{Role}
use Rattle.os_ast.specs.declared.names.Role.TheVariants as role
use Rattle.os_ast.specs.declared.program.Params.{Params}
use Rattle.os_ast.specs.declared.program.Params.TheVariants as params_of
use Rattle.os_lexer.specs.declared.token.Punct.{Punct}
use Rattle.os_lexer.specs.declared.token.Punct.TheVariants as puncts

-- each mark of the symbols has the property
abbrev pub HasKept : (Mark → Type 0) → List Symbol → Type 0
HasKept P [] = ⊤
HasKept P (bare k ∷ ps) = HasKept P ps
HasKept P (marked k m ∷ ps) = P m × HasKept P ps

-- each token of the notes has it
abbrev pub AreOf : (Mark → Type 0) → List Note → Type 0
AreOf P [] = ⊤
AreOf P (n ∷ ns) = P (mark_of n) × AreOf P ns

of-append : (P : Mark → Type 0) (xs ys : List Note) → AreOf P xs → AreOf P ys → AreOf P (xs ++ ys)
of-append P [] ys a b = b
of-append P (n ∷ xs) ys a b = (a.0, of-append P xs ys a.1 b)

mutual
  of-expr : (P : Mark → Type 0) (s : Scope) (e : tree.ExprTree) (rest : List Symbol) → HasKept P (spelling.expr e rest) → AreOf P (expr_notes s e) × HasKept P rest
  of-expr P s (tree.Number n) rest h = (tt, h)
  of-expr P s (tree.Wide n) rest h = (tt, h)
  of-expr P s (tree.Place t) rest h = of-place P s role.Value t rest h
  of-expr P s (tree.ExprTree.Call f es) rest h = let more = of-args P s es _ h.1 in ((h.0, more.0), more.1)
  of-expr P s (tree.Paren e) rest h = of-expr P s e _ h
  of-expr P s (tree.Unary op m e) rest h = of-expr P s e rest h.1
  of-expr P s (tree.Chain l first links) rest h =
      let one = of-expr P s first (spelling.links links rest) h in
      let more = of-links P s links rest one.1 in
      (of-append P (expr_notes s first) (links_notes s links) one.0 more.0, more.1)
  of-expr P s (tree.Choice c a b) rest h =
      let one = of-expr P s c _ h in
      let two = of-expr P s a _ one.1 in
      let three = of-expr P s b rest two.1 in
      (of-append P (expr_notes s c ++ expr_notes s a) (expr_notes s b) (of-append P (expr_notes s c) (expr_notes s a) one.0 two.0) three.0, three.1)

  of-place : (P : Mark → Type 0) (s : Scope) (r : Role) (t : tree.TargetTree) (rest : List Symbol) → HasKept P (spelling.target t rest) → AreOf P (place_notes s r t) × HasKept P rest
  of-place P s r (tree.Variable n) rest h = ((h.0, tt), h.1)
  of-place P s r (tree.Element n m e) rest h = let more = of-expr P s e _ h.1.1 in ((h.0, more.0), more.1)

  of-args : (P : Mark → Type 0) (s : Scope) (es : tree.Args) (rest : List Symbol) → HasKept P (spelling.args es rest) → AreOf P (args_notes s es) × HasKept P rest
  of-args P s tree.no_args rest h = (tt, h)
  of-args P s (tree.arg e es) rest h =
      let one = of-expr P s e (spelling.more_args es rest) h in
      let more = of-more_args P s es rest one.1 in
      (of-append P (expr_notes s e) (args_notes s es) one.0 more.0, more.1)

  of-more_args : (P : Mark → Type 0) (s : Scope) (es : tree.Args) (rest : List Symbol) → HasKept P (spelling.more_args es rest) → AreOf P (args_notes s es) × HasKept P rest
  of-more_args P s tree.no_args rest h = (tt, h)
  of-more_args P s (tree.arg e es) rest h =
      let one = of-expr P s e (spelling.more_args es rest) h in
      let more = of-more_args P s es rest one.1 in
      (of-append P (expr_notes s e) (args_notes s es) one.0 more.0, more.1)

  of-links : (P : Mark → Type 0) (s : Scope) (ls : tree.Links) (rest : List Symbol) → HasKept P (spelling.links ls rest) → AreOf P (links_notes s ls) × HasKept P rest
  of-links P s tree.no_links rest h = (tt, h)
  of-links P s (tree.link op m e ls) rest h =
      let one = of-expr P s e (spelling.links ls rest) h.1 in
      let more = of-links P s ls rest one.1 in
      (of-append P (expr_notes s e) (links_notes s ls) one.0 more.0, more.1)

of-value : (P : Mark → Type 0) (s : Scope) (e : Option tree.ExprTree) (rest : List Symbol) → HasKept P (spelling.optional spelling.expr e rest) → AreOf P (value_notes s e) × HasKept P rest
of-value P s None rest h = (tt, h)
of-value P s (Some e) rest h = of-expr P s e rest h

of-first : (P : Mark → Type 0) (s : Scope) (e : Option tree.ExprTree) (rest : List Symbol) → HasKept P (spelling.optional spelling.first_value e rest) → AreOf P (value_notes s e) × HasKept P rest
of-first P s None rest h = (tt, h)
of-first P s (Some e) rest h = of-expr P s e rest h

of-index : (P : Mark → Type 0) (s : Scope) (i : Option tree.IndexTree) (rest : List Symbol) → HasKept P (spelling.optional spelling.index i rest) → AreOf P (index_notes s i) × HasKept P rest
of-index P s None rest h = (tt, h)
of-index P s (Some i) rest h = of-expr P s i.value _ h.1

of-change : (P : Mark → Type 0) (s : Scope) (c : tree.ChangeTree) (rest : List Symbol) → HasKept P (spelling.change c rest) → AreOf P (change_notes s c) × HasKept P rest
of-change P s (tree.Set t a m e) rest h =
    let one = of-place P s role.Changed t _ h in
    let two = of-expr P s e rest one.1.1 in
    (of-append P (place_notes s role.Changed t) (expr_notes s e) one.0 two.0, two.1)
of-change P s (tree.After t step m) rest h = let one = of-place P s role.Changed t _ h in (one.0, one.1.1)
of-change P s (tree.Before t step m) rest h = of-place P s role.Changed t rest h.1

of-step : (P : Mark → Type 0) (s : Scope) (c : Option tree.ChangeTree) (rest : List Symbol) → HasKept P (spelling.optional spelling.change c rest) → AreOf P (step_notes s c) × HasKept P rest
of-step P s None rest h = (tt, h)
of-step P s (Some c) rest h = of-change P s c rest h

of-size_name : (P : Mark → Type 0) (s : Scope) (e : tree.ExprTree) (rest : List Symbol) → HasKept P (spelling.expr e rest) → AreOf P (size_notes s e)
of-size_name P s (tree.Place (tree.Variable n)) rest h = (h.0, tt)
of-size_name P s (tree.Place (tree.Element n m e)) rest h = tt
of-size_name P s (tree.Number n) rest h = tt
of-size_name P s (tree.Wide n) rest h = tt
of-size_name P s (tree.ExprTree.Call f es) rest h = tt
of-size_name P s (tree.Paren e) rest h = tt
of-size_name P s (tree.Unary op m e) rest h = tt
of-size_name P s (tree.Chain l first links) rest h = tt
of-size_name P s (tree.Choice c a b) rest h = tt

of-size : (P : Mark → Type 0) (s : Scope) (window : Bool) (e : tree.ExprTree) (rest : List Symbol) → HasKept P (spelling.expr e rest) → AreOf P (if window then expr_notes s e else size_notes s e)
of-size P s true e rest h = (of-expr P s e rest h).0
of-size P s false e rest h = of-size_name P s e rest h

of-sized : (P : Mark → Type 0) (s : Scope) (stream : Bool) (i : Option tree.IndexTree) (rest : List Symbol) → HasKept P (spelling.optional spelling.index i rest) → AreOf P (sized_notes s stream i) × HasKept P rest
of-sized P s stream None rest h = (tt, h)
of-sized P s stream (Some i) rest h = (of-size P s (is_window s.owner && not stream) i.value _ h.1, (of-expr P s i.value _ h.1).1)

of-attribute : (P : Mark → Type 0) (stream : Bool) (rest : List Symbol) → HasKept P (spelling.attribute stream rest) → HasKept P rest
of-attribute P false rest h = h
of-attribute P true rest h = h

of-declarator : (P : Mark → Type 0) (s : Scope) (d : tree.DeclaratorTree) (rest : List Symbol) → HasKept P (spelling.declarator d rest) → AreOf P (declarator_notes s d) × HasKept P rest
of-declarator P s d rest h =
    let two = of-sized P s d.stream d.size _ h.1 in
    let three = of-first P (after_declarator s d) d.first rest (of-attribute P d.stream _ two.1) in
    ((h.0, of-append P (sized_notes s d.stream d.size) (value_notes (after_declarator s d) d.first) two.0 three.0), three.1)

of-declarators : (P : Mark → Type 0) (s : Scope) (ds : List tree.DeclaratorTree) (rest : List Symbol) → HasKept P (spelling.each (λ d. spelling.punct puncts.Comma ⨾ spelling.declarator d) ds rest) → AreOf P (declarators_notes s ds) × HasKept P rest
of-declarators P s [] rest h = (tt, h)
of-declarators P s (d ∷ ds) rest h =
    let one = of-declarator P s d _ h in
    let more = of-declarators P (after_declarator s d) ds rest one.1 in
    (of-append P (declarator_notes s d) (declarators_notes (after_declarator s d) ds) one.0 more.0, more.1)

of-listed : (P : Mark → Type 0) (s : Scope) (ds : List tree.DeclaratorTree) (rest : List Symbol) → HasKept P (spelling.listed spelling.declarator ds rest) → AreOf P (declarators_notes s ds) × HasKept P rest
of-listed P s [] rest h = (tt, h)
of-listed P s (d ∷ ds) rest h =
    let one = of-declarator P s d _ h in
    let more = of-declarators P (after_declarator s d) ds rest one.1 in
    (of-append P (declarator_notes s d) (declarators_notes (after_declarator s d) ds) one.0 more.0, more.1)

of-type : (P : Mark → Type 0) (t : Ty) (rest : List Symbol) → HasKept P (spelling.type_words t rest) → HasKept P rest
of-type P ty_of.Int rest h = h
of-type P ty_of.Unsigned rest h = h
of-type P ty_of.UnsignedInt rest h = h

of-start : (P : Mark → Type 0) (s : Scope) (st : tree.StartTree) (rest : List Symbol) → HasKept P (spelling.start st rest) → AreOf P (start_notes s st) × HasKept P rest
of-start P s tree.StartTree.Empty rest h = (tt, h)
of-start P s (tree.StartTree.Declare t ds) rest h = of-listed P (typed t s) ds _ (of-type P t _ h)
of-start P s (tree.StartTree.Change c) rest h = of-change P s c _ h

-- the members of clauses
abbrev pub ArePlaced : (Mark → Type 0) → Scope → List ClauseMember → Type 0
ArePlaced P s [] = ⊤
ArePlaced P s (p ∷ ps) = ((before : List ℕ) → AreOf P (member_notes s before p)) × ArePlaced P s ps

placed-append : (P : Mark → Type 0) (s : Scope) (ps qs : List ClauseMember) → ArePlaced P s ps → ArePlaced P s qs → ArePlaced P s (ps ++ qs)
placed-append P s [] qs a b = b
placed-append P s (p ∷ ps) qs a b = (a.0, placed-append P s ps qs a.1 b)

of-members : (P : Mark → Type 0) (s : Scope) (before : List ℕ) (ps : List ClauseMember) → ArePlaced P s ps → AreOf P (members_notes s before ps)
of-members P s before [] h = tt
of-members P s before (p ∷ ps) h = of-append P (member_notes s before p) (members_notes s ((member_name p).id ∷ before) ps) (h.0 before) (of-members P s ((member_name p).id ∷ before) ps h.1)

-- the mark of a target's name
of-target_name : (P : Mark → Type 0) (t : tree.TargetTree) (rest : List Symbol) → HasKept P (spelling.target t rest) → P (target_name t).mark
of-target_name P (tree.Variable n) rest h = h.0
of-target_name P (tree.Element n m e) rest h = h.0

of-window : (P : Mark → Type 0) (s : Scope) (arrow : Punct) (t : tree.TargetTree) (w : Option tree.JoinTree) (rest : List Symbol) → P (target_name t).mark →
    HasKept P (spelling.optional (spelling.join arrow) w rest) → ((before : List ℕ) → AreOf P (window_notes s before t w)) × HasKept P rest
of-window P s arrow t None rest m h = (λ before. (m, tt), h)
of-window P s arrow t (Some j) rest m h = let i = of-index P s j.burst rest h.1.1 in (λ before. (h.1.0, (h.1.0, i.0)), i.1)

of-item : (P : Mark → Type 0) (s : Scope) (d : Direction) (arrow : Punct) (i : tree.ClauseItemTree) (rest : List Symbol) → HasKept P (spelling.clause_item arrow i rest) →
    ((before : List ℕ) → AreOf P (member_notes s before (Item d i))) × HasKept P rest
of-item P s d arrow i rest h =
    let one = of-place P s (role.Flow d) i.stream _ h in
    let two = of-window P s arrow i.stream i.window rest (of-target_name P i.stream _ h) one.1 in
    (λ before. of-append P (place_notes s (role.Flow d) i.stream) (window_notes s before i.stream i.window) one.0 (two.0 before), two.1)

of-items : (P : Mark → Type 0) (s : Scope) (d : Direction) (arrow : Punct) (is : List tree.ClauseItemTree) (rest : List Symbol) →
    HasKept P (spelling.each (λ i. spelling.punct puncts.Comma ⨾ spelling.clause_item arrow i) is rest) → ArePlaced P s (map (Item d) is) × HasKept P rest
of-items P s d arrow [] rest h = (tt, h)
of-items P s d arrow (i ∷ is) rest h =
    let one = of-item P s d arrow i _ h in
    let more = of-items P s d arrow is rest one.1 in
    ((one.0, more.0), more.1)

of-item_list : (P : Mark → Type 0) (s : Scope) (d : Direction) (arrow : Punct) (is : List tree.ClauseItemTree) (rest : List Symbol) →
    HasKept P (spelling.listed (spelling.clause_item arrow) is rest) → ArePlaced P s (map (Item d) is) × HasKept P rest
of-item_list P s d arrow [] rest h = (tt, h)
of-item_list P s d arrow (i ∷ is) rest h =
    let one = of-item P s d arrow i _ h in
    let more = of-items P s d arrow is rest one.1 in
    ((one.0, more.0), more.1)

of-private : (P : Mark → Type 0) (s : Scope) (n : Name) (before : List ℕ) → P n.mark → AreOf P (member_notes s before (Private n))
of-private P s n before h = (h, (h, tt))

of-privates : (P : Mark → Type 0) (s : Scope) (ns : List Name) (rest : List Symbol) →
    HasKept P (spelling.each (λ n. spelling.punct puncts.Comma ⨾ spelling.name n) ns rest) → ArePlaced P s (map Private ns) × HasKept P rest
of-privates P s [] rest h = (tt, h)
of-privates P s (n ∷ ns) rest h = let more = of-privates P s ns rest h.1 in ((λ before. of-private P s n before h.0, more.0), more.1)

of-private_list : (P : Mark → Type 0) (s : Scope) (ns : List Name) (rest : List Symbol) →
    HasKept P (spelling.listed spelling.name ns rest) → ArePlaced P s (map Private ns) × HasKept P rest
of-private_list P s [] rest h = (tt, h)
of-private_list P s (n ∷ ns) rest h = let more = of-privates P s ns rest h.1 in ((λ before. of-private P s n before h.0, more.0), more.1)

of-kind : (P : Mark → Type 0) (s : Scope) (k : tree.ClauseKindTree) (rest : List Symbol) → HasKept P (spelling.clause_kind k rest) → ArePlaced P s (clause_members k) × HasKept P rest
of-kind P s (tree.Input is) rest h = of-item_list P s direction.Reads puncts.ShiftRight is _ h
of-kind P s (tree.Output is) rest h = of-item_list P s direction.Writes puncts.ShiftLeft is _ h
of-kind P s (tree.Firstprivate ns) rest h = of-private_list P s ns _ h

of-comma : (P : Mark → Type 0) (comma : Bool) (rest : List Symbol) → HasKept P (spelling.comma comma rest) → HasKept P rest
of-comma P false rest h = h
of-comma P true rest h = h

of-clauses : (P : Mark → Type 0) (s : Scope) (cs : List tree.ClauseTree) (rest : List Symbol) → HasKept P (spelling.each spelling.clause cs rest) → ArePlaced P s (members cs) × HasKept P rest
of-clauses P s [] rest h = (tt, h)
of-clauses P s (c ∷ cs) rest h =
    let one = of-kind P s c.kind _ (of-comma P c.comma _ h) in
    let more = of-clauses P s cs rest one.1 in
    (placed-append P s (clause_members c.kind) (members cs) one.0 more.0, more.1)

of-task : (P : Mark → Type 0) (s : Scope) (m : Mark) (ps : List ClauseMember) (a : tree.StmtTree) → P m → ArePlaced P s ps → AreOf P (clauses_notes s m ps a)
of-task P s m ps a h is = of-append P (members_notes s [] ps) _ (of-members P s [] ps is) (h, tt)

mutual
  of-stmt : (P : Mark → Type 0) (s : Scope) (a : tree.StmtTree) (rest : List Symbol) → HasKept P (spelling.stmt a rest) → AreOf P (stmt_notes s a) × HasKept P rest
  of-stmt P s tree.StmtTree.Empty rest h = (tt, h)
  of-stmt P s (tree.Block ss) rest h = of-stmts P (enter s) ss _ h
  of-stmt P s (tree.StmtTree.Declare t ds) rest h = of-listed P (typed t s) ds _ (of-type P t _ h)
  of-stmt P s (tree.StmtTree.Change c) rest h = of-change P s c _ h
  of-stmt P s (tree.StmtTree.Call f es) rest h = of-expr P s (tree.ExprTree.Call f es) _ h
  of-stmt P s (tree.If c a) rest h =
      let one = of-expr P s c _ h in
      let two = of-stmt P s a rest one.1 in
      (of-append P (expr_notes s c) (stmt_notes s a) one.0 two.0, two.1)
  of-stmt P s (tree.IfElse c a b) rest h =
      let one = of-expr P s c _ h in
      let two = of-stmt P s a _ one.1 in
      let three = of-stmt P (after_stmt s a) b rest two.1 in
      (of-append P (expr_notes s c ++ stmt_notes s a) (stmt_notes (after_stmt s a) b) (of-append P (expr_notes s c) (stmt_notes s a) one.0 two.0) three.0, three.1)
  of-stmt P s (tree.While c a) rest h =
      let one = of-expr P s c _ h in
      let two = of-stmt P (in_loop s) a rest one.1 in
      (of-append P (expr_notes s c) (stmt_notes (in_loop s) a) one.0 two.0, two.1)
  of-stmt P s (tree.For start test step a) rest h =
      let head = after_start (enter s) start in
      let one = of-start P (enter s) start _ h in
      let two = of-value P head test _ one.1 in
      let three = of-step P head step _ two.1 in
      let four = of-stmt P (in_loop head) a rest three.1 in (
        of-append P (start_notes (enter s) start ++ value_notes head test ++ step_notes head step) (stmt_notes (in_loop head) a)
            (of-append P (start_notes (enter s) start ++ value_notes head test) (step_notes head step)
            (of-append P (start_notes (enter s) start) (value_notes head test) one.0 two.0) three.0) four.0,
        four.1,
      )
  of-stmt P s (tree.Break m) rest h = ((h.0, tt), h.1)
  of-stmt P s (tree.Continue m) rest h = ((h.0, tt), h.1)
  of-stmt P s (tree.Return m e) rest h = let one = of-expr P s e _ h.1 in ((h.0, one.0), one.1)
  of-stmt P s (tree.Task m cs a) rest h =
      let inner = in_task_body s (members cs) a in
      let one = of-clauses P s cs _ h.1 in
      let two = of-stmt P inner a rest one.1 in
      (of-append P (clauses_notes s m (members cs) a) (stmt_notes inner a) (of-task P s m (members cs) a h.0 one.0) two.0, two.1)
  of-stmt P s (tree.Tick m t arrow e) rest h =
      let one = of-place P s (role.Flow direction.Reads) t _ h.1 in
      let two = of-expr P s e _ one.1.1 in
      ((h.0, of-append P (place_notes s (role.Flow direction.Reads) t) (expr_notes s e) one.0 two.0), two.1)
  of-stmt P s (tree.Taskwait m) rest h = ((h.0, tt), h.1)

  of-stmts : (P : Mark → Type 0) (s : Scope) (ss : tree.Stmts) (rest : List Symbol) → HasKept P (spelling.stmts ss rest) → AreOf P (stmts_notes s ss) × HasKept P rest
  of-stmts P s tree.no_stmts rest h = (tt, h)
  of-stmts P s (tree.stmt a ss) rest h =
      let one = of-stmt P s a (spelling.stmts ss rest) h in
      let more = of-stmts P (after_stmt s a) ss rest one.1 in
      (of-append P (stmt_notes s a) (stmts_notes (after_stmt s a) ss) one.0 more.0, more.1)

-- functions and programs
of-params : (P : Mark → Type 0) (s : Scope) (ns : List Param) (rest : List Symbol) →
    HasKept P (spelling.each (λ p. spelling.punct puncts.Comma ⨾ spelling.param p) ns rest) → AreOf P (params_notes s ns) × HasKept P rest
of-params P s [] rest h = (tt, h)
of-params P s (p ∷ ps) rest h =
    let name = of-type P p.ty _ h in
    let more = of-params P (after_param s p) ps rest name.1 in
    ((name.0, more.0), more.1)

of-param_list : (P : Mark → Type 0) (s : Scope) (ps : Params) (rest : List Symbol) → HasKept P (spelling.params ps rest) → AreOf P (params_notes s (param_list ps)) × HasKept P rest
of-param_list P s params_of.Empty rest h = (tt, h)
of-param_list P s params_of.Void rest h = (tt, h)
of-param_list P s (params_of.Names []) rest h = (tt, h)
of-param_list P s (params_of.Names (p ∷ ps)) rest h =
    let name = of-type P p.ty _ h in
    let more = of-params P (after_param s p) ps rest name.1 in
    ((name.0, more.0), more.1)

of-sign : (P : Mark → Type 0) (minus : Bool) (rest : List Symbol) → HasKept P (spelling.sign minus rest) → HasKept P rest
of-sign P false rest h = h
of-sign P true rest h = h

of-numeral : (P : Mark → Type 0) (wide : Bool) (size : ℕ) (rest : List Symbol) → HasKept P (spelling.numeral wide size rest) → HasKept P rest
of-numeral P false size rest h = h
of-numeral P true size rest h = h

of-programs_item : (P : Mark → Type 0) (s : Scope) (i : tree.ItemTree) (rest : List Symbol) → HasKept P (spelling.item i rest) → AreOf P (item_notes s i) × HasKept P rest
of-programs_item P s (tree.Constant c) rest h = let name = of-type P c.ty _ h in ((name.0, tt), of-numeral P c.wide c.size _ (of-sign P c.minus _ name.1))
of-programs_item P s (tree.Function f) rest h =
    let name = of-type P f.ty _ h in
    let one = of-param_list P (in_function s f.name.id) f.params _ name.1 in
    let two = of-stmts P (in_body s f) f.body _ one.1 in
    ((name.0, of-append P (params_notes (in_function s f.name.id) (param_list f.params)) (stmts_notes (in_body s f) f.body) one.0 two.0), two.1)

pub of-program : (P : Mark → Type 0) (s : Scope) (is : List tree.ItemTree) (rest : List Symbol) → HasKept P (spelling.each spelling.item is rest) → AreOf P (items_notes s is) × HasKept P rest
of-program P s [] rest h = (tt, h)
of-program P s (i ∷ is) rest h =
    let one = of-programs_item P s i _ h in
    let more = of-program P (after_item s i) is rest one.1 in
    (of-append P (item_notes s i) (items_notes (after_item s i) is) one.0 more.0, more.1)
