-- What a program declares is little for its tokens: each makes room for 16,383.
use Rattle.std.proofs.Common.{ap, refl, ◌≤◌, ◌+◌, ◌*◌, if◌then◌else◌, List, [], ◌∷◌, map, length, length-append, Option, Some, None, Bool, true, false, arith, ℕ}
use Rattle.std.specs.Prelude.{is_some}
use Rattle.std.proofs.lemmas.List.{length-map}
use Rattle.os_ast.specs.declared.ty.Ty.TheVariants as ty_of
use Rattle.os_ast.specs.declared.ty.Ty.{Ty}
use Rattle.os_ast.specs.declared.program.Param.{Param}
use Rattle.os_ast.proofs.Prints.{prints_item}
use Rattle.os_ast.specs.Limits.{size_limit}
use Rattle.os_ast.specs.ClauseMembers.{Item, Private, members, clause_members}
use Rattle.os_ast.specs.Notes.Programs.{file, param_list}
use Rattle.os_ast.specs.Operators.{assign_mark, step_mark}
use Rattle.os_ast.specs.Spelling as spelling
use Rattle.os_ast.specs.Spelling.{Symbol, ◌⨾◌}
use Rattle.os_ast.specs.Trees as tree
use Rattle.os_ast.specs.declared.expr.Name.{Name}
use Rattle.os_ast.specs.declared.names.Direction.{Direction}
use Rattle.os_ast.specs.declared.names.Direction.TheVariants as direction
use Rattle.os_ast.specs.declared.program.Params.{Params}
use Rattle.os_ast.specs.declared.program.Params.TheVariants as params_of
use Rattle.os_lexer.specs.declared.token.Key.TheVariants as keys
use Rattle.os_lexer.specs.declared.token.Kind.TheVariants as kind
use Rattle.os_lexer.specs.declared.token.Punct.{Punct}
use Rattle.os_lexer.specs.declared.token.Punct.TheVariants as puncts
use Rattle.window_check_laws.specs.Globals.{count_functions}
use Rattle.window_check_laws.specs.Room.{HasRoom, declarator_weight, declarators_weight, start_weight, stmt_weight, stmts_weight, item_weight, items_weight}

mutual
  long-expr : (e : tree.ExprTree) (rest : List Symbol) → 1 + length rest ≤ length (spelling.expr e rest)
  long-expr (tree.Number n) rest = omega arith
  long-expr (tree.Wide n) rest = omega arith
  long-expr (tree.Place t) rest = long-target t rest
  long-expr (tree.ExprTree.Call f es) rest = omega (arith, long-args es (spelling.punct puncts.CloseParen rest))
  long-expr (tree.Paren e) rest = omega (arith, long-expr e (spelling.punct puncts.CloseParen rest))
  long-expr (tree.Unary op m e) rest = omega (arith, long-expr e rest)
  long-expr (tree.Chain l first links) rest = omega (arith, long-expr first (spelling.links links rest), long-links links rest)
  long-expr (tree.Choice c a b) rest =
      let last = spelling.expr b rest in
      let middle = spelling.expr a (spelling.punct puncts.Colon last) in
      omega (arith, long-expr b rest, long-expr a (spelling.punct puncts.Colon last), long-expr c (spelling.punct puncts.Question middle))

  long-target : (t : tree.TargetTree) (rest : List Symbol) → 1 + length rest ≤ length (spelling.target t rest)
  long-target (tree.Variable n) rest = omega arith
  long-target (tree.Element n m e) rest = omega (arith, long-expr e (spelling.punct puncts.CloseBracket rest))

  long-args : (es : tree.Args) (rest : List Symbol) → length rest ≤ length (spelling.args es rest)
  long-args tree.no_args rest = omega arith
  long-args (tree.arg e es) rest = omega (arith, long-expr e (spelling.more_args es rest), long-more_args es rest)

  long-more_args : (es : tree.Args) (rest : List Symbol) → length rest ≤ length (spelling.more_args es rest)
  long-more_args tree.no_args rest = omega arith
  long-more_args (tree.arg e es) rest = omega (arith, long-expr e (spelling.more_args es rest), long-more_args es rest)

  long-links : (ls : tree.Links) (rest : List Symbol) → length rest ≤ length (spelling.links ls rest)
  long-links tree.no_links rest = omega arith
  long-links (tree.link op m e ls) rest = omega (arith, long-expr e (spelling.links ls rest), long-links ls rest)

long-value : (e : Option tree.ExprTree) (rest : List Symbol) → length rest ≤ length (spelling.optional spelling.expr e rest)
long-value None rest = omega arith
long-value (Some e) rest = omega (arith, long-expr e rest)

long-first : (e : Option tree.ExprTree) (rest : List Symbol) → length rest ≤ length (spelling.optional spelling.first_value e rest)
long-first None rest = omega arith
long-first (Some e) rest = omega (arith, long-expr e rest)

long-index : (i : Option tree.IndexTree) (rest : List Symbol) → length rest ≤ length (spelling.optional spelling.index i rest)
long-index None rest = omega arith
long-index (Some i) rest = omega (arith, long-expr i.value (spelling.punct puncts.CloseBracket rest))

long-change : (c : tree.ChangeTree) (rest : List Symbol) → length rest ≤ length (spelling.change c rest)
long-change (tree.Set t a m e) rest =
    omega (arith, long-target t (spelling.punct_at (assign_mark a) m (spelling.expr e rest)), long-expr e rest)
long-change (tree.After t s m) rest = omega (arith, long-target t (spelling.punct_at (step_mark s) m rest))
long-change (tree.Before t s m) rest = omega (arith, long-target t rest)

long-step : (c : Option tree.ChangeTree) (rest : List Symbol) → length rest ≤ length (spelling.optional spelling.change c rest)
long-step None rest = omega arith
long-step (Some c) rest = long-change c rest

long-attribute : (stream : Bool) (rest : List Symbol) → length rest ≤ length (spelling.attribute stream rest)
long-attribute false rest = omega arith
long-attribute true rest = omega arith

-- a size takes three tokens at least, and the name and what stands before it two
long-size : (i : Option tree.IndexTree) (rest : List Symbol) → (if is_some i then 3 else 0) + length rest ≤ length (spelling.optional spelling.index i rest)
long-size None rest = omega arith
long-size (Some i) rest = omega (arith, long-expr i.value (spelling.punct puncts.CloseBracket rest))

sized-tokens : (i : Option tree.IndexTree) → (if is_some i then size_limit else 1) ≤ 16383 * (2 + (if is_some i then 3 else 0))
sized-tokens None = omega arith
sized-tokens (Some i) = omega arith

long-declarator : (d : tree.DeclaratorTree) (rest : List Symbol) → declarator_weight d + 16383 * length rest ≤ 16383 * (1 + length (spelling.declarator d rest))
long-declarator d rest =
    let last = spelling.optional spelling.first_value d.first rest in
    let middle = spelling.attribute d.stream last in
    omega (arith, sized-tokens d.size, long-first d.first rest, long-attribute d.stream last, long-size d.size middle)

long-declarators : (ds : List tree.DeclaratorTree) (rest : List Symbol) → declarators_weight ds + 16383 * length rest ≤ 16383 * length (spelling.each (λ d. spelling.punct puncts.Comma ⨾ spelling.declarator d) ds rest)
long-declarators [] rest = omega arith
long-declarators (d ∷ ds) rest =
    let more = spelling.each (λ d. spelling.punct puncts.Comma ⨾ spelling.declarator d) ds rest in
    omega (arith, long-declarators ds rest, long-declarator d more)

-- with the token before the first
long-listed : (ds : List tree.DeclaratorTree) (rest : List Symbol) → declarators_weight ds + 16383 * length rest ≤ 16383 * (1 + length (spelling.listed spelling.declarator ds rest))
long-listed [] rest = omega arith
long-listed (d ∷ ds) rest =
    let more = spelling.each (λ d. spelling.punct puncts.Comma ⨾ spelling.declarator d) ds rest in
    omega (arith, long-declarators ds rest, long-declarator d more)

long-type : (t : Ty) (rest : List Symbol) → 1 + length rest ≤ length (spelling.type_words t rest)
long-type ty_of.Int rest = omega arith
long-type ty_of.Unsigned rest = omega arith
long-type ty_of.UnsignedInt rest = omega arith

long-declare : (t : Ty) (ds : List tree.DeclaratorTree) (rest : List Symbol) → declarators_weight ds + 16383 * length rest ≤ 16383 * length (spelling.declare t ds rest)
long-declare t ds rest =
    let last = spelling.punct puncts.Semicolon rest in
    omega (arith, long-listed ds last, long-type t (spelling.listed spelling.declarator ds last))

long-start : (s : tree.StartTree) (rest : List Symbol) → start_weight s + 16383 * length rest ≤ 16383 * length (spelling.start s rest)
long-start tree.StartTree.Empty rest = omega arith
long-start (tree.StartTree.Declare t ds) rest = omega (arith, long-declare t ds rest)
long-start (tree.StartTree.Change c) rest = omega (arith, long-change c (spelling.punct puncts.Semicolon rest))

long-join : (arrow : Punct) (j : Option tree.JoinTree) (rest : List Symbol) → length rest ≤ length (spelling.optional (spelling.join arrow) j rest)
long-join arrow None rest = omega arith
long-join arrow (Some j) rest = omega (arith, long-index j.burst rest)

long-flow : (t : tree.TargetTree) (rest : List Symbol) → 1 + length rest ≤ length (spelling.target t rest)
long-flow (tree.Variable n) rest = omega arith
long-flow (tree.Element n m e) rest = omega (arith, long-expr e (spelling.punct puncts.CloseBracket rest))

long-item : (arrow : Punct) (i : tree.ClauseItemTree) (rest : List Symbol) → 1 + length rest ≤ length (spelling.clause_item arrow i rest)
long-item arrow i rest =
    let last = spelling.optional (spelling.join arrow) i.window rest in
    omega (arith, long-join arrow i.window rest, long-flow i.stream last)

long-items : (d : Direction) (arrow : Punct) (is : List tree.ClauseItemTree) (rest : List Symbol) →
    length (map (Item d) is) + length rest ≤ length (spelling.each (λ i. spelling.punct puncts.Comma ⨾ spelling.clause_item arrow i) is rest)
long-items d arrow [] rest = omega arith
long-items d arrow (i ∷ is) rest =
    let more = spelling.each (λ i. spelling.punct puncts.Comma ⨾ spelling.clause_item arrow i) is rest in
    omega (arith, long-items d arrow is rest, long-item arrow i more)

long-item_list : (d : Direction) (arrow : Punct) (is : List tree.ClauseItemTree) (rest : List Symbol) →
    length (map (Item d) is) + length rest ≤ length (spelling.listed (spelling.clause_item arrow) is rest)
long-item_list d arrow [] rest = omega arith
long-item_list d arrow (i ∷ is) rest =
    let more = spelling.each (λ i. spelling.punct puncts.Comma ⨾ spelling.clause_item arrow i) is rest in
    omega (arith, long-items d arrow is rest, long-item arrow i more)

long-privates : (ns : List Name) (rest : List Symbol) → length (map Private ns) + length rest ≤ length (spelling.each (λ n. spelling.punct puncts.Comma ⨾ spelling.name n) ns rest)
long-privates [] rest = omega arith
long-privates (n ∷ ns) rest = omega (arith, long-privates ns rest)

long-private_list : (ns : List Name) (rest : List Symbol) → length (map Private ns) + length rest ≤ length (spelling.listed spelling.name ns rest)
long-private_list [] rest = omega arith
long-private_list (n ∷ ns) rest = omega (arith, long-privates ns rest)

long-kind : (k : tree.ClauseKindTree) (rest : List Symbol) → length (clause_members k) + length rest ≤ length (spelling.clause_kind k rest)
long-kind (tree.Input is) rest = omega (arith, long-item_list direction.Reads puncts.ShiftRight is (spelling.punct puncts.CloseParen rest))
long-kind (tree.Output is) rest = omega (arith, long-item_list direction.Writes puncts.ShiftLeft is (spelling.punct puncts.CloseParen rest))
long-kind (tree.Firstprivate ns) rest = omega (arith, long-private_list ns (spelling.punct puncts.CloseParen rest))

long-comma : (comma : Bool) (rest : List Symbol) → length rest ≤ length (spelling.comma comma rest)
long-comma false rest = omega arith
long-comma true rest = omega arith

long-clauses : (cs : List tree.ClauseTree) (rest : List Symbol) → length (members cs) + length rest ≤ length (spelling.each spelling.clause cs rest)
long-clauses [] rest = omega arith
long-clauses (c ∷ cs) rest =
    let more = spelling.each spelling.clause cs rest in
    omega (arith, long-clauses cs rest, long-kind c.kind more, long-comma c.comma (spelling.clause_kind c.kind more), length-append (clause_members c.kind) (members cs))

mutual
  long-stmt : (a : tree.StmtTree) (rest : List Symbol) → stmt_weight a + 16383 * length rest ≤ 16383 * length (spelling.stmt a rest)
  long-stmt tree.StmtTree.Empty rest = omega arith
  long-stmt (tree.Block ss) rest = omega (arith, long-stmts ss (spelling.punct puncts.CloseBrace rest))
  long-stmt (tree.StmtTree.Declare t ds) rest = omega (arith, long-declare t ds rest)
  long-stmt (tree.StmtTree.Change c) rest = omega (arith, long-change c (spelling.punct puncts.Semicolon rest))
  long-stmt (tree.StmtTree.Call f es) rest = omega (arith, long-args es (spelling.punct puncts.CloseParen (spelling.punct puncts.Semicolon rest)))
  long-stmt (tree.If c a) rest =
      let body = spelling.stmt a rest in
      omega (arith, long-stmt a rest, long-expr c (spelling.punct puncts.CloseParen body))
  long-stmt (tree.IfElse c a b) rest =
      let second = spelling.stmt b rest in
      let first = spelling.stmt a (spelling.key keys.Else second) in
      omega (arith, long-stmt b rest, long-stmt a (spelling.key keys.Else second), long-expr c (spelling.punct puncts.CloseParen first))
  long-stmt (tree.While c a) rest =
      let body = spelling.stmt a rest in
      omega (arith, long-stmt a rest, long-expr c (spelling.punct puncts.CloseParen body))
  long-stmt (tree.For start test step a) rest =
      let body = spelling.punct puncts.CloseParen (spelling.stmt a rest) in
      let after_test = spelling.punct puncts.Semicolon (spelling.optional spelling.change step body) in
      let after_start = spelling.optional spelling.expr test after_test in
      omega (arith, long-stmt a rest, long-step step body, long-value test after_test, long-start start after_start)
  long-stmt (tree.Break m) rest = omega arith
  long-stmt (tree.Continue m) rest = omega arith
  long-stmt (tree.Return m e) rest = omega (arith, long-expr e (spelling.punct puncts.Semicolon rest))
  long-stmt (tree.Task m cs a) rest =
      let body = spelling.token kind.PragmaEnd (spelling.stmt a rest) in
      omega (arith, long-stmt a rest, long-clauses cs body)
  long-stmt (tree.Tick m t arrow e) rest =
      let last = spelling.punct puncts.CloseParen (spelling.token kind.PragmaEnd rest) in
      omega (arith, long-expr e last, long-target t (spelling.punct_at puncts.ShiftRight arrow (spelling.expr e last)))
  long-stmt (tree.Taskwait m) rest = omega arith

  long-stmts : (ss : tree.Stmts) (rest : List Symbol) → stmts_weight ss + 16383 * length rest ≤ 16383 * length (spelling.stmts ss rest)
  long-stmts tree.no_stmts rest = omega arith
  long-stmts (tree.stmt a ss) rest = omega (arith, long-stmts ss rest, long-stmt a (spelling.stmts ss rest))

long-more_params : (ns : List Param) (rest : List Symbol) → length ns + length rest ≤ length (spelling.each (λ p. spelling.punct puncts.Comma ⨾ spelling.param p) ns rest)
long-more_params [] rest = omega arith
long-more_params (p ∷ ps) rest =
    let more = spelling.each (λ p. spelling.punct puncts.Comma ⨾ spelling.param p) ps rest in
    omega (arith, long-more_params ps rest, long-type p.ty (spelling.name p.name more))

long-params : (ps : Params) (rest : List Symbol) → length (param_list ps) + length rest ≤ length (spelling.params ps rest)
long-params params_of.Empty rest = omega arith
long-params params_of.Void rest = omega arith
long-params (params_of.Names []) rest = omega arith
long-params (params_of.Names (p ∷ ps)) rest =
    let more = spelling.each (λ p. spelling.punct puncts.Comma ⨾ spelling.param p) ps rest in
    omega (arith, long-more_params ps rest, long-type p.ty (spelling.name p.name more))

long-sign : (minus : Bool) (rest : List Symbol) → length rest ≤ length (spelling.sign minus rest)
long-sign false rest = omega arith
long-sign true rest = omega arith

long-numeral : (wide : Bool) (size : ℕ) (rest : List Symbol) → 1 + length rest ≤ length (spelling.numeral wide size rest)
long-numeral false size rest = omega arith
long-numeral true size rest = omega arith

long-programs_item : (i : tree.ItemTree) (rest : List Symbol) → item_weight i + 16383 * length rest ≤ 16383 * length (spelling.item i rest)
long-programs_item (tree.Constant c) rest =
    let number = spelling.numeral c.wide c.size (spelling.punct puncts.Semicolon rest) in
    let set = spelling.punct puncts.Set (spelling.sign c.minus number) in
    omega (arith, long-sign c.minus number, long-numeral c.wide c.size (spelling.punct puncts.Semicolon rest), long-type c.ty (spelling.name c.name set))
long-programs_item (tree.Function f) rest =
    let body = spelling.stmts f.body (spelling.punct puncts.CloseBrace rest) in
    let behind = spelling.punct puncts.CloseParen (spelling.punct puncts.OpenBrace body) in
    let named = spelling.name f.name (spelling.punct puncts.OpenParen (spelling.params f.params behind)) in
    omega (arith, long-stmts f.body (spelling.punct puncts.CloseBrace rest), long-params f.params behind, long-type f.ty named)

long-program : (is : List tree.ItemTree) (rest : List Symbol) → items_weight is + 16383 * length rest ≤ 16383 * length (spelling.each spelling.item is rest)
long-program [] rest = omega arith
long-program (i ∷ is) rest = omega (arith, long-program is rest, long-programs_item i (spelling.each spelling.item is rest))

-- a program's weight by the number of its tokens
pub weight-spell : (p : tree.ProgramTree) → items_weight p ≤ 16383 * length (spelling.spell p)
weight-spell p = omega (arith, long-program p [], length-map (spelling.symbols p) spelling.kind_of)

-- a function has at least one token
pub functions_few : (is : List tree.ItemTree) → count_functions is ≤ length (spelling.each spelling.item is [])
functions_few [] = omega arith
functions_few (tree.Constant c ∷ is) =
    let rest = spelling.each spelling.item is [] in
    omega (arith, functions_few is, ap length ((prints_item (tree.Constant c)).in_front rest), length-append (spelling.item (tree.Constant c) []) rest)
functions_few (tree.Function f ∷ is) =
    let rest = spelling.each spelling.item is [] in
    let body = spelling.punct puncts.OpenBrace (spelling.stmts f.body (spelling.punct puncts.CloseBrace [])) in
    omega (arith, functions_few is, long-type f.ty (spelling.name f.name (spelling.in_parens (spelling.params f.params) body)), ap length ((prints_item (tree.Function f)).in_front rest), length-append (spelling.item (tree.Function f) []) rest)

-- a program has room that has few tokens
pub room : (p : tree.ProgramTree) → length (spelling.spell p) ≤ 262144 → HasRoom file (items_weight p)
room p few = record {
  slots = omega (arith, weight-spell p, few);
  depth = omega (arith, weight-spell p, few);
  functions = omega (arith, weight-spell p, few);
  elements = omega (arith, weight-spell p, few);
  arrays = omega (arith, weight-spell p, few);
  streams = omega (arith, weight-spell p, few);
  entries = omega (arith, weight-spell p, few);
  order = record { top = 0; stacked = tt; below = λ is. omega arith; outside = λ is. refl };
}
