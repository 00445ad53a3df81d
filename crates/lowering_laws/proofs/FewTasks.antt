-- A program has fewer functions and tasks than tokens: each task has four of its own, and each function one.
use Rattle.std.proofs.Common.{◌≤◌, ◌+◌, ◌*◌, ◌==◌, Bool, true, false, if◌then◌else◌, List, [], ◌∷◌, length, length-append, ap, arith}
use Rattle.std.proofs.lemmas.List.{length-map}
use Rattle.lowering_relation.specs.Tasks.{all_tasks_of, program_tasks, tasks_of}
use Rattle.os_ast.proofs.Prints.{Prints, change, clause, each, optional, params, prints_expr, prints_item, prints_stmt, start, type_words}
use Rattle.os_ast.specs.Names.{main_id}
use Rattle.os_ast.specs.Spelling as spelling
use Rattle.os_ast.specs.Spelling.{Printer, Symbol}
use Rattle.os_ast.specs.Trees as tree
use Rattle.os_lexer.specs.declared.token.Key.TheVariants as keys
use Rattle.os_lexer.specs.declared.token.Kind.TheVariants as kind
use Rattle.os_lexer.specs.declared.token.Punct.TheVariants as puncts
use Rattle.window_check_laws.specs.Globals.{count_functions}

-- what is printed in front of some symbols leaves them there
grows : (p : Printer) → Prints p → (rest : List Symbol) → length rest ≤ length (p rest)
grows p is rest = omega (arith, ap length (is.in_front rest), length-append (p []) rest)

mutual
  in_stmt : (a : tree.StmtTree) (rest : List Symbol) → 4 * length (tasks_of a) + length rest ≤ length (spelling.stmt a rest)
  in_stmt tree.StmtTree.Empty rest = omega (arith, grows (spelling.stmt tree.StmtTree.Empty) (prints_stmt tree.StmtTree.Empty) rest)
  in_stmt (tree.Block ss) rest = omega (arith, in_stmts ss (spelling.punct puncts.CloseBrace rest))
  in_stmt (tree.StmtTree.Declare t ds) rest = omega (arith, grows (spelling.stmt (tree.StmtTree.Declare t ds)) (prints_stmt (tree.StmtTree.Declare t ds)) rest)
  in_stmt (tree.StmtTree.Change c) rest = omega (arith, grows (spelling.stmt (tree.StmtTree.Change c)) (prints_stmt (tree.StmtTree.Change c)) rest)
  in_stmt (tree.StmtTree.Call f es) rest = omega (arith, grows (spelling.stmt (tree.StmtTree.Call f es)) (prints_stmt (tree.StmtTree.Call f es)) rest)
  in_stmt (tree.If c a) rest =
      omega (arith, in_stmt a rest, grows (spelling.expr c) (prints_expr c) (spelling.punct puncts.CloseParen (spelling.stmt a rest)))
  in_stmt (tree.IfElse c a b) rest =
      let second = spelling.stmt b rest in
      let first = spelling.stmt a (spelling.key keys.Else second) in
      omega (
        arith,
        length-append (tasks_of a) (tasks_of b),
        in_stmt b rest,
        in_stmt a (spelling.key keys.Else second),
        grows (spelling.expr c) (prints_expr c) (spelling.punct puncts.CloseParen first),
      )
  in_stmt (tree.While c a) rest =
      omega (arith, in_stmt a rest, grows (spelling.expr c) (prints_expr c) (spelling.punct puncts.CloseParen (spelling.stmt a rest)))
  in_stmt (tree.For st test step a) rest =
      let body = spelling.punct puncts.CloseParen (spelling.stmt a rest) in
      let after_test = spelling.punct puncts.Semicolon (spelling.optional spelling.change step body) in
      let after_start = spelling.optional spelling.expr test after_test in
      omega (
        arith,
        in_stmt a rest,
        grows (spelling.optional spelling.change step) (optional spelling.change change step) body,
        grows (spelling.optional spelling.expr test) (optional spelling.expr prints_expr test) after_test,
        grows (spelling.start st) (start st) after_start,
      )
  in_stmt (tree.Break m) rest = omega (arith, grows (spelling.stmt (tree.Break m)) (prints_stmt (tree.Break m)) rest)
  in_stmt (tree.Continue m) rest = omega (arith, grows (spelling.stmt (tree.Continue m)) (prints_stmt (tree.Continue m)) rest)
  in_stmt (tree.Return m e) rest = omega (arith, grows (spelling.stmt (tree.Return m e)) (prints_stmt (tree.Return m e)) rest)
  in_stmt (tree.Task m cs a) rest =
      let body = spelling.token kind.PragmaEnd (spelling.stmt a rest) in
      omega (arith, grows (spelling.stmt a) (prints_stmt a) rest, grows (spelling.each spelling.clause cs) (each spelling.clause clause cs) body)
  in_stmt (tree.Tick m t arrow e) rest = omega (arith, grows (spelling.stmt (tree.Tick m t arrow e)) (prints_stmt (tree.Tick m t arrow e)) rest)
  in_stmt (tree.Taskwait m) rest = omega (arith, grows (spelling.stmt (tree.Taskwait m)) (prints_stmt (tree.Taskwait m)) rest)

  in_stmts : (ss : tree.Stmts) (rest : List Symbol) → 4 * length (all_tasks_of ss) + length rest ≤ length (spelling.stmts ss rest)
  in_stmts tree.no_stmts rest = omega arith
  in_stmts (tree.stmt a ss) rest =
      omega (arith, length-append (tasks_of a) (all_tasks_of ss), in_stmts ss rest, in_stmt a (spelling.stmts ss rest))

in_items : (is : List tree.ItemTree) (rest : List Symbol)
    → count_functions is + 4 * length (program_tasks is) + length rest ≤ length (spelling.each spelling.item is rest)
in_items [] rest = omega arith
in_items (tree.Constant c ∷ is) rest =
    omega (arith, in_items is rest, grows (spelling.item (tree.Constant c)) (prints_item (tree.Constant c)) (spelling.each spelling.item is rest))
in_items (tree.Function f ∷ is) rest =
    let more = spelling.each spelling.item is rest in
    let body = spelling.stmts f.body (spelling.punct puncts.CloseBrace more) in
    let behind = spelling.punct puncts.CloseParen (spelling.punct puncts.OpenBrace body) in
    let named = spelling.name f.name (spelling.punct puncts.OpenParen (spelling.params f.params behind)) in
    omega (
      arith,
      chosen (f.name.id == main_id),
      in_items is rest,
      in_stmts f.body (spelling.punct puncts.CloseBrace more),
      grows (spelling.params f.params) (params f.params) behind,
      grows (spelling.type_words f.ty) (type_words f.ty) named,
    )
  where
    chosen : (b : Bool) → length (if b then all_tasks_of f.body else program_tasks is) ≤ length (all_tasks_of f.body) + length (program_tasks is)
    chosen true = omega arith
    chosen false = omega arith

pub few_parts : (p : tree.ProgramTree) → count_functions p + 4 * length (program_tasks p) ≤ length (spelling.spell p)
few_parts p = omega (arith, in_items p [], length-map (spelling.symbols p) spelling.kind_of)
