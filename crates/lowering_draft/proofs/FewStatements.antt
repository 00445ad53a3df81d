-- Statements have few instructions for their tokens, with the units of their tasks.
use Rattle.std.proofs.Common.{◌≡◌, ◌∙◌, ℕ, ◌+◌, ◌*◌, ◌≤◌, List, [], ◌∷◌, ◌++◌, length, length-append, Option, Some, None, ap, arith}
use Rattle.lowering_draft.proofs.ExpressionsStand.{length-instr}
use Rattle.lowering_draft.proofs.FewChanges.{change_pays, declarators_pay, start_pays, type_words_grow}
use Rattle.lowering_draft.proofs.FewExpressions.{condition_pays, expr_pays}
use Rattle.lowering_draft.proofs.FewTasks.{clauses_pay, tick_pays}
use Rattle.lowering_draft.proofs.Paying.{Pays}
use Rattle.lowering_draft.specs.Draft.{next_label, with_instr, with_label, with_place, with_spawn}
use Rattle.lowering_draft.specs.Emission.Changes.{change_code}
use Rattle.lowering_draft.specs.Emission.Conditions.{condition_code}
use Rattle.lowering_draft.specs.Emission.Declarators.{declarators_code, start_code}
use Rattle.lowering_draft.specs.Emission.Expressions.{expr_code}
use Rattle.lowering_draft.specs.Emission.Statements.{StmtPart, block_code, closed, end_of, in_loop, jump_on, loop_code, opened, rest_code, stmt_code, test_code}
use Rattle.lowering_draft.specs.Emission.Tasks.{items_code, tick_code}
use Rattle.lowering_draft.specs.Few.{units_most}
use Rattle.lowering_draft.specs.declared.draft.Draft.{Draft}
use Rattle.lowering_draft.specs.declared.draft.Label.{Label}
use Rattle.lowering_draft.specs.declared.exits.Exits.{Exits}
use Rattle.os_ast.proofs.Prints.{prints_stmt}
use Rattle.os_ast.specs.ClauseMembers.{members}
use Rattle.os_ast.specs.Spelling as spelling
use Rattle.os_ast.specs.Spelling.{Symbol, Printer, bare, change, clause, each, expr, optional, params, stmt, stmts, ◌⨾◌}
use Rattle.os_ast.specs.Trees as tree
use Rattle.os_ast.specs.declared.names.Resolved.{Resolved}
use Rattle.os_ast.specs.declared.program.Param.{Param}
use Rattle.os_ast.specs.declared.program.Params.{Params}
use Rattle.os_ast.specs.declared.program.Params.TheVariants as params_of
use Rattle.os_code.specs.declared.instr.Instr.TheVariants.{Drop, Jump, Spawn, Turn}
use Rattle.os_lexer.specs.declared.token.Key.TheVariants as keys
use Rattle.os_lexer.specs.declared.token.Kind.{Kind}
use Rattle.os_lexer.specs.declared.token.Kind.TheVariants as kind
use Rattle.os_lexer.specs.declared.token.Punct.TheVariants as puncts
use Rattle.lowering_relation.specs.Tasks.{TaskTree, all_tasks_of, tasks_of}

-- The tokens of a part pay for its code and for the units of its tasks, but for at most `more` instructions.
abbrev PartPays : StmtPart → Printer → (units more : ℕ) → Type 0
PartPays f p units more = (x : Exits) (next : Option Label) (d : Draft) (rest : List Symbol) →
    length (f x next d).instrs + units + 8 * length rest ≤ length d.instrs + 8 * length (p rest) + more

pub units_most-append : (ts us : List TaskTree) → units_most (ts ++ us) ≡ units_most ts + units_most us
units_most-append [] us = omega arith
units_most-append (t ∷ ts) us = omega (arith, units_most-append ts us)

jump_few : (next : Option Label) (d : Draft) → length (jump_on next d).instrs ≤ length d.instrs + 1
jump_few None d = omega arith
jump_few (Some next) d = omega (arith, length-instr d (Jump next.number))

length-opened : (next : Option Label) (d : Draft) → length (opened next d).instrs ≡ length d.instrs
length-opened None d = omega arith
length-opened (Some next) d = omega arith

length-closed : (next : Option Label) (end : Label) (d : Draft) → length (closed next end d).instrs ≡ length d.instrs
length-closed None end d = omega arith
length-closed (Some next) end d = omega arith

stmt_tokens : (a : tree.StmtTree) (rest : List Symbol) → length (stmt a rest) ≡ length (stmt a []) + length rest
stmt_tokens a rest = ap (λ (ps : List Symbol). length ps) ((prints_stmt a).in_front rest) ∙ length-append (stmt a []) rest

module _ (tells : ℕ → Resolved) where
  test_pays : (test : Option tree.ExprTree) (end : Label) → Pays (test_code tells test end) (optional expr test) 1
  test_pays None end d rest = omega arith
  test_pays (Some e) end d rest = omega (arith, condition_pays tells e end d rest)

  -- A loop, by the tokens of its test, its step and its body; its turn, its test and its jump are three more.
  loop_few : (test : Option tree.ExprTree) (step : Option tree.ChangeTree) (x : Exits) (end : Label) (a : StmtPart) (p : Printer) (units : ℕ) → PartPays a p units 0
      → (d : Draft) (rest between behind : List Symbol)
      → length (loop_code tells test step x end a d).instrs + units + 8 * (length rest + length between + length behind)
      ≤ length d.instrs + 8 * (length (p rest) + length (optional expr test between) + length (optional change step behind)) + 3
  loop_few test None x end a p units pays d rest between behind =
      let again = next_label d in
      let d2 = with_place (with_label d) again in
      let d3 = with_instr d2 Turn in
      let dt = test_code tells test end d3 in
      omega (arith, length-instr d2 Turn, test_pays test end d3 between, pays (in_loop x end again) (Some again) dt rest)
  loop_few test (Some c) x end a p units pays d rest between behind =
      let again = next_label d in
      let d2 = with_place (with_label d) again in
      let d3 = with_instr d2 Turn in
      let dt = test_code tells test end d3 in
      let step = next_label dt in
      let da = a (in_loop x end step) None (with_label dt) in
      let ds = with_place da step in
      omega (
        arith,
        length-instr d2 Turn,
        test_pays test end d3 between,
        pays (in_loop x end step) None (with_label dt) rest,
        change_pays tells c ds behind,
        length-instr (change_code tells c ds) (Jump again.number),
      )

  abbrev punct : Kind → List Symbol → List Symbol
  punct k rest = bare k ∷ rest

  mutual
    pub stmt_pays : (s : tree.StmtTree) → PartPays (stmt_code tells s) (stmt s) (units_most (tasks_of s)) 0
    stmt_pays tree.StmtTree.Empty x next d rest = omega (arith, jump_few next d)
    stmt_pays (tree.Block ss) x next d rest = omega (arith, block_pays ss x next d (punct (kind.Punct puncts.CloseBrace) rest))
    stmt_pays (tree.StmtTree.Declare ty ds) x next d rest = omega (arith, declarators_pay tells ty ds d rest, jump_few next (declarators_code tells ds d))
    stmt_pays (tree.StmtTree.Change c) x next d rest =
        omega (arith, change_pays tells c d (punct (kind.Punct puncts.Semicolon) rest), jump_few next (change_code tells c d))
    stmt_pays (tree.StmtTree.Call f args) x next d rest =
        let made = expr_code tells (tree.ExprTree.Call f args) d in
        omega (
          arith,
          expr_pays tells (tree.ExprTree.Call f args) d (punct (kind.Punct puncts.Semicolon) rest),
          length-instr made Drop,
          jump_few next (with_instr made Drop),
        )
    stmt_pays (tree.If c a) x next d rest =
        let end = end_of next d in
        let d1 = opened next d in
        let dc = condition_code tells c end d1 in
        omega (
          arith,
          length-opened next d,
          condition_pays tells c end d1 (punct (kind.Punct puncts.CloseParen) (stmt a rest)),
          stmt_pays a x next dc rest,
          length-closed next end (stmt_code tells a x next dc),
        )
    stmt_pays (tree.IfElse c a b) x next d rest =
        let end = end_of next d in
        let d1 = opened next d in
        let otherwise = next_label d1 in
        let dc = condition_code tells c otherwise (with_label d1) in
        let da = stmt_code tells a x (Some end) dc in
        let d2 = with_place da otherwise in
        let second = bare (kind.Key keys.Else) ∷ stmt b rest in
        omega (
          arith,
          length-opened next d,
          condition_pays tells c otherwise (with_label d1) (punct (kind.Punct puncts.CloseParen) (stmt a second)),
          stmt_pays a x (Some end) dc second,
          stmt_pays b x next d2 rest,
          length-closed next end (stmt_code tells b x next d2),
          units_most-append (tasks_of a) (tasks_of b),
        )
    stmt_pays (tree.While c a) x next d rest =
        let end = end_of next d in
        let d1 = opened next d in
        let made = loop_code tells (Some c) None x end (stmt_code tells a) d1 in
        omega (
          arith,
          length-opened next d,
          length-closed next end made,
          loop_few (Some c) None x end (stmt_code tells a) (stmt a) (units_most (tasks_of a)) (stmt_pays a) d1 rest
              (punct (kind.Punct puncts.CloseParen) (stmt a rest)) [],
        )
    stmt_pays (tree.For start test step a) x next d rest =
        let end = end_of next d in
        let d1 = opened next d in
        let begun = start_code tells start d1 in
        let made = loop_code tells test step x end (stmt_code tells a) begun in
        let behind = punct (kind.Punct puncts.CloseParen) (stmt a rest) in
        let between = punct (kind.Punct puncts.Semicolon) (optional change step behind) in
        omega (
          arith,
          length-opened next d,
          length-closed next end made,
          start_pays tells start d1 (optional expr test between),
          loop_few test step x end (stmt_code tells a) (stmt a) (units_most (tasks_of a)) (stmt_pays a) begun rest between behind,
        )
    stmt_pays (tree.Break m) x next d rest = omega (arith, length-instr d (Jump x.broke.number))
    stmt_pays (tree.Continue m) x next d rest = omega (arith, length-instr d (Jump x.continued.number))
    stmt_pays (tree.Return m e) x next d rest =
        omega (arith, expr_pays tells e d (punct (kind.Punct puncts.Semicolon) rest), length-instr (expr_code tells e d) x.leaves)
    stmt_pays (tree.Task m cs a) x next d rest =
        let made = items_code tells (members cs) d in
        omega (
          arith,
          clauses_pay tells cs d (punct kind.PragmaEnd (stmt a rest)),
          length-append made.instrs (Spawn made.spawned ∷ []),
          jump_few next (with_spawn made),
          stmt_tokens a rest,
        )
    stmt_pays (tree.Tick m t arrow e) x next d rest =
        omega (
          arith,
          tick_pays tells t arrow e arrow.line d (punct (kind.Punct puncts.CloseParen) (punct kind.PragmaEnd rest)),
          jump_few next (tick_code tells t arrow.line e d),
        )
    stmt_pays (tree.Taskwait m) x next d rest = omega (arith, jump_few next d)

    pub block_pays : (ss : tree.Stmts) → PartPays (block_code tells ss) (stmts ss) (units_most (all_tasks_of ss)) 1
    block_pays tree.no_stmts x next d rest = omega (arith, jump_few next d)
    block_pays (tree.stmt a more) x next d rest =
        omega (
          arith,
          rest_pays more (stmt_code tells a) (stmt a) (units_most (tasks_of a)) (stmt_pays a) x next d rest,
          units_most-append (tasks_of a) (all_tasks_of more),
        )

    rest_pays : (more : tree.Stmts) (a : StmtPart) (p : Printer) (units : ℕ) → PartPays a p units 0
        → (x : Exits) (next : Option Label) (d : Draft) (rest : List Symbol)
        → length (rest_code tells more x next a d).instrs + (units + units_most (all_tasks_of more)) + 8 * length rest
        ≤ length d.instrs + 8 * length (p (stmts more rest))
    rest_pays tree.no_stmts a p units pays x next d rest = omega (arith, pays x next d rest)
    rest_pays (tree.stmt b more) a p units pays x next d rest =
        omega (
          arith,
          pays x None d (stmts (tree.stmt b more) rest),
          rest_pays more (stmt_code tells b) (stmt b) (units_most (tasks_of b)) (stmt_pays b) x next (a x None d) rest,
          units_most-append (tasks_of b) (all_tasks_of more),
        )

-- parameters behind the first one
abbrev more_params : List Param → List Symbol → List Symbol
more_params ps rest = each (λ p. spelling.punct puncts.Comma ⨾ spelling.param p) ps rest

more_grow : (ps : List Param) (rest : List Symbol) → length rest ≤ length (more_params ps rest)
more_grow [] rest = omega arith
more_grow (p ∷ ps) rest = omega (arith, more_grow ps rest, type_words_grow p.ty (spelling.name p.name (more_params ps rest)))

params_grow : (ps : Params) (rest : List Symbol) → length rest ≤ length (params ps rest)
params_grow params_of.Empty rest = omega arith
params_grow params_of.Void rest = omega arith
params_grow (params_of.Names []) rest = omega arith
params_grow (params_of.Names (p ∷ ps)) rest = omega (arith, more_grow ps rest, type_words_grow p.ty (spelling.name p.name (more_params ps rest)))

pub function_pays : (tells : ℕ → Resolved) (f : tree.FunctionTree)
    → PartPays (λ x next d. block_code tells f.body x next d) (spelling.function f) (units_most (all_tasks_of f.body) + 2) 0
function_pays tells f x next d rest =
    let closed = bare (kind.Punct puncts.CloseBrace) ∷ rest in
    let behind = bare (kind.Punct puncts.CloseParen) ∷ bare (kind.Punct puncts.OpenBrace) ∷ stmts f.body closed in
    omega (
      arith,
      block_pays tells f.body x next d closed,
      params_grow f.params behind,
      type_words_grow f.ty (spelling.name f.name (bare (kind.Punct puncts.OpenParen) ∷ params f.params behind)),
    )
