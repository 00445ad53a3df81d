use Rattle.std.proofs.Common.{◌≡◌, ◌<◌, Bool, map, option_map, pos, arith, rules, refl, ap, ◌∙◌, sym, subst, Ok, length, get_or, [], to_z, of_z, w32, ℕ, ℤ}
use Rattle.std.specs.List.{take-map}
use Rattle.std.specs.Option.{option_copied}
use Rattle.os_ast.specs.Trees as ast
use Rattle.os_ast.specs.ClauseMembers as clauses
use Rattle.os_ast.specs.declared.pragma.ClauseKind.{ClauseKind}
use Rattle.cddf_meaning.specs.Answers.{Answer, Left, left}
use Rattle.cddf_meaning.specs.File.{type_in}
use Rattle.cddf_meaning.specs.Run.{run, run_step, run_test}
use Rattle.cddf_meaning_plain_state.specs.Stops.{Evaluates, Leaves, Stops}
use Rattle.cddf_meaning.specs.Streams.{items_claims}
use Rattle.cddf_meaning.specs.Value.{chained, linked, value}
use Rattle.std.proofs.lemmas.Result.{err_from_is_err_and}
use Rattle.os_ast.proofs.Rows.{expr_tree-call, expr_tree-chain, stmt_tree-block}
use Rattle.cddf_meaning.specs.Functions.{bind_params, file_of, result_of, returned}
use Rattle.cddf_meaning.specs.BodyState.{state_of}
use Rattle.cddf_meaning_plain_state.specs.Claimed.{behind}
use Rattle.cddf_meaning_plain_tasks.specs.Arounds.{around_of}
use Rattle.cddf_meaning_plain.specs.Weights.{args_weight, clause_weight, declarator_weight, expr_weight, file_weight, item_weight, links_weight, stmt_weight, stmts_weight, weights}
use Rattle.os_ast.specs.Views.{args_tree, change_tree, clause_item_tree, clause_kind_tree, clause_tree, declarator_tree, expr_tree, function_tree, item_tree, links_tree, stmt_tree, stmts_tree}
use Rattle.cddf_meaning_plain.proofs.Claiming.{clause-goes, clause-stops, privates-claim}
use Rattle.cddf_meaning_plain.proofs.Lighter.{arg-lighter, function-lighter, link-lighter, part-lighter, stmt-lighter}
use Rattle.cddf_meaning_plain.proofs.Looping.{loop-kept, loop-left, not-zero}
use Rattle.cddf_meaning_plain.proofs.Called.{call-one, call-zero, calls-none, calls-some}
use Rattle.cddf_meaning_plain.proofs.Stopping.{stops-as, stops-over, stops-returned, stops-then, then-gives}
use Rattle.cddf_meaning_plain.proofs.+meaning.Goals as goal

pub value::value-called-requires : goal.value::value-called-requires
value::value-called-requires t c =
    let call = ap (λ e. expr_weight (expr_tree e)) c.in-Call.is ∙ ap expr_weight (expr_tree-call c.in-Call.call) in
    (omega (arith, call), tt)

pub value::value-chained-requires : goal.value::value-chained-requires
value::value-chained-requires t c =
    let chain = ap (λ e. expr_weight (expr_tree e)) c.in-Chain.is
    ∙ ap expr_weight (expr_tree-chain c.in-Chain.field-0 c.in-Chain.first c.in-Chain.links) in
    (omega (arith, chain), tt)

pub value::value-returns-in-Call-clause-gives : goal.value::value-returns-in-Call-clause-gives
value::value-returns-in-Call-clause-gives t c =
    let tree = ap expr_tree c.in-Call.is ∙ expr_tree-call c.in-Call.call in
    let P : ast.ExprTree → Type 0 = λ e.
    Evaluates c.called.result c.called.new.turns (value (file_of (map item_tree c.args.file.now)) e c.args.state.now c.args.turns.now) in
    subst P (sym tree) c.called.ensures.gives

pub value::value-returns-in_ok-number-in-Chain-clause-gives : goal.value::value-returns-in_ok-number-in-Chain-clause-gives
value::value-returns-in_ok-number-in-Chain-clause-gives t c =
    let tree = ap expr_tree c.in-Chain.is ∙ expr_tree-chain c.in-Chain.field-0 c.in-Chain.first c.in-Chain.links in
    let file = file_of (map item_tree c.args.file.now) in
    let s = c.args.state.now in
    let links = links_tree c.in-Chain.links in
    let rest = c.value-in-Chain.new.turns in
    let P : ast.ExprTree → Type 0 = λ e. Evaluates c.chained.result c.chained.new.turns (value file e s c.args.turns.now) in
    let number = c.in_ok-number-in-Chain.number in
    let unsigned = c.type_of-unsigned-in-Chain.result in
    let same : c.in-Chain.first.value ≡ c.deref-in-Chain.result.now = first_of (search (rules, c.deref-in-Chain.ensures), cc) in
    let again : c.in-Chain.first.value ≡ c.deref-in-Chain-2.result.now = first_of (search (rules, c.deref-in-Chain-2.ensures), cc) in
    let kind : unsigned ≡ type_in file s (expr_tree c.in-Chain.first.value) =
    c.type_of-unsigned-in-Chain.ensures ∙ ap (λ e. type_in file s (expr_tree e)) (sym again) in
    let next : Left ℤ → Answer (Left ℤ) = chained file links s (type_in file s (expr_tree c.in-Chain.first.value)) in
    let fits : to_z w32 (of_z w32 number) ≡ number = first_of (search rules, grind (arith, rules)) in
    let Q : ℤ → Type 0 = λ v. Evaluates c.chained.result c.chained.new.turns (chained file links s unsigned (left v rest)) in
    let R : Bool → Type 0 = λ u. Evaluates c.chained.result c.chained.new.turns (chained file links s u (left number rest)) in
    subst P (sym tree)
    (then-gives c.chained.result c.chained.new.turns _ _ next
    (ap (λ e. value file (expr_tree e) s c.args.turns.now) same ∙ c.in_ok-number-in-Chain.ensures.gives)
    (subst R kind (subst Q fits c.chained.ensures.gives)))

pub value::linked-returns-then-not-needs_right-clause-gives : goal.value::linked-returns-then-not-needs_right-clause-gives
value::linked-returns-then-not-needs_right-clause-gives t c =
    let link = c.args.link.now in
    let types = c.args.types in
    let turns = c.args.turns.now in
    let right : ℕ → Answer (Left ℤ) = value (file_of (map item_tree c.args.file.now)) (expr_tree link.right) c.args.state.now in
    let fits : to_z w32 (of_z w32 c.args.left) ≡ c.args.left = first_of (search rules, grind (arith, rules)) in
    let P : ℤ → Type 0 = λ a. Evaluates c.link_value.result turns (linked link.op link.mark.line types.left types.right (left a turns) right) in
    let Q : Answer (Left ℤ) → Type 0 = λ x. Evaluates c.link_value.result turns x in
    subst P fits
    (subst Q (sym (c.needs_right.ensures.not_needed c.if-not-needs_right.true link.mark.line turns types.left types.right right (pos 0)))
    (c.link_value.ensures turns))

pub value::linked-returns-in_err-right-clause-gives : goal.value::linked-returns-in_err-right-clause-gives
value::linked-returns-in_err-right-clause-gives t c =
    let link = c.args.link.now in
    let types = c.args.types in
    let turns = c.args.turns.now in
    let right : ℕ → Answer (Left ℤ) = value (file_of (map item_tree c.args.file.now)) (expr_tree link.right) c.args.state.now in
    let a = to_z w32 (of_z w32 c.args.left) in
    let fits : to_z w32 (of_z w32 c.args.left) ≡ c.args.left = first_of (search rules, grind (arith, rules)) in
    let next : Left ℤ → Answer (Left ℤ) = λ b. linked link.op link.mark.line types.left types.right (left a b.turns) (λ turns. Ok (left b.value turns)) in
    let reason = c.in_err-right.field-0.0 in
    let P : ℤ → Type 0 = λ a. Stops reason (linked link.op link.mark.line types.left types.right (left a turns) right) in
    let p = err_from_is_err_and c.from_residual.result c.from_residual.ensures.1 in
    rw (p.1, p.2)
    (subst P fits
    (stops-as reason _ _ (c.needs_right.ensures.needed c.if-not-needs_right.false link.mark.line turns types.left types.right right)
    (stops-then reason (right turns) next c.in_err-right.ensures.gives)))

pub value::linked-returns-clause-gives : goal.value::linked-returns-clause-gives
value::linked-returns-clause-gives t c =
    let link = c.args.link.now in
    let types = c.args.types in
    let turns = c.args.turns.now in
    let right : ℕ → Answer (Left ℤ) = value (file_of (map item_tree c.args.file.now)) (expr_tree link.right) c.args.state.now in
    let a = to_z w32 (of_z w32 c.args.left) in
    let fits : to_z w32 (of_z w32 c.args.left) ≡ c.args.left = first_of (search rules, grind (arith, rules)) in
    let next : Left ℤ → Answer (Left ℤ) = λ b. linked link.op link.mark.line types.left types.right (left a b.turns) (λ turns. Ok (left b.value turns)) in
    let rest = c.value.new.turns in
    let number = c.in_ok-right.right in
    let same : to_z w32 (of_z w32 number) ≡ number = first_of (search rules, grind (arith, rules)) in
    let P : ℤ → Type 0 = λ a. Evaluates c.link_value-2.result rest (linked link.op link.mark.line types.left types.right (left a turns) right) in
    let Q : Answer (Left ℤ) → Type 0 = λ x. Evaluates c.link_value-2.result rest x in
    let R : ℤ → Type 0 = λ v. Evaluates c.link_value-2.result rest (next (left v rest)) in
    subst P fits
    (subst Q (sym (c.needs_right.ensures.needed c.if-not-needs_right.false link.mark.line turns types.left types.right right))
    (then-gives c.link_value-2.result rest (right turns) (left number rest) next c.in_ok-right.ensures.gives
    (subst R same (c.link_value-2.ensures rest))))

pub value::arguments-value-requires : goal.value::arguments-value-requires
value::arguments-value-requires t c =
    let items = c.as_slice-arg-items.result.now in
    let lighter = arg-lighter items c.loop-arg.arg-index c.arg-item.result (omega (arith, c.loop-arg-test, c.loop-arg)) c.arg-item.is in
    let list = ap (λ es. args_weight (args_tree es)) c.as_slice-arg-items.ensures in
    (omega (arith, lighter, list), tt)

pub value::chained-linked-requires : goal.value::chained-linked-requires
value::chained-linked-requires t c =
    let items = c.as_slice-link-items.result.now in
    let lighter = link-lighter items c.loop-link.link-index c.link-item.result (omega (arith, c.loop-link-test, c.loop-link)) c.link-item.is in
    let list = ap (λ ls. links_weight (links_tree ls)) c.as_slice-link-items.ensures in
    (omega (arith, lighter, list), tt)

pub run::stmts-stmt-requires : goal.run::stmts-stmt-requires
run::stmts-stmt-requires t c =
    let items = c.as_slice-next-items.result.now in
    let lighter = stmt-lighter items c.loop-next.next-index c.next-item.result (omega (arith, c.loop-next-test, c.loop-next)) c.next-item.is in
    let list = ap (λ ss. stmts_weight (stmts_tree ss)) c.as_slice-next-items.ensures in
    (omega (arith, lighter, list), tt)

pub run::stmt-block-requires : goal.run::stmt-block-requires
run::stmt-block-requires t c =
    let block = ap (λ s. stmt_weight (stmt_tree s)) c.in-Block.is ∙ ap stmt_weight (stmt_tree-block c.in-Block.list) in
    (omega (arith, block), tt)

pub run::stmt-returns-in-Block-clause-leaves : goal.run::stmt-returns-in-Block-clause-leaves
run::stmt-returns-in-Block-clause-leaves t c =
    let tree = ap stmt_tree c.in-Block.is ∙ stmt_tree-block c.in-Block.list in
    let P : ast.StmtTree → Type 0 = λ s.
    Leaves c.block.result c.block.new.state c.block.new.turns (run (around_of c.args.around.now) s c.args.state.now c.args.turns.now) in
    subst P (sym tree) c.block.ensures.leaves

pub run::declarators-declarator-requires : goal.run::declarators-declarator-requires
run::declarators-declarator-requires t c =
    let items = c.as_slice-next-items.result.now in
    let lighter = part-lighter declarator_weight declarator_tree items c.loop-next.next-index c.next-item.result
    (omega (arith, c.loop-next-test, c.loop-next)) c.next-item.is in
    let list = ap (λ ds. weights declarator_weight (map declarator_tree ds)) c.as_slice-next-items.ensures in
    (omega (arith, lighter, list), tt)

pub run::tested-returns-in-None-clause-gives : goal.run::tested-returns-in-None-clause-gives
run::tested-returns-in-None-clause-gives t c = rw c.in-None.is (pos 1, refl, refl)

pub streams::add_claims-item_claim-requires : goal.streams::add_claims-item_claim-requires
streams::add_claims-item_claim-requires t c =
    let items = c.as_slice-item-items.result.now in
    let lighter = part-lighter item_weight clause_item_tree items c.loop-item.item-index c.item-item.result
    (omega (arith, c.loop-item-test, c.loop-item)) c.item-item.is in
    let list = ap (λ is. weights item_weight (map clause_item_tree is)) c.as_slice-item-items.ensures in
    (omega (arith, lighter, list), tt)

pub streams::all_claims-clause_claims-requires : goal.streams::all_claims-clause_claims-requires
streams::all_claims-clause_claims-requires t c =
    let items = c.as_slice-clause-items.result.now in
    let lighter = part-lighter clause_weight clause_tree items c.loop-clause.clause-index c.clause-item.result
    (omega (arith, c.loop-clause-test, c.loop-clause)) c.clause-item.is in
    let list = ap (λ cs. weights clause_weight (map clause_tree cs)) c.as_slice-clause-items.ensures in
    (omega (arith, lighter, list), tt)

pub streams::all_claims-returns-in_err-clause_claims-clause-claims : goal.streams::all_claims-returns-in_err-clause_claims-clause-claims
streams::all_claims-returns-in_err-clause_claims-clause-claims t c =
    let items = c.as_slice-clause-items.result.now in
    let clauses = c.args.clauses.now in
    let same = c.as_slice-clause-items.ensures in
    let i = c.loop-clause.clause-index in
    let clause = c.clause-item.result in
    let inside : i < length items = omega (arith, c.loop-clause-test, c.loop-clause) in
    let within : i < length clauses = omega (arith, inside, ap length same) in
    let p = err_from_is_err_and c.from_residual.result c.from_residual.ensures.1 in
    rw (p.1, p.2)
    (clause-stops (file_of (map item_tree c.args.file.now)) clauses i clause c.args.state.now c.loop-clause.turns c.loop-clause.claims _
    c.in_err-clause_claims.field-0.0 within (c.clause-item.is ∙ ap (λ xs. get_or xs i clause) same) c.loop-clause.invariant.0
    c.in_err-clause_claims.ensures.adds)

pub streams::all_claims-loop-clause-preserved : goal.streams::all_claims-loop-clause-preserved
streams::all_claims-loop-clause-preserved t c =
    let items = c.as_slice-clause-items.result.now in
    let clauses = c.args.clauses.now in
    let same = c.as_slice-clause-items.ensures in
    let i = c.loop-clause.clause-index in
    let clause = c.clause-item.result in
    let inside : i < length items = omega (arith, c.loop-clause-test, c.loop-clause) in
    let within : i < length clauses = omega (arith, inside, ap length same) in (
      clause-goes (file_of (map item_tree c.args.file.now)) clauses i clause c.args.state.now c.loop-clause.turns c.clause_claims.new.turns
          c.loop-clause.claims c.clause_claims.new.claims _ within (c.clause-item.is ∙ ap (λ xs. get_or xs i clause) same) c.loop-clause.invariant.0
          c.in_ok-clause_claims.ensures.adds,
      omega (arith, c.loop-clause.invariant.1, c.in_ok-clause_claims.ensures.fewer),
    )

pub run::repeat-loop-alloc-preserved : goal.run::repeat-loop-alloc-preserved
run::repeat-loop-alloc-preserved t c =
    let u = around_of c.args.around.now in
    let test = c.in_ok-tested.ensures.gives in
    let nonzero = not-zero test.0 c.in_ok-tested.field-0 test.2 c.if-not-branch.false in
    let stepped = ap (λ o. run_step u.file (option_map change_tree (option_copied o)) c.stmt.new.state c.stmt.new.turns) (sym c.in-Ok.ensures.step)
    ∙ c.in_ok-stepped-in-Ok.ensures.goes_on in
    let kept = loop-kept c.loop-alloc.invariant.0 c.loop-alloc.turns c.take_turn.new.turns c.tested.new.turns c.stmt.new.turns
    c.stepped.new.turns (run_test u.file (option_map expr_tree (option_copied c.args.test))) (run u (stmt_tree c.args.body.now))
    (run_step u.file (option_map change_tree (option_copied c.args.step))) c.loop-alloc.state c.stmt.new.state c.stepped.new.state
    test.0 c.in_ok-flow.flow _ c.loop-alloc.invariant.1 c.in_ok-take_turn.ensures.taken c.loop-alloc.invariant.2 test.1 nonzero
    c.in_ok-flow.ensures.leaves c.in-Ok.ensures.goes_on stepped
    (omega (arith, c.in_ok-stepped-in-Ok.ensures.fewer, c.in_ok-flow.ensures.fewer, c.in_ok-tested.ensures.fewer)) in (
      kept.0,
      kept.1,
      kept.2,
      omega (
        arith,
        c.loop-alloc.invariant.3,
        c.in_ok-stepped-in-Ok.ensures.fewer,
        c.in_ok-flow.ensures.fewer,
        c.in_ok-tested.ensures.fewer,
        c.in_ok-take_turn.ensures.fewer,
      ),
    )

pub run::repeat-returns-in-Err-clause-leaves : goal.run::repeat-returns-in-Err-clause-leaves
run::repeat-returns-in-Err-clause-leaves t c =
    let u = around_of c.args.around.now in
    let test = c.in_ok-tested.ensures.gives in
    let nonzero = not-zero test.0 c.in_ok-tested.field-0 test.2 c.if-not-branch.false in
    loop-left c.loop-alloc.invariant.0 c.loop-alloc.turns c.take_turn.new.turns c.tested.new.turns c.stmt.new.turns
    (run_test u.file (option_map expr_tree (option_copied c.args.test))) (run u (stmt_tree c.args.body.now))
    (run_step u.file (option_map change_tree (option_copied c.args.step))) c.loop-alloc.state c.stmt.new.state
    test.0 c.in_ok-flow.flow c.in-Err.left _ c.loop-alloc.invariant.1 c.in_ok-take_turn.ensures.taken c.loop-alloc.invariant.2 test.1 nonzero
    c.in_ok-flow.ensures.leaves c.in-Err.ensures.leaves

pub functions::call_function-returns-in-None-clause-gives : goal.functions::call_function-returns-in-None-clause-gives
functions::call_function-returns-in-None-clause-gives t c =
    stops-over c.over_budget.result _ c.over_budget.ensures
    (calls-none c.args.file.now c.args.place c.args.args.now c.args.turns.now c.in-None.ensures.function)

pub functions::call_function-entered-requires : goal.functions::call_function-entered-requires
functions::call_function-entered-requires t c =
    let f = function_tree c.in-Some.function.now in
    let lighter = function-lighter (map item_tree c.args.file.now) c.args.place f c.in-Some.ensures.function in
    let before = ap file_weight (take-map item_tree c.args.place c.args.file.now) in
    (omega (arith, lighter, before), tt)

pub functions::call_function-returns-in-Some-clause-gives : goal.functions::call_function-returns-in-Some-clause-gives
functions::call_function-returns-in-Some-clause-gives t c =
    rw (calls-some c.args.file.now c.args.place c.in-Some.function.now c.args.args.now c.args.turns.now c.in-Some.ensures.function)
    c.entered.ensures.gives

pub functions::entered-returns-in_err-take_turn-clause-gives : goal.functions::entered-returns-in_err-take_turn-clause-gives
functions::entered-returns-in_err-take_turn-clause-gives t c =
    let p = err_from_is_err_and c.from_residual.result c.from_residual.ensures.1 in
    rw (p.1, p.2)
    (stops-over c.in_err-take_turn.field-0.0 _ c.in_err-take_turn.ensures.none.0
    (call-zero (file_of (map item_tree c.args.file.now)) (function_tree c.args.function.now) c.args.args.now c.args.turns.now
    c.in_err-take_turn.ensures.none.1))

pub functions::entered-returns-in_err-flow-clause-gives : goal.functions::entered-returns-in_err-flow-clause-gives
functions::entered-returns-in_err-flow-clause-gives t c =
    let state = c.in_ok-state.ensures
    ∙ ap (λ ns. state_of (bind_params ns c.args.args.now []) []) c.list.ensures in
    let runs = call-one (file_of (map item_tree c.args.file.now)) c.args.function.now c.args.args.now c.args.turns.now c.take_turn.new.turns
    c.in_ok-state.state c.in_ok-take_turn.ensures.taken state in
    let p = err_from_is_err_and c.from_residual-in_err-flow.result c.from_residual-in_err-flow.ensures.1 in
    rw (p.1, p.2) (stops-as c.in_err-flow.field-0.0 _ _ runs (stops-returned c.in_err-flow.field-0.0 _ _ c.in_err-flow.ensures.leaves))

pub functions::entered-returns-clause-gives : goal.functions::entered-returns-clause-gives
functions::entered-returns-clause-gives t c =
    let state = c.in_ok-state.ensures
    ∙ ap (λ ns. state_of (bind_params ns c.args.args.now []) []) c.list.ensures in
    let runs = call-one (file_of (map item_tree c.args.file.now)) c.args.function.now c.args.args.now c.args.turns.now c.take_turn.new.turns
    c.in_ok-state.state c.in_ok-take_turn.ensures.taken state in
    let given : result_of c.in_ok-flow.flow ≡ to_z w32 (of_z w32 c.result_of.result) = search (rules, c.result_of.ensures) in
    runs ∙ ap returned c.in_ok-flow.ensures.leaves ∙ ap (λ v. Ok (left v c.stmts.new.turns)) given

pub streams::clause_claims-returns-in-Firstprivate-clause-adds : goal.streams::clause_claims-returns-in-Firstprivate-clause-adds
streams::clause_claims-returns-in-Firstprivate-clause-adds t c =
    let file = file_of (map item_tree c.args.file.now) in
    let P : ClauseKind → Type 0 = λ k.
    behind c.args.claims.now (items_claims file (clauses.clause_members (clause_kind_tree k)) c.args.state.now c.args.turns.now)
    ≡ Ok (left c.args.claims.now c.args.turns.now) in
    subst P (sym c.in-Firstprivate.is) (privates-claim file c.in-Firstprivate.field-0 c.args.state.now c.args.turns.now c.args.claims.now)
