use Rattle.std.proofs.Common.{◌≡◌, ◌≤◌, ◌+◌, ℕ, List, ◌++◌, drop, map, option_map, Ok}
use Rattle.std.specs.Option.{option_copied}
use Rattle.cddf_meaning.specs.Answers.{and_then, left}
use Rattle.cddf_meaning.specs.Functions.{file_of}
use Rattle.cddf_meaning.specs.Run.{loop, run, run_all, run_declarators, run_step, run_test}
use Rattle.cddf_meaning.specs.Streams.{items_claims}
use Rattle.cddf_meaning_plain_state.specs.Claimed.{behind}
use Rattle.cddf_meaning_plain.specs.Loops.{repeated}
use Rattle.cddf_meaning_plain_tasks.specs.Arounds.{around_of}
use Rattle.cddf_meaning.specs.Value.{chained, values}
use Rattle.cddf_meaning_plain.specs.Weights.{args_weight, change_weight, clause_weight, declarator_weight, expr_weight, file_weight, index_weight, item_weight, kind_weight, links_weight, start_weight, step_weight, stmt_weight, stmts_weight, target_weight, value_weight, weights}
use Rattle.os_ast.specs.ClauseMembers as clause
use Rattle.os_ast.specs.Unsigned.{is_unsigned}
use Rattle.os_ast.specs.Views.{args_tree, change_tree, clause_item_tree, clause_kind_tree, clause_tree, declarator_tree, expr_tree, item_tree, join_tree, links_tree, start_tree, stmt_tree, stmts_tree, target_tree}
use Rattle.os_ast.specs.declared.program.Item.{Item}
use Rattle.cddf_meaning_plain.proofs.+meaning.Given as goal

-- what the functions of a file can still do
abbrev in_file : List Item → ℕ
in_file items = file_weight (map item_tree items)

abbrev pub decreases-value::value : goal.decreases-value::value
decreases-value::value l = in_file l.file.now + expr_weight (expr_tree l.expr.now)

abbrev pub decreases-value::place : goal.decreases-value::place
decreases-value::place l = in_file l.file.now + target_weight (target_tree l.target.now)

abbrev pub decreases-value::chained : goal.decreases-value::chained
decreases-value::chained l = in_file l.file.now + links_weight (links_tree l.links.now)

abbrev pub decreases-value::linked : goal.decreases-value::linked
decreases-value::linked l = in_file l.file.now + 1 + expr_weight (expr_tree l.link.now.right)

abbrev pub decreases-value::called : goal.decreases-value::called
decreases-value::called l = in_file l.file.now + 1 + args_weight (args_tree l.call.now.args)

abbrev pub decreases-value::arguments : goal.decreases-value::arguments
decreases-value::arguments l = in_file l.file.now + args_weight (args_tree l.args.now)

abbrev pub decreases-functions::call_function : goal.decreases-functions::call_function
decreases-functions::call_function l = in_file l.file.now

abbrev pub decreases-functions::entered : goal.decreases-functions::entered
decreases-functions::entered l = in_file l.file.now + 1 + stmts_weight (stmts_tree l.function.now.body)

abbrev pub decreases-changes::aim_at : goal.decreases-changes::aim_at
decreases-changes::aim_at l = in_file l.file.now + target_weight (target_tree l.target.now)

abbrev pub decreases-changes::change : goal.decreases-changes::change
decreases-changes::change l = in_file l.file.now + change_weight (change_tree l.change.now)

abbrev pub decreases-run::stmt : goal.decreases-run::stmt
decreases-run::stmt l = in_file l.around.now.file.now + stmt_weight (stmt_tree l.stmt.now)

abbrev pub decreases-run::stmts : goal.decreases-run::stmts
decreases-run::stmts l = in_file l.around.now.file.now + stmts_weight (stmts_tree l.list.now)

abbrev pub decreases-run::block : goal.decreases-run::block
decreases-run::block l = in_file l.around.now.file.now + 1 + stmts_weight (stmts_tree l.list.now)

abbrev pub decreases-run::for_loop : goal.decreases-run::for_loop
decreases-run::for_loop l =
    in_file l.around.now.file.now + 3 + start_weight (start_tree l.head.now.start) + value_weight (option_map expr_tree l.head.now.test)
    + step_weight (option_map change_tree l.head.now.step) + stmt_weight (stmt_tree l.body.now)

abbrev pub decreases-run::start : goal.decreases-run::start
decreases-run::start l = in_file l.around.now.file.now + start_weight (start_tree l.start.now)

abbrev pub decreases-run::repeat : goal.decreases-run::repeat
decreases-run::repeat l =
    in_file l.around.now.file.now + 2 + value_weight (option_map expr_tree (option_copied l.test))
    + step_weight (option_map change_tree (option_copied l.step)) + stmt_weight (stmt_tree l.body.now)

abbrev pub decreases-run::tested : goal.decreases-run::tested
decreases-run::tested l = in_file l.file.now + 1 + value_weight (option_map expr_tree (option_copied l.test))

abbrev pub decreases-run::stepped : goal.decreases-run::stepped
decreases-run::stepped l = in_file l.file.now + 1 + step_weight (option_map change_tree (option_copied l.step))

abbrev pub decreases-run::declarators : goal.decreases-run::declarators
decreases-run::declarators l = in_file l.around.now.file.now + weights declarator_weight (map declarator_tree l.list.now)

abbrev pub decreases-run::declarator : goal.decreases-run::declarator
decreases-run::declarator l = in_file l.around.now.file.now + declarator_weight (declarator_tree l.declarator.now)

abbrev pub decreases-run::scalar : goal.decreases-run::scalar
decreases-run::scalar l = in_file l.file.now + 1 + value_weight (option_map expr_tree l.declarator.now.first)

abbrev pub decreases-streams::stream_number : goal.decreases-streams::stream_number
decreases-streams::stream_number l = in_file l.file.now + target_weight (target_tree l.stream.now)

abbrev pub decreases-streams::item_claim : goal.decreases-streams::item_claim
decreases-streams::item_claim l = in_file l.file.now + item_weight (clause_item_tree l.item.now)

abbrev pub decreases-streams::joined : goal.decreases-streams::joined
decreases-streams::joined l = in_file l.file.now + 1 + index_weight (join_tree l.join.now).burst

abbrev pub decreases-streams::add_claims : goal.decreases-streams::add_claims
decreases-streams::add_claims l = in_file l.file.now + weights item_weight (map clause_item_tree l.items.now)

abbrev pub decreases-streams::clause_claims : goal.decreases-streams::clause_claims
decreases-streams::clause_claims l = in_file l.file.now + 1 + kind_weight (clause_kind_tree l.kind.now)

abbrev pub decreases-streams::all_claims : goal.decreases-streams::all_claims
decreases-streams::all_claims l = in_file l.file.now + weights clause_weight (map clause_tree l.clauses.now)

abbrev pub decreases-streams::task : goal.decreases-streams::task
decreases-streams::task l = in_file l.around.now.file.now + 1 + weights clause_weight (map clause_tree l.site.now.clauses)

abbrev pub decreases-streams::tick : goal.decreases-streams::tick
decreases-streams::tick l =
    in_file l.file.now + 1 + target_weight (target_tree l.site.now.stream) + expr_weight (expr_tree l.site.now.amount)

abbrev pub invariant-value::chained-loop-link : goal.invariant-value::chained-loop-link
invariant-value::chained-loop-link l =
    let file = file_of (map item_tree l.file) in
    (chained file (links_tree (drop l.link-index l.links)) l.state l.unsigned (left l.left l.turns)
    ≡ chained file (links_tree l.links) l.state l.initial.unsigned (left l.initial.left l.initial.turns))
    × (l.turns ≤ l.initial.turns)

abbrev pub invariant-value::arguments-loop-arg : goal.invariant-value::arguments-loop-arg
invariant-value::arguments-loop-arg l =
    let file = file_of (map item_tree l.file) in
    (and_then (values file (args_tree (drop l.arg-index l.args)) l.state l.turns) (λ ns. Ok (left (l.values ++ ns.value) ns.turns))
    ≡ values file (args_tree l.args) l.state l.initial.turns)
    × (l.turns ≤ l.initial.turns)

abbrev pub invariant-run::stmts-loop-next : goal.invariant-run::stmts-loop-next
invariant-run::stmts-loop-next l =
    (run_all (around_of l.around) (stmts_tree (drop l.next-index l.list)) l.state l.turns
    ≡ run_all (around_of l.around) (stmts_tree l.list) l.initial.state l.initial.turns)
    × (l.turns ≤ l.initial.turns)

abbrev pub invariant-run::declarators-loop-next : goal.invariant-run::declarators-loop-next
invariant-run::declarators-loop-next l =
    (run_declarators (around_of l.around) (is_unsigned l.ty) (map declarator_tree (drop l.next-index l.list)) l.state l.turns
    ≡ run_declarators (around_of l.around) (is_unsigned l.ty) (map declarator_tree l.list) l.initial.state l.initial.turns)
    × (l.turns ≤ l.initial.turns)

abbrev pub invariant-run::repeat-loop-alloc : goal.invariant-run::repeat-loop-alloc
invariant-run::repeat-loop-alloc l =
    let u = around_of l.around in
    (most : ℕ) × (l.turns ≤ most)
    × (loop most (run_test u.file (option_map expr_tree (option_copied l.test))) (run u (stmt_tree l.body))
    (run_step u.file (option_map change_tree (option_copied l.step))) l.state l.turns
    ≡ repeated u (option_copied l.test) l.body (option_copied l.step) l.initial.state l.initial.turns)
    × (l.turns ≤ l.initial.turns)

abbrev pub decreases-run::repeat-loop-alloc : goal.decreases-run::repeat-loop-alloc
decreases-run::repeat-loop-alloc l = l.turns

abbrev pub invariant-streams::add_claims-loop-item : goal.invariant-streams::add_claims-loop-item
invariant-streams::add_claims-loop-item l =
    let file = file_of (map item_tree l.file) in
    (behind l.claims (items_claims file (map (clause.Item l.direction) (map clause_item_tree (drop l.item-index l.items))) l.state l.turns)
    ≡ behind l.initial.claims (items_claims file (map (clause.Item l.direction) (map clause_item_tree l.items)) l.state l.initial.turns))
    × (l.turns ≤ l.initial.turns)

abbrev pub invariant-streams::all_claims-loop-clause : goal.invariant-streams::all_claims-loop-clause
invariant-streams::all_claims-loop-clause l =
    let file = file_of (map item_tree l.file) in
    (behind l.claims (items_claims file (clause.members (map clause_tree (drop l.clause-index l.clauses))) l.state l.turns)
    ≡ items_claims file (clause.members (map clause_tree l.clauses)) l.state l.initial.turns)
    × (l.turns ≤ l.initial.turns)
