use Rattle.std.proofs.Common.{◌≡◌, ◌+◌, [], ◌∷◌, ◌++◌, length, true, false, refl, ap, ◌∙◌, arith}
use Rattle.std.proofs.lemmas.Result.{err_from_is_err_and}
use Rattle.std.proofs.lemmas.List.{length_push}
use Rattle.os_ast.specs.Views.{clause_tree}
use Rattle.os_parser_grammar.specs.Expressions.{below}
use Rattle.os_parser_grammar.specs.Statements.{line_goes_on, clause, first_clause, some_clauses}
use Rattle.os_parser_grammar.proofs.Lists as lists
use Rattle.os_parser_expressions.proofs.Refusals.{refuses-on}
use Rattle.os_parser_grammar.proofs.Taken.{clause-some}
use Rattle.os_parser_parts.proofs.pragmas.some_clauses.Goals as goal

pub returns-in_err-first_clause-clause-gives : goal.returns-in_err-first_clause-clause-gives
unfolding some_clauses
returns-in_err-first_clause-clause-gives c =
    let p = err_from_is_err_and c.from_residual.result c.from_residual.ensures.1 in
    rw (p.1, p.2) (refuses-on c.in_err-first_clause.field-0.0 c.first_clause.new.cursor _ _ c.in_err-first_clause.ensures.gives (λ e. rw e refl))

pub loop-alloc-init : goal.loop-alloc-init
unfolding some_clauses
loop-alloc-init c =
    let pushed : c.push.new.self ≡ [] ++ c.in_ok-first_clause.field-0 ∷ [] = cc (c.in_ok-push.ensures.ok, c.new-clauses.ensures) in
    let one : length c.push.new.self ≡ 1 = ap length pushed in
    record {
      read = rw pushed (lists.many-start clause_tree line_goes_on (first_clause (below c.args.depth)) (clause (below c.args.depth)) c.args.cursor.now c.first_clause.new.cursor c.in_ok-first_clause.field-0 c.in_ok-first_clause.ensures.gives);
      within = omega arith;
      some = omega arith;
      shorter = c.in_ok-first_clause.ensures.within;
    }

pub returns-in_err-clause-clause-gives : goal.returns-in_err-clause-clause-gives
returns-in_err-clause-clause-gives c =
    let p = err_from_is_err_and c.from_residual-in_err-clause.result c.from_residual-in_err-clause.ensures.1 in
    let on : line_goes_on c.loop-alloc.cursor ≡ true = cc in
    rw (p.1, p.2)
    (refuses-on c.in_err-clause.field-0.0 c.clause.new.cursor _ _ c.in_err-clause.ensures.gives
    (λ e. c.loop-alloc.invariant.read
    ∙ lists.with_list-fails (length c.first_clause.new.cursor + 2) clause_tree c.loop-alloc.clauses line_goes_on (clause (below c.args.depth))
    c.loop-alloc.cursor c.clause.new.cursor (omega arith) on e))

pub loop-alloc-preserved : goal.loop-alloc-preserved
loop-alloc-preserved c =
    let on : line_goes_on c.loop-alloc.cursor ≡ true = cc in
    let x = c.in_ok-clause.field-0 in
    let pushed : c.push-in-loop-alloc.new.self ≡ c.loop-alloc.clauses ++ x ∷ [] = c.in_ok-push-2.ensures.ok in
    let longer : length c.push-in-loop-alloc.new.self ≡ length c.loop-alloc.clauses + 1 = ap length pushed ∙ length_push c.loop-alloc.clauses x in
    record {
      read = rw pushed (c.loop-alloc.invariant.read
          ∙ lists.with_list-more (length c.first_clause.new.cursor + 2) clause_tree c.loop-alloc.clauses line_goes_on (clause (below c.args.depth))
          c.loop-alloc.cursor c.clause.new.cursor x (omega arith) on c.in_ok-clause.ensures.gives);
      within =
          let past = clause-some (below c.args.depth) c.loop-alloc.cursor c.clause.new.cursor (clause_tree x) c.in_ok-clause.ensures.gives in
          omega (arith, c.in_ok-clause.ensures.taken);
      some = omega arith;
      shorter = c.loop-alloc.invariant.shorter;
    }

pub loop-alloc-smaller : goal.loop-alloc-smaller
loop-alloc-smaller c =
    let past = clause-some (below c.args.depth) c.loop-alloc.cursor c.clause.new.cursor (clause_tree c.in_ok-clause.field-0) c.in_ok-clause.ensures.gives in
    omega (arith, c.in_ok-clause.ensures.taken)

pub returns-clause-gives : goal.returns-clause-gives
returns-clause-gives c =
    let off : line_goes_on c.loop-alloc.cursor ≡ false = cc in
    c.loop-alloc.invariant.read
    ∙ lists.with_list-end (length c.first_clause.new.cursor + 2) clause_tree c.loop-alloc.clauses line_goes_on (clause (below c.args.depth))
    c.loop-alloc.cursor (omega arith) off

pub returns-clause-within : goal.returns-clause-within
returns-clause-within c = omega (arith, c.loop-alloc.invariant.within, c.loop-alloc.invariant.shorter)
