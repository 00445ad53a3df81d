use Rattle.std.proofs.Common.{◌≡◌, ◌∙◌}
use Rattle.std.proofs.lemmas.Bool.{eqb-true}
use Rattle.epoch_run.proofs.InOrder.{all_went, are_next, went_on}
use Rattle.epoch_run.proofs.in_order.run_created.Goals as goal

pub run_all-requires-clause-last : goal.run_all-requires-clause-last
run_all-requires-clause-last g c κs within =
    are_next c.args.code.now c.args.input.now c.args.budgets c.args.standing.now c.args.order.now c.requires.goes c.requires.none_ran c.as_slice.result.now c.as_slice.ensures

pub returns-clause-goes : goal.returns-clause-goes
returns-clause-goes g c =
    went_on c.args.code.now c.args.input.now c.args.budgets c.args.standing.now c.args.order.now c.run_all.new.self c.requires.goes c.requires.none_ran c.as_slice.result.now c.as_slice.ensures
    c.in_ok-count.count c.in_ok-count.ensures.ready c.in_ok-count.ensures.within c.in_ok-count.ensures.count c.in_ok-count.ensures.stands _

pub returns-clause-all : goal.returns-clause-all
returns-clause-all g c = λ all.
    let are : c.in_ok-count.count ≡ c.len-2.result = eqb-true c.in_ok-count.count c.len-2.result all in
    all_went c.args.code.now c.args.input.now c.args.budgets c.args.standing.now c.args.order.now c.run_all.new.self c.requires.goes c.requires.none_ran c.as_slice.result.now c.as_slice.ensures
    c.in_ok-count.count c.in_ok-count.ensures.ready c.in_ok-count.ensures.within c.in_ok-count.ensures.count c.in_ok-count.ensures.stands (are ∙ c.len-2.ensures) _
