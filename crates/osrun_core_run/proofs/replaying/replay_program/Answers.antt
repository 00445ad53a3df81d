use Rattle.os_ast.specs.Views.{program_tree}
use Rattle.os_code.specs.Codes.{parts_of}
use Rattle.osrun_core_run.proofs.HandedBack.{has_bytes, has_its_cell, is_replay}
use Rattle.osrun_core_run.proofs.replaying.replay_program.Goals as goal

pub hand_back-requires-clause-stands : goal.hand_back-requires-clause-stands
hand_back-requires-clause-stands c = (c.args.input.now, c.in_ok-answered.ensures.planned.stands)

pub hand_back-requires-clause-bytes : goal.hand_back-requires-clause-bytes
hand_back-requires-clause-bytes c =
    let answered = c.in_ok-answered.answered in
    let is = c.in_ok-answered.ensures in
    has_bytes (parts_of c.in_ok-code.code) c.args.budgets c.args.input.now c.args.lists.now answered.planned is.planned c.plan_meaning.ensures.meaning
    c.plan_meaning.ensures.sink c.codes_give_bytes.ensures c.outputs_are_bytes.ensures c.in_ok-code.code.valid answered.replayed is.answer

pub hand_back-requires-clause-cell : goal.hand_back-requires-clause-cell
hand_back-requires-clause-cell c =
    let answered = c.in_ok-answered.answered in
    let is = c.in_ok-answered.ensures in
    has_its_cell (parts_of c.in_ok-code.code) c.args.budgets c.args.input.now c.args.lists.now answered.planned is.planned answered.replayed is.answer

pub returns : goal.returns
returns c =
    let answered = c.in_ok-answered.answered in
    let is = c.in_ok-answered.ensures in
    is_replay (parts_of c.in_ok-code.code) c.args.budgets c.args.input.now c.args.lists.now answered.planned is.planned c.plan_meaning.ensures.meaning
    c.plan_meaning.ensures.sink c.agreeing_bodies_mean_one.ensures (program_tree c.args.checked.now.program) c.in_ok-code.ensures answered.replayed is.answer
    c.in_ok-replay.replay c.in_ok-replay.ensures
