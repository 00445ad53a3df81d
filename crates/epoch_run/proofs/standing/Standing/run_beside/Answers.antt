use Rattle.std.proofs.Common.{arith, ap, drop, List, subst, sym, take, ◌∙◌}
use Rattle.flow_core_laws.specs.declared.activation.Activation.{Activation}
use Rattle.control_run.specs.Stretches.{created_so_far}
use Rattle.os_code.specs.Codes.{parts_of}
use Rattle.os_code.specs.Outcomes.{main_control}
use Rattle.stream_match_layouts.proofs.Sums.{frames_bound}
use Rattle.epoch_run.specs.Held.{IsHeldOf}
use Rattle.epoch_run.proofs.Going.{as_many_ends, first_created, has_run, opens, takes_more, whole_layout}
use Rattle.epoch_run.proofs.standing.Standing.run_beside.Goals as goal

pub overflow_cast-bodies : goal.overflow_cast-bodies
overflow_cast-bodies g c =
    omega (arith, frames_bound c.args.self.now.layout (whole_layout c.args.code.now c.args.input.now c.args.budgets c.args.self.now c.requires.budgets c.requires.stands), c.frames.ensures)

pub run_and_advance-requires-clause-open : goal.run_and_advance-requires-clause-open
run_and_advance-requires-clause-open g c κs within =
    let s = c.args.self.now in
    opens c.args.code.now c.args.input.now c.args.budgets s c.requires.budgets c.requires.stands
    (take c.frames.result (main_control (parts_of c.args.code.now) s.layout.input_len c.args.budgets.control).activations)
    (first_created c.args.code.now c.args.input.now c.args.budgets s c.requires.budgets c.requires.stands c.frames.result s.layout.input_len c.frames.ensures c.requires.stands.over)

pub run_and_advance-requires-clause-there : goal.run_and_advance-requires-clause-there
run_and_advance-requires-clause-there g c κs within =
    let s = c.args.self.now in
    record {
      are_last = c.as_slice.ensures ∙ c.requires.stands.are_last ∙ ap (drop s.first) (sym (first_created c.args.code.now c.args.input.now c.args.budgets s c.requires.budgets c.requires.stands c.frames.result s.layout.input_len c.frames.ensures c.requires.stands.over));
      have_ended = c.requires.stands.have_ended;
    }

pub run_and_advance-requires-clause-takes : goal.run_and_advance-requires-clause-takes
run_and_advance-requires-clause-takes g c κs within = λ after added advanced.
    takes_more c.args.code.now c.args.input.now c.args.budgets c.args.self.now c.requires.budgets c.requires.stands c.args.size.activations after c.args.next.now added c.requires.none advanced

pub give_up_ended-requires : goal.give_up_ended-requires
give_up_ended-requires g c =
    let s = c.args.self.now in
    let n = as_many_ends c.args.code.now c.args.input.now c.args.budgets s c.requires.budgets c.requires.stands c.run_and_advance.new.held
    (subst (λ (xs : List Activation). IsHeldOf (parts_of c.args.code.now) xs c.args.input.now c.args.budgets.task c.run_and_advance.new.held)
    (first_created c.args.code.now c.args.input.now c.args.budgets s c.requires.budgets c.requires.stands c.frames.result s.layout.input_len c.frames.ensures c.requires.stands.over)
    c.in_ok-laid.ensures.held) in
    let f = c.requires.stands.lawful.activations_are_few in
    omega (arith, n, f)

pub returns-clause-run : goal.returns-clause-run
returns-clause-run g c =
    let s = c.args.self.now in
    c.give_up_ended.ensures.run c.args.code.now c.args.input.now c.args.budgets (created_so_far s.control)
    (has_run c.args.code.now c.args.input.now c.args.budgets s c.requires.budgets c.requires.stands c.later_activations_change_nothing.ensures c.run_and_advance.new.control c.run_and_advance.new.held
    (subst (λ (xs : List Activation). IsHeldOf (parts_of c.args.code.now) xs c.args.input.now c.args.budgets.task c.run_and_advance.new.held)
    (first_created c.args.code.now c.args.input.now c.args.budgets s c.requires.budgets c.requires.stands c.frames.result s.layout.input_len c.frames.ensures c.requires.stands.over)
    c.in_ok-laid.ensures.held))
