use Rattle.std.proofs.Common.{◌≡◌, ap, length, refl, subst, ◌∙◌}
use Rattle.control_run.specs.Stretches.{RunSoFar, created_so_far}
use Rattle.os_code.specs.Codes.{parts_of}
use Rattle.os_code.specs.declared.parts.Parts.{Parts}
use Rattle.epoch_run_portions.specs.Positions.{HavePassed}
use Rattle.epoch_run_portions.proofs.Passing.{length-writes}
use Rattle.epoch_run_portions.proofs.Portions.{begins, is_portion}
use Rattle.epoch_run_portions.proofs.portion.run_portion.Goals as goal

pub behind-requires : goal.behind-requires
behind-requires c =
    let walk = c.pass_to.new.self in
    let code_is : walk.control.code ≡ parts_of c.args.code.now = c.in_ok-pass_to.ensures.same.code ∙ ap (λ (r : RunSoFar). r.code) c.in_ok-walk.ensures.run in
    record {
      streams =
          ap length c.as_slice.ensures
          ∙ length-writes c.args.code.now.streams (created_so_far walk.control) walk.positions
          (subst (λ (p : Parts). HavePassed p.streams (created_so_far walk.control) walk.positions) code_is c.in_ok-pass_to.ensures.walked.have_passed);
    }

pub run_stretches-requires-clause-stands : goal.run_stretches-requires-clause-stands
run_stretches-requires-clause-stands c =
    let walk = c.pass_to.new.self in
    let code_is : walk.control.code ≡ parts_of c.args.code.now = c.in_ok-pass_to.ensures.same.code ∙ ap (λ (r : RunSoFar). r.code) c.in_ok-walk.ensures.run in
    begins c.args.code.now c.args.input.now c.args.task_budget walk code_is c.in_ok-pass_to.ensures.walked c.in_ok-apart.apart c.as_slice.result.now c.as_slice.ensures
    c.in_ok-apart.ensures.ready c.in_ok-apart.ensures.first c.in_ok-apart.ensures.none c.in_ok-apart.ensures.stands

pub returns-clause-portion : goal.returns-clause-portion
returns-clause-portion c =
    is_portion c.args.code.now c.args.input.now c.args.task_budget c.args.control_budget (length c.args.input.now) c.in_ok-walk.walk.control c.pass_to.new.self.control c.run_stretches.new.apart
    refl c.in_ok-walk.ensures.run c.in_ok-pass_to.ensures.same c.in_ok-run_stretches.ensures
