use Rattle.std.proofs.Common.{◌++◌, List, false, take, ap, subst, ◌∙◌}
use Rattle.flow_core_laws.specs.declared.activation.Activation.{Activation}
use Rattle.os_code.specs.Codes.{parts_of}
use Rattle.os_code.specs.Outcomes.{main_control}
use Rattle.control_run.specs.Ending.{StopsAs, contents}
use Rattle.control_run.specs.Standing.{has_ended}
use Rattle.control_run.specs.Stretches.{RunSoFar, IsPartOfStretch, created_so_far, remaining}
use Rattle.control_run.proofs.All.{part-taken}
use Rattle.control_run.proofs.Law.{AreTaken}
use Rattle.control_run.proofs.Parts.{part-is, joined-is, part-of-stretch, on-err}
use Rattle.control_run.proofs.stretches.ControlRun.advance.Goals as goal

pub returns-in-Ended-clause-fit : goal.returns-in-Ended-clause-fit
returns-in-Ended-clause-fit c =
    (subst (λ (run : RunSoFar). AreTaken run.code (created_so_far run)) c.self.view_is
    (part-taken c.self.inside.code.now c.self.inside.input_len c.self.inside.budget c.self.inside.machine.made.created c.self.invariant.low)).fit

pub returns-in-Ended-clause-lawful : goal.returns-in-Ended-clause-lawful
returns-in-Ended-clause-lawful c =
    (subst (λ (run : RunSoFar). AreTaken run.code (created_so_far run)) c.self.view_is
    (part-taken c.self.inside.code.now c.self.inside.input_len c.self.inside.budget c.self.inside.machine.made.created c.self.invariant.low)).lawful

pub returns-in-GivenUp-clause-fit : goal.returns-in-GivenUp-clause-fit
returns-in-GivenUp-clause-fit c =
    (subst (λ (run : RunSoFar). AreTaken run.code (created_so_far run)) c.self.view_is
    (part-taken c.self.inside.code.now c.self.inside.input_len c.self.inside.budget c.self.inside.machine.made.created c.self.invariant.low)).fit

pub returns-in-GivenUp-clause-lawful : goal.returns-in-GivenUp-clause-lawful
returns-in-GivenUp-clause-lawful c =
    (subst (λ (run : RunSoFar). AreTaken run.code (created_so_far run)) c.self.view_is
    (part-taken c.self.inside.code.now c.self.inside.input_len c.self.inside.budget c.self.inside.machine.made.created c.self.invariant.low)).lawful

pub returns-in_err-stop-clause-some_of_them : goal.returns-in_err-stop-clause-some_of_them
returns-in_err-stop-clause-some_of_them c =
    on-err c.from_residual.result _
    (subst (λ (run : RunSoFar). IsPartOfStretch run c.args.at_most
    (record { code = parts_of c.self.inside.code.now; input_len = c.self.inside.input_len; budget = c.self.inside.budget; created_by_now = c.go_on.new.self.made.created; has_ended = false })
    c.args.into.now c.go_on.new.into) c.self.view_is
    (part-of-stretch (parts_of c.self.inside.code.now) c.self.inside.input_len c.self.inside.budget c.args.at_most _ _ _ _ (has_ended c.self.inside.stage)
    (ap has_ended c.in-Standing.is) c.in_err-stop.ensures.at_most c.in_err-stop.ensures.gives))

pub returns-in_err-stop-clause-fit : goal.returns-in_err-stop-clause-fit
returns-in_err-stop-clause-fit c = (part-taken c.self.inside.code.now _ _ _ c.self.invariant.low).fit

pub returns-in_err-stop-clause-lawful : goal.returns-in_err-stop-clause-lawful
returns-in_err-stop-clause-lawful c = (part-taken c.self.inside.code.now _ _ _ c.self.invariant.low).lawful

pub returns-in-Some-clause-fit : goal.returns-in-Some-clause-fit
returns-in-Some-clause-fit c = (part-taken c.self.inside.code.now _ _ _ c.self.invariant.low).fit

pub returns-in-Some-clause-lawful : goal.returns-in-Some-clause-lawful
returns-in-Some-clause-lawful c = (part-taken c.self.inside.code.now _ _ _ c.self.invariant.low).lawful

pub returns-in-None-clause-fit : goal.returns-in-None-clause-fit
returns-in-None-clause-fit c = (part-taken c.self.inside.code.now _ _ _ c.self.invariant.low).fit

pub returns-in-None-clause-lawful : goal.returns-in-None-clause-lawful
returns-in-None-clause-lawful c = (part-taken c.self.inside.code.now _ _ _ c.self.invariant.low).lawful

pub returns-in-None-clause-list : goal.returns-in-None-clause-list
returns-in-None-clause-list c =
    let stops = subst (StopsAs (parts_of c.self.inside.code.now) c.self.inside.input_len c.self.inside.budget _ (contents c.go_on.new.self)) c.in-None.is c.in_ok-stop.ensures.stops in
    c.in_ok-stop.ensures.gives.list
    ∙ ap (λ (xs : List Activation). c.args.into.now ++ xs) (part-is (main_control (parts_of c.self.inside.code.now) c.self.inside.input_len c.self.inside.budget).activations _ _ c.args.at_most stops.1)
    ∙ ap (λ (run : RunSoFar). c.args.into.now ++ take c.args.at_most (remaining run)) c.self.view_is

pub returns-in-None-clause-joined : goal.returns-in-None-clause-joined
returns-in-None-clause-joined c =
    let stops = subst (StopsAs (parts_of c.self.inside.code.now) c.self.inside.input_len c.self.inside.budget _ (contents c.go_on.new.self)) c.in-None.is c.in_ok-stop.ensures.stops in
    joined-is (main_control (parts_of c.self.inside.code.now) c.self.inside.input_len c.self.inside.budget).activations _ _ c.args.at_most stops.1
    ∙ ap (λ (run : RunSoFar). created_so_far run ++ take c.args.at_most (remaining run)) c.self.view_is
