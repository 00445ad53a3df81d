use Rattle.std.proofs.Common.{◌∙◌, ◌++◌, All, List, ap, subst, sym, take}
use Rattle.control_run.specs.Stretches.{remaining}
use Rattle.flow_core_laws.specs.declared.activation.Activation.{Activation}
use Rattle.os_code.specs.Codes.{parts_of}
use Rattle.os_code.specs.Tasks.{Fits}
use Rattle.osview_answer.proofs.MainRuns.{all-fit, all-given, no-steps-untold, no-turns-untold, steps-told, turns-told}
use Rattle.osview_answer.proofs.main_run.run_main.Goals as goal

pub unreachable-requires : goal.unreachable-requires
unreachable-requires c =
    no-steps-untold c.args.code.now c.args.input_len c.args.budget c.requires.budget _ _ c.in_ok-run.ensures c.in_ok-advance.ensures.run c.in-None.ensures

pub unreachable-requires-in-None-turns : goal.unreachable-requires-in-None-turns
unreachable-requires-in-None-turns c =
    no-turns-untold c.args.code.now c.args.input_len c.args.budget c.requires.budget _ _ c.in_ok-run.ensures c.in_ok-advance.ensures.run c.in-None-turns.ensures

pub returns-clause-activations : goal.returns-clause-activations
returns-clause-activations c =
    c.in_ok-advance.ensures.list ∙ ap (λ (xs : List Activation). xs ++ take 4294967295 (remaining c.in_ok-run.run')) c.new-activations.ensures
    ∙ all-given c.args.code.now c.args.input_len c.args.budget c.requires.budget _ _ c.in_ok-run.ensures c.in_ok-advance.ensures.run

pub returns-clause-fit : goal.returns-clause-fit
returns-clause-fit c =
    let list = c.in_ok-advance.ensures.list ∙ ap (λ (xs : List Activation). xs ++ take 4294967295 (remaining c.in_ok-run.run')) c.new-activations.ensures
    ∙ all-given c.args.code.now c.args.input_len c.args.budget c.requires.budget _ _ c.in_ok-run.ensures c.in_ok-advance.ensures.run in
    subst (λ (xs : List Activation). All (Fits (parts_of c.args.code.now)) xs) (sym list)
    (all-fit c.args.code.now c.args.input_len c.args.budget c.requires.budget _ _ c.in_ok-run.ensures c.in_ok-advance.ensures.run c.in_ok-advance.ensures.fit)

pub returns-clause-steps : goal.returns-clause-steps
returns-clause-steps c =
    steps-told c.args.code.now c.args.input_len c.args.budget c.requires.budget _ _ c.in_ok-run.ensures c.in_ok-advance.ensures.run c.in-Some.steps c.in-Some.ensures

pub returns-clause-turns : goal.returns-clause-turns
returns-clause-turns c =
    turns-told c.args.code.now c.args.input_len c.args.budget c.requires.budget _ _ c.in_ok-run.ensures c.in_ok-advance.ensures.run c.in-Some-turns.turns c.in-Some-turns.ensures
