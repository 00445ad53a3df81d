use Rattle.std.proofs.Common.{◌≡◌, ◌∙◌, ◌⊎◌, ap, arith, subst}
use Rattle.std.proofs.lemmas.Result.{err_from_is_err_and}
use Rattle.collector.specs.Status.{status}
use Rattle.front_end.specs.Texts.{IsAccepted}
use Rattle.os_ast.specs.Views.{program_tree}
use Rattle.osrun_core_answer.proofs.GenRan.{generated_few, told}
use Rattle.osrun_core_jobs.specs.Jobs.{gen_of}
use Rattle.osrun_core_answer.specs.Gen.{four_lines, gen_budget}
use Rattle.osrun_core_run.specs.Refusal.{IsRefusalOf}
use Rattle.osrun_core_run.specs.RunOf.{IsRunOf}
use Rattle.osrun_core_jobs.specs.declared.refusal.Refusal.TheVariants as refusals
use Rattle.osrun_core_answer.proofs.gen_text.gen_text.Goals as goal

pub run_program-requires-clause-few : goal.run_program-requires-clause-few
run_program-requires-clause-few g c lifetimes live =
    generated_few _ _ _ (c.deref.ensures.value ∙ c.in_ok-input.ensures) (omega (arith, c.requires.few_blocks))

pub lines-requires-clause-few_read : goal.lines-requires-clause-few_read
lines-requires-clause-few_read g c =
    generated_few _ _ _ (c.deref-2.ensures.value ∙ c.in_ok-input.ensures) (omega (arith, c.requires.few_blocks))

pub returns-in_err-kernel-clause-refused : goal.returns-in_err-kernel-clause-refused
returns-in_err-kernel-clause-refused g c =
    let e = err_from_is_err_and c.from_residual-in_err-kernel.result c.from_residual-in_err-kernel.ensures.1 in
    let why = c.in_err-kernel.field-0.0 in
    rw (e.1, e.2) (subst (λ text. (why ≡ refusals.Memory) ⊎ IsRefusalOf text why) c.as_bytes.ensures.value c.in_err-kernel.ensures.refused)

pub returns-clause-run : goal.returns-clause-run
returns-clause-run g c =
    let job = gen_of c.args.job.now in
    let p = program_tree c.in_ok-kernel.kernel.program in
    let input = c.in_ok-input.input.items in
    let run = c.in_ok-run.run' in
    let accepted = subst (λ text. IsAccepted text p) c.as_bytes.ensures.value c.in_ok-kernel.ensures.program in
    let ran = subst (λ bytes. IsRunOf gen_budget gen_budget p bytes run.output.items run.layout run.ends run.control)
    c.deref.ensures.value c.in_ok-run.ensures.run in
    let lines = c.in_ok-text.ensures ∙ ap (λ bytes. four_lines job bytes run.output.items (status run.ends.ends run.control)) c.deref-2.ensures.value in
    told job p input run.output.items run.layout run.ends run.control ran c.in_ok-input.ensures accepted _ lines
