use Rattle.std.proofs.Common.{◌≡◌, ◌⊎◌, subst}
use Rattle.std.proofs.lemmas.Result.{err_from_is_err_and}
use Rattle.front_end.specs.Texts.{IsAccepted}
use Rattle.os_ast.specs.Views.{program_tree}
use Rattle.osrun_core_answer.proofs.Loaded.{not_loaded, opened_so, refused_bytes, was_read}
use Rattle.osrun_core_jobs.specs.declared.refusal.Refusal.TheVariants as refusals
use Rattle.osrun_core_jobs.specs.declared.subject.Subject.TheVariants as subjects
use Rattle.osrun_core_run.specs.Refusal.{IsRefusalOf}
use Rattle.osrun_core_answer.proofs.make_run.read_program.Goals as goal

pub returns-in_err-text : goal.returns-in_err-text
returns-in_err-text g c =
    let e = err_from_is_err_and c.from_residual.result c.from_residual.ensures.1 in
    let l = c.in_err-text.ensures in
    rw (e.1, e.2) (
      opened_so g.F.Files c.args.files.now c.load.new.files (record { subject = subjects.Program; name = c.args.name.now }) l.opens l.left l.faults_kept l.holds l.may,
      not_loaded g.F.Files c.args.files.now c.load.new.files subjects.Program c.args.name.now c.in_err-text.field-0.0 l.refused l.no_fault,
    )

pub returns-in_err-checked : goal.returns-in_err-checked
returns-in_err-checked g c =
    let e = err_from_is_err_and c.from_residual-in_err-checked.result c.from_residual-in_err-checked.ensures.1 in
    let l = c.in_ok-text.ensures in
    let why = c.in_err-checked.field-0.0 in
    let refused = subst (λ text. (why ≡ refusals.Memory) ⊎ IsRefusalOf text why) c.deref.ensures.value c.in_err-checked.ensures.refused in
    rw (e.1, e.2) (
      opened_so g.F.Files c.args.files.now c.load.new.files (record { subject = subjects.Program; name = c.args.name.now }) l.opens l.left l.faults_kept l.holds l.may,
      refused_bytes g.F.Files c.args.files.now c.load.new.files subjects.Program c.args.name.now c.in_ok-text.text.items why l.loaded l.no_fault refused,
    )

pub returns : goal.returns
returns g c =
    let l = c.in_ok-text.ensures in
    let p = program_tree c.in_ok-checked.checked.program in
    let accepted = subst (λ text. IsAccepted text p) c.deref.ensures.value c.in_ok-checked.ensures.program in (
      c.in_ok-text.text.items,
      was_read g.F.Files c.args.files.now c.load.new.files subjects.Program c.args.name.now c.in_ok-text.text.items l.loaded (p, accepted) l.opens l.no_fault l.holds l.may,
      accepted,
    )
