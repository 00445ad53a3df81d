use Rattle.std.proofs.Common.{◌≡◌, ◌⊎◌, subst}
use Rattle.std.proofs.lemmas.Result.{err_from_is_err_and}
use Rattle.os_code.specs.Codes.{parts_of}
use Rattle.osrun_core_answer.proofs.Loaded.{not_loaded, opened_so, refused_bytes, was_read}
use Rattle.osrun_core_jobs.specs.declared.refusal.Refusal.TheVariants as refusals
use Rattle.osrun_core_jobs.specs.declared.subject.Subject.TheVariants as subjects
use Rattle.osrun_core_run.specs.Code.{IsObjectOf}
use Rattle.osrun_core_run.specs.Refusal.{IsRefusalAs}
use Rattle.osrun_core_answer.proofs.make_exec.read_object.Goals as goal

pub returns-in_err-object : goal.returns-in_err-object
returns-in_err-object g c =
    let e = err_from_is_err_and c.from_residual.result c.from_residual.ensures.1 in
    let l = c.in_err-object.ensures in
    rw (e.1, e.2) (
      opened_so g.F.Files c.args.files.now c.load.new.files (record { subject = subjects.Object; name = c.args.name.now }) l.opens l.left l.faults_kept l.holds l.may,
      not_loaded g.F.Files c.args.files.now c.load.new.files subjects.Object c.args.name.now c.in_err-object.field-0.0 l.refused l.no_fault,
    )

pub returns-in_err-code : goal.returns-in_err-code
returns-in_err-code g c =
    let e = err_from_is_err_and c.from_residual-in_err-code.result c.from_residual-in_err-code.ensures.1 in
    let l = c.in_ok-object.ensures in
    let why = c.in_err-code.field-0.0 in
    let refused = subst (λ bytes. (why ≡ refusals.Memory) ⊎ IsRefusalAs subjects.Object bytes why) c.deref.ensures.value c.in_err-code.ensures.refused in
    rw (e.1, e.2) (
      opened_so g.F.Files c.args.files.now c.load.new.files (record { subject = subjects.Object; name = c.args.name.now }) l.opens l.left l.faults_kept l.holds l.may,
      refused_bytes g.F.Files c.args.files.now c.load.new.files subjects.Object c.args.name.now c.in_ok-object.object.items why l.loaded l.no_fault refused,
    )

pub returns : goal.returns
returns g c =
    let l = c.in_ok-object.ensures in
    let code = parts_of c.in_ok-code.code in
    let is_object = subst (λ bytes. IsObjectOf bytes code) c.deref.ensures.value c.in_ok-code.ensures.object in (
      c.in_ok-object.object.items,
      was_read g.F.Files c.args.files.now c.load.new.files subjects.Object c.args.name.now c.in_ok-object.object.items l.loaded (code, is_object) l.opens l.no_fault l.holds l.may,
      is_object,
    )
