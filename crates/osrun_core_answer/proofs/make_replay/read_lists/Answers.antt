use Rattle.std.proofs.Common.{◌≡◌, ◌≤◌, ◌<◌, ◌^◌, ◌⊎◌, All, length, subst}
use Rattle.std.proofs.lemmas.Result.{err_from_is_err_and}
use Rattle.osrun_core_answer.proofs.Loaded.{not_loaded, opened_so, refused_bytes, was_read}
use Rattle.osrun_core_jobs.specs.declared.refusal.Refusal.TheVariants as refusals
use Rattle.osrun_core_jobs.specs.declared.subject.Subject.TheVariants as subjects
use Rattle.osrun_core_run.specs.Refusal.{IsRefusalAs}
use Rattle.trace_replay_text.specs.Trace.{IsTraceOf}
use Rattle.osrun_core_answer.proofs.make_replay.read_lists.Goals as goal

pub returns-in_err-bytes : goal.returns-in_err-bytes
returns-in_err-bytes g c =
    let e = err_from_is_err_and c.from_residual.result c.from_residual.ensures.1 in
    let l = c.in_err-bytes.ensures in
    rw (e.1, e.2) (
      opened_so g.F.Files c.args.files.now c.load.new.files (record { subject = subjects.Trace; name = c.args.name.now }) l.opens l.left l.faults_kept l.holds l.may,
      not_loaded g.F.Files c.args.files.now c.load.new.files subjects.Trace c.args.name.now c.in_err-bytes.field-0.0 l.refused l.no_fault,
    )

pub returns-in_err-lists : goal.returns-in_err-lists
returns-in_err-lists g c =
    let e = err_from_is_err_and c.from_residual-in_err-lists.result c.from_residual-in_err-lists.ensures.1 in
    let l = c.in_ok-bytes.ensures in
    let why = c.in_err-lists.field-0.0 in
    let refused = subst (λ bytes. (why ≡ refusals.Memory) ⊎ IsRefusalAs subjects.Trace bytes why) c.deref.ensures.value c.in_err-lists.ensures.refused in
    rw (e.1, e.2) (
      opened_so g.F.Files c.args.files.now c.load.new.files (record { subject = subjects.Trace; name = c.args.name.now }) l.opens l.left l.faults_kept l.holds l.may,
      refused_bytes g.F.Files c.args.files.now c.load.new.files subjects.Trace c.args.name.now c.in_ok-bytes.bytes.items why l.loaded l.no_fault refused,
    )

pub returns : goal.returns
returns g c =
    let l = c.in_ok-bytes.ensures in
    let bytes = c.in_ok-bytes.bytes.items in
    let lists = c.in_ok-lists.lists in
    let is_trace = subst (λ told. IsTraceOf told lists) c.deref.ensures.value c.in_ok-lists.ensures.lists in
    let short = subst (λ told. length told ≤ 4194304 → All (λ list. length list < 2 ^ 32) lists) c.deref.ensures.value c.in_ok-lists.ensures.short in (
      bytes,
      was_read g.F.Files c.args.files.now c.load.new.files subjects.Trace c.args.name.now bytes l.loaded (lists, is_trace) l.opens l.no_fault l.holds l.may,
      is_trace,
      short l.loaded.read.fits,
    )
