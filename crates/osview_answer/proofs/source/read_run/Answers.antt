use Rattle.std.proofs.Common.{[], ◌∷◌}
use Rattle.std.proofs.lemmas.Result.{err_from_is_err_and}
use Rattle.osrun_core_answer.proofs.Loaded.{not_loaded, opened_so, was_read}
use Rattle.osrun_core_answer.proofs.MadeRun.{both_read, cause_of_first, cause_of_second, input_file, may_open_first, may_open_second, program_file}
use Rattle.osrun_core_jobs.specs.declared.subject.Subject.TheVariants as subjects
use Rattle.osview_answer.proofs.source.read_run.Goals as goal

pub read_source-requires : goal.read_source-requires
read_source-requires g c =
    may_open_first (g.F.Files.may c.args.files.now) (g.F.Files.opens c.args.files.now) (program_file c.args.job.now.program.now) (input_file c.args.job.now.input.now ∷ []) (g.met.F.Files.may_at_last c.args.files.now) c.requires

pub returns-in_err-source : goal.returns-in_err-source
returns-in_err-source g c =
    let e = err_from_is_err_and c.from_residual.result c.from_residual.ensures.1 in
    let l = c.in_err-source.ensures in
    rw (e.1, e.2) (cause_of_first g.F.Files (program_file c.args.job.now.program.now) (input_file c.args.job.now.input.now ∷ []) c.args.files.now c.read_source.new.files c.in_err-source.field-0.0 l.0 l.1)

pub load-requires : goal.load-requires
load-requires g c =
    let was = c.in_ok-source.ensures.0 in
    let allowed = may_open_second (g.F.Files.may c.args.files.now) (g.F.Files.opens c.args.files.now) (program_file c.args.job.now.program.now) (input_file c.args.job.now.input.now) [] (g.met.F.Files.may_at_last c.args.files.now) c.requires in
    rw (was.may_kept, was.opened) allowed

pub returns-in_err-input : goal.returns-in_err-input
returns-in_err-input g c =
    let e = err_from_is_err_and c.from_residual-in_err-input.result c.from_residual-in_err-input.ensures.1 in
    let was = c.in_ok-source.ensures.0 in
    let l = c.in_err-input.ensures in
    let between = c.read_source.new.files in
    let new = c.load.new.files in
    rw (e.1, e.2) (cause_of_second g.F.Files (program_file c.args.job.now.program.now) (input_file c.args.job.now.input.now) [] c.args.files.now between new c.in_ok-source.source.text.items c.in_err-input.field-0.0 was
    (opened_so g.F.Files between new (input_file c.args.job.now.input.now) l.opens l.left l.faults_kept l.holds l.may)
    (not_loaded g.F.Files between new subjects.Input c.args.job.now.input.now c.in_err-input.field-0.0 l.refused l.no_fault))

pub returns : goal.returns
returns g c =
    let was = c.in_ok-source.ensures in
    let l = c.in_ok-input.ensures in
    let between = c.read_source.new.files in
    let new = c.load.new.files in
    let text = c.in_ok-source.source.text.items in
    let input = c.in_ok-input.input.items in
    record {
      read = both_read g.F.Files (program_file c.args.job.now.program.now) (input_file c.args.job.now.input.now) c.args.files.now between new text input was.0
          (was_read g.F.Files between new subjects.Input c.args.job.now.input.now input l.loaded tt l.opens l.no_fault l.holds l.may);
      is_source = was.1;
      few = l.loaded.read.fits;
    }
